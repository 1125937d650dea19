use Rattle.std.proofs.Common.{◌≡◌, ◌≤◌}
use Rattle.std.specs.List.{filter_map, range_with_len}
use Rattle.std.specs.Prelude.{vec_capacity, vec_len}
use Rattle.site_core.specs.Sights.{counter_row}
use Rattle.site_core.proofs.sight.counters.Given as goal

abbrev pub invariant-loop-c : goal.invariant-loop-c
invariant-loop-c l =
    record {
      rows : l.rows.items ≡ filter_map (counter_row l.counters) (range_with_len 0 l.c);
      few : vec_len l.rows ≤ l.c;
      room : 32 ≤ vec_capacity l.rows;
    }

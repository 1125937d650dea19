use Rattle.std.proofs.Common.{◌≡◌, ◌*◌, ◌≤◌}
use Rattle.std.specs.List.{flat_map, range_with_len}
use Rattle.std.specs.Prelude.{vec_capacity, vec_len}
use Rattle.site_core.specs.Sights.{unpaid_at}
use Rattle.site_core.proofs.sight.all_unpaid.Given as goal

abbrev pub invariant-loop-i : goal.invariant-loop-i
invariant-loop-i l =
    record {
      rows : l.rows.items ≡ flat_map (unpaid_at l.station) (range_with_len 1 l.i);
      few : vec_len l.rows ≤ 2 * l.i;
      room : 64 ≤ vec_capacity l.rows;
    }

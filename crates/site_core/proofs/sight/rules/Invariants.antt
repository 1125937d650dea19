use Rattle.std.proofs.Common.{◌≡◌, ◌≤◌}
use Rattle.std.specs.List.{filter_map, range_with_len}
use Rattle.std.specs.Prelude.{vec_capacity, vec_len}
use Rattle.site_core.specs.SightRooms.{slot_row}
use Rattle.site_core.proofs.sight.rules.Given as goal

abbrev pub invariant-loop-slot : goal.invariant-loop-slot
invariant-loop-slot l =
    record {
      rows : l.rows.items ≡ filter_map (slot_row l.slots) (range_with_len 0 l.slot);
      few : vec_len l.rows ≤ l.slot;
      room : 16 ≤ vec_capacity l.rows;
    }

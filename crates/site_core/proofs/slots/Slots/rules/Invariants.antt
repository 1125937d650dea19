use Rattle.std.proofs.Common.{◌≡◌, ◌+◌, length, map, All}
use Rattle.std.specs.List.{range_with_len}
use Rattle.site_core.specs.Slots.{IsRule, version_in}
use Rattle.site_core.proofs.slots.Slots.rules.Given as goal

abbrev pub invariant-loop-slot : goal.invariant-loop-slot
invariant-loop-slot l =
    record {
      each : l.rules.items ≡ map (λ slot. version_in l.self slot) (range_with_len 0 l.slot);
      good : All (IsRule (l.self.before + length l.self.programs)) l.rules.items;
    }

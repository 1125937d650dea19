use Rattle.std.proofs.Common.{◌≡◌, replicate, None}
use Rattle.days.proofs.step.empty_slots.Given as goal

abbrev pub invariant-loop-added : goal.invariant-loop-added
invariant-loop-added l = l.rules.items ≡ replicate l._added None

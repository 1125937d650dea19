use Rattle.std.proofs.Common.{length}
use Rattle.days.specs.Flaws.{HaveAlike}
use Rattle.days.proofs.reading.first_flaw.Given as goal

abbrev pub invariant-loop-rest : goal.invariant-loop-rest
invariant-loop-rest l = HaveAlike l.text l.other l.rest l.left l.number

abbrev pub decreases-loop-rest : goal.decreases-loop-rest
decreases-loop-rest l = length l.rest

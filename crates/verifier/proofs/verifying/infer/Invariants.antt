use Rattle.verifier.specs.Facts.{stored, carried_in}
use Rattle.verifier.proofs.Visiting.{IsReached}
use Rattle.verifier.proofs.verifying.infer.Given as goal

abbrev pub invariant-loop-pc : goal.invariant-loop-pc
invariant-loop-pc l = IsReached l.units l.options (carried_in l.carried_fact) (stored l.facts) l.pc

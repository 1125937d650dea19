use Rattle.verifier.proofs.Keeping.{ArePut}
use Rattle.verifier.proofs.spills.put_spill.Given as goal

abbrev pub invariant-loop-k : goal.invariant-loop-k
invariant-loop-k l = ArePut l.spill l.at l.k l.initial.spills l.spills

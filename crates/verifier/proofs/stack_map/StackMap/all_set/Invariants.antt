use Rattle.verifier.proofs.Marking.{IsHeld}
use Rattle.verifier.proofs.stack_map.StackMap.all_set.Given as goal

abbrev pub invariant-loop-k : goal.invariant-loop-k
invariant-loop-k l = IsHeld l.self-inside.words l.at l.len l.k

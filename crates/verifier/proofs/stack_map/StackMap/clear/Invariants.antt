use Rattle.verifier.specs.Places.{AreWords}
use Rattle.verifier.proofs.Marking.{IsFreed}
use Rattle.verifier.proofs.stack_map.StackMap.clear.Given as goal

abbrev pub invariant-loop-k : goal.invariant-loop-k
invariant-loop-k l =
    record {
      words : AreWords l.self-inside.words;
      freed : IsFreed l.self-inside.words l.fn.self l.at l.len l.k;
    }

use Rattle.verifier.specs.Places.{AreWords}
use Rattle.verifier.proofs.Marking.{IsMet}
use Rattle.verifier.proofs.stack_map.StackMap.meet.Given as goal

abbrev pub invariant-loop-k : goal.invariant-loop-k
invariant-loop-k l =
    record {
      words : AreWords l.self-inside.words;
      met : IsMet l.self-inside.words l.fn.self l.other-inside.words l.k;
    }

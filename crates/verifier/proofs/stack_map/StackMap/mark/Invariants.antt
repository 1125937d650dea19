use Rattle.verifier.specs.Places.{AreWords}
use Rattle.verifier.proofs.Marking.{IsTaken}
use Rattle.verifier.proofs.stack_map.StackMap.mark.Given as goal

abbrev pub invariant-loop-k : goal.invariant-loop-k
invariant-loop-k l =
    record {
      words : AreWords l.self-inside.words;
      taken : IsTaken l.self-inside.words l.fn.self l.at l.len l.k;
    }

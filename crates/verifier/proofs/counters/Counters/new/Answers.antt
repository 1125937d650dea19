use Rattle.std.proofs.Common.{rules}
use Rattle.verifier.proofs.counters.Counters.new.Goals as goal

pub invariant_of-result : goal.invariant_of-result
invariant_of-result c = record { many = search rules; bounded = c.requires; small = c.prove_small.ensures }

use Rattle.std.proofs.Common.{length}
use Rattle.explaining.specs.Distinct.{HasNewName}
use Rattle.explaining.proofs.words.is_named.Given as goal

-- If none of the rest has the name, none of all has it.
abbrev pub invariant-loop-rest : goal.invariant-loop-rest
invariant-loop-rest l = HasNewName l.rest l.name → HasNewName l.settings l.name

abbrev pub decreases-loop-rest : goal.decreases-loop-rest
decreases-loop-rest l = length l.rest

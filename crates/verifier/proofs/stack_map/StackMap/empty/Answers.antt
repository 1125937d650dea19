use Rattle.verifier.proofs.Marking.{no_place}
use Rattle.verifier.proofs.stack_map.StackMap.empty.Goals as goal

pub returns : goal.returns
returns c p h = no_place 8 p h

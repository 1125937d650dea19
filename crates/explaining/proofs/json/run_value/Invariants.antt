use Rattle.std.proofs.Common.{length}
use Rattle.explaining.proofs.json.run_value.Given as goal

abbrev pub decreases-loop-before : goal.decreases-loop-before
decreases-loop-before l = length l.rest

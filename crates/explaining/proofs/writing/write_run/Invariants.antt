use Rattle.std.proofs.Common.{length}
use Rattle.explaining.proofs.writing.write_run.Given as goal

abbrev pub decreases-loop-before : goal.decreases-loop-before
decreases-loop-before l = length l.rest

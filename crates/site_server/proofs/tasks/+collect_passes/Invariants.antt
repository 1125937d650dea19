use Rattle.std.specs.Prelude.{length}
use Rattle.site_server.proofs.tasks.+collect_passes.Given as goal

abbrev pub decreases-collect_passes : goal.decreases-collect_passes
decreases-collect_passes g l = length l.tasks.now

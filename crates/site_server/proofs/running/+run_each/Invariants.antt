use Rattle.std.specs.Prelude.{length}
use Rattle.site_server.proofs.running.+run_each.Given as goal

abbrev pub decreases-run_each : goal.decreases-run_each
decreases-run_each g l = length l.tasks.now

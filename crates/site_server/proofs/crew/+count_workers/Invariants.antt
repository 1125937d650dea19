use Rattle.std.proofs.Common.{length}
use Rattle.site_server.proofs.crew.+count_workers.Given as goal

abbrev pub decreases-count_workers : goal.decreases-count_workers
decreases-count_workers l = length l.doors.now

-- The recursion of `without_worker` ends, since each call has one role fewer in its list.
use Rattle.std.proofs.Common.{length}
use Rattle.pages.proofs.checking.+without_worker.Given as goal

abbrev pub decreases-without_worker : goal.decreases-without_worker
decreases-without_worker l = length l.role_counts.now

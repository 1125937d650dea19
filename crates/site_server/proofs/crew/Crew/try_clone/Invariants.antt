use Rattle.std.proofs.Common.{◌≡◌, take}
use Rattle.site_server.specs.Crews.{posts_of}
use Rattle.site_server.proofs.crew.Crew.try_clone.Given as goal

-- `workers` has clones of the workers that the loop has taken so far, in order
abbrev pub invariant-loop-worker : goal.invariant-loop-worker
invariant-loop-worker l = posts_of l.workers.items ≡ posts_of (take l.worker-index l.worker-items)

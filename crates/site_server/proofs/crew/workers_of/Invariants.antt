use Rattle.std.proofs.Common.{◌≡◌, is_some}
use Rattle.site_server.specs.Crews.{all_posts, posts_of}
use Rattle.site_server.proofs.crew.workers_of.Given as goal

-- `workers` has the workers of the doors that the loop has taken so far, in order
abbrev pub invariant-loop-door : goal.invariant-loop-door
invariant-loop-door l = posts_of l.workers.items ≡ all_posts (is_some l.stop) l.yielded

use Rattle.std.proofs.Common.{◌≡◌, ◌++◌, replicate}
use Rattle.std.specs.Arc.{arc_value}
use Rattle.site_server.specs.Crews.{post_at, posts_of}
use Rattle.site_server.proofs.crew.push_workers.Given as goal

-- `workers` has the workers from before the loop, and then one worker of the door for each round so far
abbrev pub invariant-loop-turn : goal.invariant-loop-turn
invariant-loop-turn l = posts_of l.workers.items ≡ posts_of l.initial.workers.items ++ replicate l._turn (post_at l.role (arc_value l.door))

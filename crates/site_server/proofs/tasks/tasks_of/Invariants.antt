use Rattle.std.proofs.Common.{◌≡◌, map}
use Rattle.site_server.proofs.Collecting.{here}
use Rattle.site_server.proofs.tasks.tasks_of.Given as goal

-- for each pair of a pass and a worker that the loop has taken so far, `tasks` has a task that holds this pair, in
-- order
abbrev pub invariant-loop-pair : goal.invariant-loop-pair
invariant-loop-pair g l = map (λ p. p.waiting) l.tasks.items ≡ map here l.yielded

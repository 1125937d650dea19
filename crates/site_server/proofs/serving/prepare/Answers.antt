use Rattle.std.proofs.Common.{rules, arith}
use Rattle.site_server.proofs.Collecting.{are_waiting, as_many}
use Rattle.site_server.proofs.serving.prepare.Goals as goal

pub returns-clause-tasks : goal.returns-clause-tasks
returns-clause-tasks g c =
    are_waiting (λ p. p.waiting) c.in_ok-tasks.tasks.items c.in_ok-builder.passes.items c.args.crew.workers.items c.in_ok-tasks.ensures (search rules)

pub returns-clause-room : goal.returns-clause-room
returns-clause-room g c = (
  c.in_ok-room.ensures.items,
  (let same = as_many (λ p. p.waiting) c.in_ok-tasks.tasks.items c.in_ok-builder.passes.items c.args.crew.workers.items c.in_ok-tasks.ensures (search rules)
      in search (rules, arith)),
)

use Rattle.std.proofs.Common.{◌++◌, is_some, sym, ◌∙◌, ap}
use Rattle.site_server.specs.Crews.{posts_at}
use Rattle.site_server.proofs.Posts.{door_more}
use Rattle.site_server.proofs.crew.workers_of.Goals as goal

pub loop-door-preserved : goal.loop-door-preserved
loop-door-preserved c =
    let may_stop = is_some c.args.stop.now in
    c.in_ok-push_workers.ensures ∙ ap (λ posts. posts ++ posts_at may_stop c.in-Some.door) c.loop-door.invariant
    ∙ sym (door_more may_stop c.loop-door.yielded c.in-Some.door)

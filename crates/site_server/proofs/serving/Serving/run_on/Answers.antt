use Rattle.std.proofs.Common.{rules, ◌≡◌, length, map, subst, Bool, true, false}
use mir.Syntax.{of_param}
use denote.Exit.{if_kept, unseen}
use denote.Param.Send.{Quiet}
use Rattle.site_lock.specs.Passes.{Opened}
use Rattle.site_server.specs.Plans.{plan_of}
use Rattle.site_server.specs.Ending.{RunsAllTasks}
use Rattle.site_server.proofs.Closing.{if_err_more, if_ok_both, leaves_so, never_return, spoils_so}
use Rattle.site_server.proofs.serving.Serving.run_on.Goals as goal

pub returns-clause-ok : goal.returns-clause-ok
returns-clause-ok g c =
    let s = c.args.self in
    let plan = plan_of g.J.Journal.written g.J.Journal.may_fail s in
    let back = c.in-Some.returned in
    let opened : c.open.result ≡ plan.from = search rules in
    let off : RunsAllTasks c.open.result plan.may_fail s.day plan.shift (map (λ p. p.waiting) c.in-Ok.prepared.tasks.items) back.passes.items back.clean = search rules in
    let all = subst (λ (o : Opened). RunsAllTasks o plan.may_fail s.day plan.shift (map (λ p. p.waiting) c.in-Ok.prepared.tasks.items) back.passes.items back.clean) opened off
    s.crew.workers.items c.in-Ok.ensures.tasks in
    if_ok_both _ _ _ c.close.result
    (λ served is h. leaves_so plan c.open.result opened back.passes.items back.clean all.0 served.clean served.site (g.J.Journal.written served.journal) is h)
    c.close.ensures.clean c.close.ensures.ok

pub returns-clause-err : goal.returns-clause-err
returns-clause-err g c =
    let s = c.args.self in
    let plan = plan_of g.J.Journal.written g.J.Journal.may_fail s in
    let back = c.in-Some.returned in
    let opened : c.open.result ≡ plan.from = search rules in
    let off : RunsAllTasks c.open.result plan.may_fail s.day plan.shift (map (λ p. p.waiting) c.in-Ok.prepared.tasks.items) back.passes.items back.clean = search rules in
    let all = subst (λ (o : Opened). RunsAllTasks o plan.may_fail s.day plan.shift (map (λ p. p.waiting) c.in-Ok.prepared.tasks.items) back.passes.items back.clean) opened off
    s.crew.workers.items c.in-Ok.ensures.tasks in
    if_err_more _ _ c.close.result
    (λ unclosed h. spoils_so plan c.open.result opened back.passes.items back.clean all.0 unclosed.why all.1 h)
    c.close.ensures.err

pub returns-clause-endless : goal.returns-clause-endless
returns-clause-endless g c = λ endless stays.
    let s = c.args.self in
    let plan = plan_of g.J.Journal.written g.J.Journal.may_fail s in
    let back = c.in-Some.returned in
    let opened : c.open.result ≡ plan.from = search rules in
    let off : RunsAllTasks c.open.result plan.may_fail s.day plan.shift (map (λ p. p.waiting) c.in-Ok.prepared.tasks.items) back.passes.items back.clean = search rules in
    let all = subst (λ (o : Opened). RunsAllTasks o plan.may_fail s.day plan.shift (map (λ p. p.waiting) c.in-Ok.prepared.tasks.items) back.passes.items back.clean) opened off
    s.crew.workers.items c.in-Ok.ensures.tasks in
    absurd (never_return plan (length s.crew.workers.items) back.passes.items back.clean endless stays s.crew.few.0 all.0 all.1)

-- nothing is left behind, whichever is kept
quiet : {D : Type 0} (b : Bool) → Quiet {D = D} (if_kept b unseen unseen)
quiet true x w = tt
quiet false x w = tt

pub join-returned-requires-after_bounds : goal.join-returned-requires-after_bounds
join-returned-requires-after_bounds g c κs within =
    let crew = c.args.self.crew in
    let b = c.type_bounds in (
      tt,
      (
        (crew.workers.items, crew.few, c.in-Ok.ensures.tasks),
        (
          c.in-Ok.ensures.room,
          (
            search rules,
            (
              record { owned = b.send-J.owned; leaving = λ k. quiet (k (of_param 0)) },
              record { owned = b.send-L.owned; leaving = λ k. quiet (k (of_param 1)) },
              record { shared = b.sync-L.shared },
              record { shared = b.sync-N.shared },
              record { shared = b.sync-A.shared },
              record { shared = b.sync-W.shared },
              record { shared = b.sync-R.shared },
            ),
          ),
        ),
      ),
    )

use Rattle.std.proofs.Common.{rules}
use Rattle.site_server.specs.Tasks.{opened_by}
use Rattle.site_server.proofs.LastRan.{all_ran, none_ran, ran_if_some}
use Rattle.site_server.proofs.running.+run_each.Goals as goal

pub returns-in_default-take : goal.returns-in_default-take
returns-in_default-take g c = λ c' is.
    let f = opened_by g.L.SiteLedger.config g.L.Ledger.parts g.L.SiteLedger.base g.L.SiteLedger.taken in
    let day = c'.args.workers.now.day in
    let n = c'.args.workers.now.shift in
    all_ran f g.J.Journal.may_fail day n (λ p. p.waiting) (λ p. p.done) c'.args.tasks.now c'.in-Some.rest.now
    c'.run_each.new.tasks c'.in-Some.task.now (record { waiting = c'.take.new.self; done = c'.in-Some.task.now.done })
    (search rules) (c'.run_each.ensures is) (none_ran f g.J.Journal.may_fail day n c'.in-Some.task.now.waiting c'.in-Some.task.now.done (search rules))

pub returns-then-all : goal.returns-then-all
returns-then-all g t c = λ is.
    let f = opened_by g.L.SiteLedger.config g.L.Ledger.parts g.L.SiteLedger.base g.L.SiteLedger.taken in
    let day = c.args.workers.now.day in
    let n = c.args.workers.now.shift in
    all_ran f g.J.Journal.may_fail day n (λ p. p.waiting) (λ p. p.done) c.args.tasks.now c.in-Some.rest.now
    c.run_each-all.new.tasks c.in-Some.task.now (record { waiting = c.take.new.self; done = c.join.result })
    (search rules) (search rules) (ran_if_some f g.J.Journal.may_fail day n c.in-Some.task.now.waiting c.join.result (search rules) (search rules))

pub returns-then-all-2 : goal.returns-then-all-2
returns-then-all-2 g t c = λ is.
    let f = opened_by g.L.SiteLedger.config g.L.Ledger.parts g.L.SiteLedger.base g.L.SiteLedger.taken in
    let day = c.args.workers.now.day in
    let n = c.args.workers.now.shift in
    all_ran f g.J.Journal.may_fail day n (λ p. p.waiting) (λ p. p.done) c.args.tasks.now c.in-Some.rest.now
    c.run_each-all-in-Err.new.tasks c.in-Some.task.now (record { waiting = c.take.new.self; done = c.run.result })
    (search rules) (search rules) (ran_if_some f g.J.Journal.may_fail day n c.in-Some.task.now.waiting c.run.result (search rules) (search rules))

use Rattle.std.proofs.Common.{rules, arith, ◌≡◌, ◌++◌, length, take, drop, map, subst}
use Rattle.std.proofs.lemmas.Grind.{common_steps}
use Rattle.site_server.specs.Collecting.{RunEach}
use Rattle.site_server.specs.Tasks.{opened_by}
use Rattle.site_server.proofs.running.fn.run_in_threads.scope.Goals as goal

pub returns-then-run_each : goal.returns-then-run_each
returns-then-run_each g c =
    let same : take c.captures.tasks.len (c.run_each.new.tasks ++ drop (length c.run_each.new.tasks) c.captures.tasks.items) ≡ c.run_each.new.tasks =
    grind (arith, common_steps, c.as_mut_slice.ensures.value, c.as_mut_slice.ensures.len, c.run_each.auto.tasks, c.captures.tasks.ok) in
    let first : c.as_mut_slice.result.now ≡ c.captures.tasks.items = search rules in
    rw same (subst (λ l. RunEach (opened_by g.L.SiteLedger.config g.L.Ledger.parts g.L.SiteLedger.base g.L.SiteLedger.taken) g.J.Journal.may_fail
    c.captures.workers.now.day c.captures.workers.now.shift (map (λ t. t.waiting) l)
    (map (λ t. t.done) c.run_each.new.tasks)) first (c.run_each.ensures (search rules)))

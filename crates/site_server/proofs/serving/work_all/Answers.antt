use Rattle.std.proofs.Common.{rules, arith, ◌≡◌, ap, map, length}
use Rattle.std.proofs.lemmas.List.{length-map}
use Rattle.site_server.specs.Collecting.{RunEach}
use Rattle.site_server.specs.Tasks.{opened_by}
use Rattle.site_server.proofs.Collecting.{all_done, are_all, have_worked}
use Rattle.site_server.proofs.serving.work_all.Goals as goal

pub collect_passes-clean-requires : goal.collect_passes-clean-requires
collect_passes-clean-requires g c =
    let w = c.args.workers.now in
    let own = opened_by g.L.SiteLedger.config g.L.Ledger.parts g.L.SiteLedger.base g.L.SiteLedger.taken in
    let may_fail = g.J.Journal.may_fail in
    let crew = c.requires.waiting in
    let waiting = map (λ p. p.waiting) c.args.tasks.items in
    let done = map (λ p. p.done) c.as_mut_slice.result.now in
    let ran : RunEach own may_fail w.day w.shift waiting done = search rules in
    let all = all_done may_fail w.day crew.0 w.shift w.forecourt own c.requires.opened waiting done crew.2 ran in
    let none : length c.args.passes.items ≡ 0 = ap length c.requires.room.0 in
    omega (
      arith,
      none,
      c.args.passes.ok.0,
      all.1,
      crew.2.0,
      length-map c.as_mut_slice.result.now (λ p. p.done),
      length-map c.args.tasks.items (λ p. p.waiting),
      c.requires.room.1,
    )

pub returns : goal.returns
returns g c = λ workers are.
    let w = c.args.workers.now in
    let own = opened_by g.L.SiteLedger.config g.L.Ledger.parts g.L.SiteLedger.base g.L.SiteLedger.taken in
    let may_fail = g.J.Journal.may_fail in
    let waiting = map (λ p. p.waiting) c.args.tasks.items in
    let done = map (λ p. p.done) c.as_mut_slice.result.now in
    let ran : RunEach own may_fail w.day w.shift waiting done = search rules in
    let all = all_done may_fail w.day workers w.shift w.forecourt own c.requires.opened waiting done are ran in
    let worked = have_worked may_fail w.day workers w.shift w.forecourt own c.requires.opened done c.args.passes.items
    c.collect_passes-clean.new.passes.items c.collect_passes-clean.result all.0 c.requires.room.0
    c.collect_passes-clean.ensures.items c.collect_passes-clean.ensures.clean in (
      worked,
      are_all may_fail w.day workers w.shift w.forecourt own c.requires.opened (length workers) done c.args.passes.items
          c.collect_passes-clean.new.passes.items c.collect_passes-clean.result all.0 all.1 c.requires.room.0
          c.collect_passes-clean.ensures.items worked,
    )

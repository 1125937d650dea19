use Rattle.std.proofs.Common.{rules, ◌≡◌, ◌⊎◌, true, inl, inr, refl, sym, ◌∙◌}
use Rattle.std.specs.Prelude.{is_some}
use Rattle.site_server.specs.Tasks.{opened_by}
use Rattle.site_server.proofs.Keeping.{worked_keeps}
use Rattle.site_server.proofs.Rounds.{begins, goes_on, is_done}
use Rattle.site_server.proofs.Working.{worked}
use Rattle.site_server.proofs.workers.Workers.serve.Goals as goal
use Rattle.site_server.proofs.workers.Workers.serve.Goals.{then-is_some-via-then-is_some, then-is_some-via-else-is_some+then-are_closed}

pub loop-round-init : goal.loop-round-init
loop-round-init g c =
    let f = opened_by g.L.SiteLedger.config g.L.Ledger.parts g.L.SiteLedger.base g.L.SiteLedger.taken in
    let w = c.args.self.now in
    record {
      going = begins f g.J.Journal.may_fail w.day c.args.role w.shift _ _ _ _ (search rules) c.new-clock.ensures c.desk-desk.ensures.pass;
      on = c.desk-desk.ensures.day;
      closes = λ may. c.requires.closes may;
      next = search rules;
      finite = search rules;
    }

pub loop-round-preserved : goal.loop-round-preserved
loop-round-preserved g c =
    let f = opened_by g.L.SiteLedger.config g.L.Ledger.parts g.L.SiteLedger.base g.L.SiteLedger.taken in
    let w = c.args.self.now in
    let ran = worked (λ k. k.last) (λ d. d.pass) (λ d. d.day) f g.J.Journal.may_fail w.day _ _ _ (λ d act moment a e h. (h.0, h.4))
    (λ d look moment a e h. (h.0, h.1)) (λ k moment e h. h) c.args.role _ _ _ _ _ _ _ _ _ _ _ _ _ _ _ _ _
    c.loop-round.invariant.on c.worker-more.ensures.serves in
    record {
      going = goes_on f g.J.Journal.may_fail w.day c.args.role w.shift _ _ _ _ _ _ _ _ (search rules) c.saturating_add-clean.ensures
          c.loop-round.invariant.going ran.0;
      on = ran.1;
      closes = λ may. c.loop-round.invariant.closes (c.worker-more.ensures.closes may);
      next = search rules;
      finite = search rules;
    }

pub returns-then-is_some-clause-worked : goal.returns-then-is_some-clause-worked
returns-then-is_some-clause-worked g c =
    let f = opened_by g.L.SiteLedger.config g.L.Ledger.parts g.L.SiteLedger.base g.L.SiteLedger.taken in
    let w = c.args.self.now in
    let ran = worked (λ k. k.last) (λ d. d.pass) (λ d. d.day) f g.J.Journal.may_fail w.day _ _ _ (λ d act moment a e h. (h.0, h.4))
    (λ d look moment a e h. (h.0, h.1)) (λ k moment e h. h) c.args.role _ _ _ _ _ _ _ _ _ _ _ _ _ _ _ _ _
    c.loop-round.invariant.on c.worker-more.ensures.serves in
    let why : (is_some w.shift.connections ≡ true) ⊎ (w.shift.may_stop ≡ true) = elim c.then-is_some.branch [
      | then-is_some-via-then-is_some v ↦ inl (sym c.is_some.ensures ∙ v.if-is_some.true)
      | then-is_some-via-else-is_some+then-are_closed v ↦ inr (c.loop-round.invariant.closes (c.worker-more.ensures.closes (v.if-are_closed.ensures refl)))
    ] in
    rw c.into_pass.ensures
    (is_done f g.J.Journal.may_fail w.day c.args.role w.shift _ _ _ _ _ _ _ _ _ (search rules) c.saturating_add-clean.ensures
    c.loop-round.invariant.going ran.0 (λ may. c.loop-round.invariant.closes may) why)

pub returns-then-is_some-clause-id : goal.returns-then-is_some-clause-id
returns-then-is_some-clause-id g c =
    let f = opened_by g.L.SiteLedger.config g.L.Ledger.parts g.L.SiteLedger.base g.L.SiteLedger.taken in
    worked_keeps f g.J.Journal.may_fail c.args.self.now.day c.args.role c.args.self.now.shift _ _ _ (returns-then-is_some-clause-worked g c)

use Rattle.std.proofs.Common.{ap, ◌∙◌}
use Rattle.site_lock.specs.Closing.{HaltedValue}
use Rattle.site_lock.proofs.Ends.{none_missing, some_missing, refused_some, closed_none}
use Rattle.site_lock.proofs.halted.Halted.refusal.Goals as goal

pub returns-then-not-are_all-clause-some : goal.returns-then-not-are_all-clause-some
returns-then-not-are_all-clause-some g c =
    some_missing c.args.self.now.opened c.self.inside.passes c.as_slice.result.now c.args.passes.now.items c.are_all.result c.if-not-are_all.true
    c.are_all.ensures c.as_slice.ensures.value
    (ap (λ (h : HaltedValue). h.opened.passes) c.self.view_is)

pub returns-clause-some : goal.returns-clause-some
returns-clause-some g c =
    let all = none_missing c.args.self.now.opened c.self.inside.passes c.as_slice.result.now c.args.passes.now.items c.are_all.result c.if-not-are_all.false
    c.are_all.ensures c.as_slice.ensures.value
    (ap (λ (h : HaltedValue). h.opened.passes) c.self.view_is) in
    refused_some c.args.self.now g.L.SiteLedger.base c.as_slice-2.result.now c.args.passes.now.items c.count.new.self c.refusal.result all
    (c.as_slice-2.ensures.value ∙ c.count.ensures.passes) (ap (λ (h : HaltedValue). h.opened.base) c.self.view_is) (c.count.ensures.same ∙ ap
    (λ (h : HaltedValue). h.locked_site) c.self.view_is) (c.count.ensures.total, c.count.ensures.full) c.refusal.ensures.some

pub returns-clause-none : goal.returns-clause-none
returns-clause-none g c =
    let all = none_missing c.args.self.now.opened c.self.inside.passes c.as_slice.result.now c.args.passes.now.items c.are_all.result c.if-not-are_all.false
    c.are_all.ensures c.as_slice.ensures.value
    (ap (λ (h : HaltedValue). h.opened.passes) c.self.view_is) in
    closed_none c.args.self.now g.L.SiteLedger.base g.L.SiteLedger.taken c.as_slice-2.result.now c.args.passes.now.items c.count.new.self
    c.self.inside.config c.refusal.result all
    (c.as_slice-2.ensures.value ∙ c.count.ensures.passes) (ap (λ (h : HaltedValue). h.opened.config) c.self.view_is)
    (ap (λ (h : HaltedValue). h.opened.base) c.self.view_is) (ap (λ (h : HaltedValue). h.opened.taken) c.self.view_is)
    (c.count.ensures.same ∙ ap (λ (h : HaltedValue). h.locked_site) c.self.view_is) (c.count.ensures.total, c.count.ensures.full) c.refusal.ensures.none

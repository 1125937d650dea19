use Rattle.std.proofs.Common.{◌≡◌, ◌+◌, ◌==◌, rules, arith, ◌∙◌, sym, below_more}
use Rattle.std.specs.Prelude.{count_by}
use Rattle.site_lock.specs.Passes.{PassView}
use Rattle.site_lock.proofs.check.are_all.Goals as goal

pub loop-before-preserved : goal.loop-before-preserved
loop-before-preserved g c =
    below_more (λ k. count_by (λ (p : PassView). p.id == k + 1) c.args.passes.now ≡ 1) c.loop-before.before c.loop-before.invariant
    (sym c.count_of.ensures ∙ c.if-count_of-ne1.false)

pub returns-then-count_of-ne1 : goal.returns-then-count_of-ne1
returns-then-count_of-ne1 g c = (λ e. absurd (cc), λ h. absurd (c.if-count_of-ne1.true (c.count_of.ensures ∙ h.1 c.loop-before.before c.loop-before-test.true)))

pub returns : goal.returns
returns g c = (λ e. (search rules, λ k lt. c.loop-before.invariant k (omega arith)), λ h. search rules)

use Rattle.std.proofs.Common.{Global, Vec, ℕ, subst, ◌∙◌}
use Rattle.std.proofs.lemmas.List.{get_or_default}
use Rattle.bpf_model.specs.declared.context.Layout.{Layout}
use Rattle.site_lock.specs.Verdicts.{IsVerified}
use Rattle.site_lock.proofs.programs.fn.verify_all.for_each_mut.Goals as goal

pub returns : goal.returns
returns c = λ d.
    subst (λ (item : Vec ℕ Global × ℕ × Layout). IsVerified item.0.items item.1 item.2 c.verified.result)
    (c.index-items-i.is ∙ get_or_default c.captures.items.now c.args.i c.index-items-i.result d c.requires) c.verified.ensures

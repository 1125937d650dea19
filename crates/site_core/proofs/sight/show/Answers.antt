use Rattle.std.proofs.Common.{◌≡◌, sym, ap, ◌∙◌, rules}
use Rattle.till_request.specs.declared.look.LookAt.TheVariants as look
use Rattle.site_core.specs.Sights.{rule_rows, seen_at}
use Rattle.site_core.proofs.Sights.{rules_agree}
use Rattle.site_core.proofs.sight.show.Goals as goal

pub returns-in-Rules : goal.returns-in-Rules
returns-in-Rules c = λ config past agrees first.
    let asked : c.args.room ≡ look.Rules = search rules in
    ap rule_rows (c.rules.ensures ∙ rules_agree config c.args.slots.now past agrees)
    ∙ ap (seen_at config past c.args.station.now c.args.number) (sym asked)

use Rattle.std.proofs.Common.{◌≡◌, arith, fold, replicate, subst, sym}
use Rattle.std.proofs.lemmas.Grind.{common_steps}
use Rattle.day_report.specs.Totals.{AllDecided, no_verdicts, places_for, table_with}
use Rattle.day_report.proofs.Deciding.{all_decided, if_ok_more}
use Rattle.day_report.proofs.counting.verdicts_of.Goals as goal

pub returns : goal.returns
returns c =
    let versions = c.args.versions.now in
    let decisions = c.args.decisions.now in
    let made : c.deref.result.now ≡ fold table_with (replicate (places_for versions) no_verdicts) decisions = grind (arith, common_steps) in
    let all = all_decided versions decisions c.deref.result.now c.count_all.ensures.short made in
    if_ok_more _ _ c.places_of.result (λ found is. subst (AllDecided versions decisions) (sym is) all) c.places_of.ensures

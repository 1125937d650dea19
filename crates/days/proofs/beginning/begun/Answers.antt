use Rattle.std.proofs.Common.{◌≡◌, ◌≤◌, ◌<◌, ℕ, List, length, ap, ◌∙◌, subst, arith}
use Rattle.fuelling_point.specs.Table.{PointState}
use Rattle.site_core.specs.Fitting.{Misfits as IsFaulty}
use Rattle.site_core.specs.Opening.{IsOpening, OpeningValue}
use Rattle.days.specs.Fitting.{refitted}
use Rattle.days.specs.declared.beginning.Unfit.TheVariants as unfit
use Rattle.days.proofs.Unfitting.{unfit_none}
use Rattle.days.proofs.beginning.begun.Goals as goal

pub returns-in-Some-clause-none : goal.returns-in-Some-clause-none
returns-in-Some-clause-none c = unfit_none c.args.config c.args.opening (unfit.Misfit c.in-Some.misfit) c.in-Some.ensures

pub returns-in-Err-clause-unfit : goal.returns-in-Err-clause-unfit
returns-in-Err-clause-unfit c =
    let few : length c.args.opening.points < length c.args.config.points =
    subst (λ n. length c.args.opening.points < n) (ap length c.points.ensures.points) c.in-Err.ensures.memory in (
      c.in_default.ensures,
      (
        c.rebounded-counters.result,
        c.rebounded-counters.ensures.bounds,
        c.rebounded-counters.ensures.many,
        (tt, λ none. none),
        λ wants enough. absurd (omega (arith, few, enough)),
      ),
    )

pub returns-in-Err-opened-clause-unfit : goal.returns-in-Err-opened-clause-unfit
returns-in-Err-opened-clause-unfit c =
    let count = length c.args.config.points in
    let cells = c.rebounded-counters.result in
    let fault = c.in-Err-opened.fault in
    let same : c.in-Ok.opening ≡ refitted count c.args.opening cells =
    c.in-Ok.ensures.same ∙ ap (λ (ps : List (ℕ × ℕ)). refitted (length ps) c.args.opening cells) c.points.ensures.points in (
      c.in_default.ensures,
      (
        cells,
        c.rebounded-counters.ensures.bounds,
        c.rebounded-counters.ensures.many,
        subst (λ (o : OpeningValue). IsFaulty count o fault) same c.in-Err-opened.ensures.fault,
        λ wants enough. subst (λ (o : OpeningValue). IsOpening count o) same (c.in-Err-opened.ensures.memory wants),
      ),
    )

use Rattle.std.proofs.Common.{[], ◌∷◌, ◌++◌, Some, None, sym, subst, ◌∙◌}
use Rattle.site_core.specs.Steps.{StepValue}
use Rattle.day_report.specs.Sales.{sales_in}
use Rattle.day_report.specs.Sums.{AddsUp}
use Rattle.day_report.specs.declared.sums.Sums.{Sums}
use Rattle.day_report.proofs.OneSale.{counted}
use Rattle.day_report.proofs.sums.Sums.count.Goals as goal

pub returns-in-Some : goal.returns-in-Some
returns-in-Some c steps before a =
    let step : StepValue = record { entry = c.args.entry.now; change = c.args.change.now; before = before } in
    subst (λ (s : Sums). AddsUp s (sales_in (steps ++ step ∷ []))) (sym c.add.ensures.added)
    (counted c.args.self.now steps step (Some c.in-Some.sale) (sym (c.sale_of.ensures before) ∙ c.in-Some.is) c.add.ensures.in_range c.requires a)

pub returns-in-None : goal.returns-in-None
returns-in-None c steps before a =
    counted c.args.self.now steps (record { entry = c.args.entry.now; change = c.args.change.now; before = before }) None (sym (c.sale_of.ensures before) ∙ c.in-None.is) tt c.requires a

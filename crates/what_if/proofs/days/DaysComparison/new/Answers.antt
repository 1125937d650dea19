use Rattle.std.proofs.Common.{◌∙◌, map, None}
use Rattle.what_if.specs.declared.rows.DayRows.{DayRows}
use Rattle.what_if.proofs.DayByDay.{days-none}
use Rattle.what_if.proofs.days.DaysComparison.new.Goals as goal

pub returns-clause-found : goal.returns-clause-found
returns-clause-found c =
    (λ i. record { days = map (λ (day : DayRows). (day.day, day.rows.items)) (c.new.ensures.items i); misfit = None })
    ∙ days-none c.args.rule.now c.args.slot c.args.reading

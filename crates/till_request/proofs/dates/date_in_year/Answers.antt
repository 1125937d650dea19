use Rattle.std.proofs.Common.{◌∙◌, ap, sym, arith}
use Rattle.std.specs.Prelude.{option_map}
use Rattle.till_request.specs.Dates.{date_in_month, days_of_month}
use Rattle.till_request.proofs.Periods.{ends, passes, stays}
use Rattle.till_request.proofs.dates.date_in_year.Goals as goal

pub loop-month-preserved : goal.loop-month-preserved
loop-month-preserved c =
    c.loop-month.invariant
    ∙ passes (days_of_month c.args.year) _ _ _ c.days_of_month-length.result c.loop-month-test.true c.days_of_month-length.ensures c.if-left-length.false

pub returns-then-left-length : goal.returns-then-left-length
returns-then-left-length c =
    ap (option_map (date_in_month c.args.year))
    (stays (days_of_month c.args.year) _ _ _ c.days_of_month-length.result (omega (arith, c.loop-month-test.true)) c.days_of_month-length.ensures c.if-left-length.true
    ∙ sym c.loop-month.invariant)

pub returns : goal.returns
returns c = ap (option_map (date_in_month c.args.year)) (ends (days_of_month c.args.year) _ _ _ (omega (arith, c.loop-month-test.false)) ∙ sym c.loop-month.invariant)

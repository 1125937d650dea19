use Rattle.std.proofs.Common.{◌∙◌, sym, arith}
use Rattle.till_request.specs.Dates.{days_of_year}
use Rattle.till_request.proofs.Periods.{ends, passes, stays}
use Rattle.till_request.proofs.dates.year_after.Goals as goal

pub returns-then-left-length : goal.returns-then-left-length
returns-then-left-length c =
    stays days_of_year _ _ _ c.from-length.result (omega (arith, c.loop-year-test.true)) (c.from-length.ensures ∙ c.days_of_year.ensures.value) c.if-left-length.true
    ∙ sym c.loop-year.invariant

pub loop-year-preserved : goal.loop-year-preserved
loop-year-preserved c =
    c.loop-year.invariant
    ∙ passes days_of_year _ _ _ c.from-length.result c.loop-year-test.true (c.from-length.ensures ∙ c.days_of_year.ensures.value) c.if-left-length.false

pub returns : goal.returns
returns c = ends days_of_year _ _ _ (omega (arith, c.loop-year-test.false)) ∙ sym c.loop-year.invariant

use Rattle.std.proofs.Common.{◌≡◌, ◌-◌}
use Rattle.till_request.specs.Dates.{days_of_year, period_after}
use Rattle.till_request.proofs.dates.year_after.Given as goal

-- what is left of the days leads on from this year
abbrev pub invariant-loop-year : goal.invariant-loop-year
invariant-loop-year l = period_after days_of_year 1970 8030 l.days ≡ period_after days_of_year l.year (10000 - l.year) l.left

use Rattle.std.proofs.Common.{◌≡◌, ◌-◌}
use Rattle.till_request.specs.Dates.{days_of_month, period_after}
use Rattle.till_request.proofs.dates.date_in_year.Given as goal

-- what is left of the days leads on from this month
abbrev pub invariant-loop-month : goal.invariant-loop-month
invariant-loop-month l = period_after (days_of_month l.year) 1 12 l.days ≡ period_after (days_of_month l.year) l.month (13 - l.month) l.left

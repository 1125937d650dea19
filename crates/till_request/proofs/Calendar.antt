-- A date of so many days is one of the calendar, with these days before it.
use Rattle.std.proofs.Common.{◌≡◌, ℕ, ◌+◌, ◌≤◌, Option, Some, None, Bool, true, false, refl, arith}
use Rattle.std.specs.Prelude.{MatchOption, option_map, if◌then◌else◌}
use Rattle.bpf_model.specs.Machine.{and_then}
use Rattle.till_request.specs.Dates.{DatesAreOfTheCalendar, IsDate, date_in_month, date_in_year, days_before, days_in, days_of_month, days_of_year, is_leap, period_after}
use Rattle.till_request.proofs.Periods.{IsAfter, found}

-- a year has the days of its months
year_of_months : (year : ℕ) → days_in (days_of_month year) 1 12 ≡ days_of_year year
year_of_months year = by_leap (is_leap year)
  where
    by_leap : (leap : Bool)
        → 31 + (if leap then 29 else 28) + 31 + 30 + 31 + 30 + 31 + 31 + 30 + 31 + 30 + 31 ≡ (if leap then 366 else 365)
    by_leap true = refl
    by_leap false = refl

in_month : (days : ℕ) (y : ℕ × ℕ) (month : Option (ℕ × ℕ)) → IsAfter days_of_year 1970 8030 days y
    → MatchOption month (days_in (days_of_month y.0) 1 12 ≤ y.1) (IsAfter (days_of_month y.0) 1 12 y.1)
    → MatchOption (option_map (date_in_month y.0) month) (days_in days_of_year 1970 8030 ≤ days) (λ date. IsDate date × (days_before date ≡ days))
in_month days y None h k = absurd (omega (arith, k, year_of_months y.0, h.part))
in_month days y (Some m) h k = (
  record { from = h.from; to = omega (arith, h.to); month = (k.from, omega (arith, k.to)); day = (omega arith, omega (arith, k.part)) },
  omega (arith, h.all, k.all),
)

in_year : (days : ℕ) (year : Option (ℕ × ℕ)) → MatchOption year (days_in days_of_year 1970 8030 ≤ days) (IsAfter days_of_year 1970 8030 days)
    → MatchOption (and_then year date_in_year) (days_in days_of_year 1970 8030 ≤ days) (λ date. IsDate date × (days_before date ≡ days))
in_year days None h = h
in_year days (Some y) h = in_month days y (period_after (days_of_month y.0) 1 12 y.1) h (found (days_of_month y.0) 1 12 y.1)

pub of_the_calendar : DatesAreOfTheCalendar
of_the_calendar days = in_year days (period_after days_of_year 1970 8030 days) (found days_of_year 1970 8030 days)

-- Definitions: the date of a moment, a number of seconds since the start of 1970 in UTC (sources: the Gregorian calendar
-- as ISO 8601 has it; RFC 3339, sections 5.6 and 5.7, and appendix C).
use Rattle.std.specs.Prelude.{◌≡◌, ◌≤◌, ℕ, zero, suc, ◌+◌, ◌-◌, ◌/◌, ◌%◌, ◌==◌, nat_lt, Bool, not, ◌&&◌, ◌||◌, if◌then◌else◌}
use Rattle.std.specs.Prelude.{List, [], ◌∷◌, ◌++◌, codes, sum_by, Option, Some, None, MatchOption, option_map}
use Rattle.std.specs.List.{range_with_len}
use Rattle.bpf_model.specs.Machine.{and_then}
use Rattle.till_request.specs.declared.dates.Date.{Date}

-- whether a year is a leap year: it is divisible by 4, and by 400 if it is the last of a century
abbrev pub is_leap : ℕ → Bool
is_leap year = year % 4 == 0 && (not (year % 100 == 0) || year % 400 == 0)

abbrev pub days_of_year : ℕ → ℕ
days_of_year year = if is_leap year then 366 else 365

-- how many days a month has; months are counted from 1
abbrev pub days_of_month : ℕ → ℕ → ℕ
days_of_month year month =
    if month == 2 then (if is_leap year then 29 else 28)
    else if month == 4 || month == 6 || month == 9 || month == 11 then 30 else 31

-- of `count` periods from `first` on, the first that isn't over after `days` days, and how many of its own days are over
unfoldable pub period_after : (ℕ → ℕ) → ℕ → ℕ → ℕ → Option (ℕ × ℕ)
period_after days_of first zero days = None
period_after days_of first (suc count) days =
    if nat_lt days (days_of first) then Some (first, days) else period_after days_of (first + 1) count (days - days_of first)

-- the date in a year and a month of it, of which so many days are over
abbrev pub date_in_month : ℕ → ℕ × ℕ → Date
date_in_month year m = record { year = year; month = m.0; day = m.1 + 1 }

-- the date in a year of which so many days are over
abbrev pub date_in_year : ℕ × ℕ → Option Date
date_in_year y = option_map (date_in_month y.0) (period_after (days_of_month y.0) 1 12 y.1)

-- the date when so many days since the start of 1970 are over; None from the year 10000 on
abbrev pub date_after : ℕ → Option Date
date_after days = and_then (period_after days_of_year 1970 8030 days) date_in_year

-- the date in UTC of a moment; None of 0, which stands for a moment that isn't told, and from the year 10000 on
abbrev pub date_of : ℕ → Option Date
date_of moment = if moment == 0 then None else date_after (moment / 86400)

-- the days of `count` periods from `first` on
abbrev pub days_in : (ℕ → ℕ) → ℕ → ℕ → ℕ
days_in days_of first count = sum_by days_of (range_with_len first count)

-- how many days since the start of 1970 come before a date: those of the years, of the months, and of its month
abbrev pub days_before : Date → ℕ
days_before date =
    days_in days_of_year 1970 (date.year - 1970) + days_in (days_of_month date.year) 1 (date.month - 1) + (date.day - 1)

-- a date of the calendar from 1970 on, whose year has four digits
pub record IsDate (date : Date) : Type 0 where
  pub from : 1970 ≤ date.year
  pub to : date.year ≤ 9999
  pub month : (1 ≤ date.month) × (date.month ≤ 12)
  pub day : (1 ≤ date.day) × (date.day ≤ days_of_month date.year date.month)

-- A promise: when so many days are over, the date is one of the calendar with exactly these days before it; there is none
-- only if the days of all years up to 9999 are over.
abbrev pub DatesAreOfTheCalendar : Type 0
DatesAreOfTheCalendar = (days : ℕ) →
    MatchOption (date_after days) (days_in days_of_year 1970 8030 ≤ days) (λ date. IsDate date × (days_before date ≡ days))

-- the last two digits of a number
abbrev pub two_digits : ℕ → List ℕ
two_digits n = (48 + n / 10 % 10) ∷ (48 + n % 10) ∷ []

-- as in 2026-11-29
abbrev pub date_text : Date → List ℕ
date_text date =
    two_digits (date.year / 100) ++ two_digits date.year ++ codes "-" ++ two_digits date.month ++ codes "-" ++ two_digits date.day

-- Definitions: what another rule would have answered, day by day; and promises of what has been found so far.
use Rattle.std.specs.Prelude.{◌≡◌, ℕ, List, [], ◌∷◌, ◌++◌, fold, map, Option, Some, None}
use Rattle.bpf_model.specs.Program.{ProgramText}
use Rattle.site_core.specs.Steps.{StepValue}
use Rattle.what_if.specs.Rows.{Found, found_in}
use Rattle.what_if.specs.declared.comparison.Comparison.{Comparison}
use Rattle.what_if.specs.declared.comparison.Reading.{Reading}
use Rattle.what_if.specs.declared.days.DayMisfit.{DayMisfit}
use Rattle.what_if.specs.declared.days.DaysComparison.{DaysComparison}
use Rattle.what_if.specs.declared.rows.DayRows.{DayRows}
use Rattle.what_if.specs.declared.rows.Row.{Row}

-- The number of a day, and the steps of its history.
abbrev pub DaySteps : Type 0
DaySteps = ℕ × List StepValue

-- The first entry of another layout than the rule wants, after a day whose first such entry this is.
abbrev pub first_misfit : Option DayMisfit → ℕ → Option ℕ → Option DayMisfit
first_misfit None day (Some entry) = Some (record { day = day; entry = entry })
first_misfit None day None = None
first_misfit (Some first) day entry = Some first

-- What is found on some days: the rows of each, and the first entry of another layout than the rule wants.
pub record DaysFound : Type 0 where
  pub days : List (ℕ × List Row)
  pub misfit : Option DayMisfit

abbrev pub with_day : DaysFound → ℕ → Found → DaysFound
with_day found day its = record { days = found.days ++ (day, its.rows) ∷ []; misfit = first_misfit found.misfit day its.misfit }

-- What is found on these days, each of which is read anew.
unfoldable pub days_found : ProgramText → ℕ → Reading → List DaySteps → DaysFound
days_found rule slot reading days =
    fold (λ found (day : DaySteps). with_day found day.0 (found_in rule slot reading day.1)) (record { days = []; misfit = None }) days

abbrev pub found_on_days : DaysComparison → DaysFound
found_on_days c = record { days = map (λ (day : DayRows). (day.day, day.rows.items)) c.days.items; misfit = c.misfit }

-- It has found what these days show, and nothing else.
abbrev pub HasFoundDays : DaysComparison → List DaySteps → Type 0
HasFoundDays c days = found_on_days c ≡ days_found c.rule.now c.slot c.reading days

-- The comparison of a day is with the rule of all days, and so are its slot and its reading of counters.
pub record IsOwn (all : DaysComparison) (day : Comparison) : Type 0 where
  pub rule : day.rule.now ≡ all.rule.now
  pub slot : day.slot ≡ all.slot
  pub reading : day.reading ≡ all.reading

-- What is found on some days and one more.
use Rattle.std.proofs.Common.{◌≡◌, ℕ, List, [], ◌∷◌, ◌++◌, map, Option, None, refl, ap, ◌∙◌, sym}
use Rattle.std.proofs.lemmas.List.{map_push}
use Rattle.std.proofs.lemmas.List.Sums.{fold_push}
use Rattle.bpf_model.specs.Program.{ProgramText}
use Rattle.site_core.specs.Steps.{StepValue}
use Rattle.what_if.specs.Comparisons.{HasFound, found_by}
use Rattle.what_if.specs.Days.{DaySteps, DaysFound, HasFoundDays, IsOwn, days_found, first_misfit, found_on_days, with_day}
use Rattle.what_if.specs.Rows.{Found, found_in}
use Rattle.what_if.specs.declared.comparison.Comparison.{Comparison}
use Rattle.what_if.specs.declared.comparison.Reading.{Reading}
use Rattle.what_if.specs.declared.days.DayMisfit.{DayMisfit}
use Rattle.what_if.specs.declared.days.DaysComparison.{DaysComparison}
use Rattle.what_if.specs.declared.rows.DayRows.{DayRows}
use Rattle.what_if.specs.declared.rows.Row.{Row}

pub days-none : (rule : ProgramText) (slot : ℕ) (reading : Reading) → record { days = []; misfit = None } ≡ days_found rule slot reading []
unfolding days_found
days-none rule slot reading = refl

days-more : (rule : ProgramText) (slot : ℕ) (reading : Reading) (before : List DaySteps) (day : ℕ) (steps : List StepValue)
    → with_day (days_found rule slot reading before) day (found_in rule slot reading steps) ≡ days_found rule slot reading (before ++ (day, steps) ∷ [])
unfolding days_found
days-more rule slot reading before day steps =
    sym (fold_push (λ found (d : DaySteps). with_day found d.0 (found_in rule slot reading d.1)) (record { days = []; misfit = None }) before (day, steps))

pub day-taken : (old new : DaysComparison) (seen : Comparison) (day : ℕ) (before : List DaySteps) (steps : List StepValue) (its : DayRows) → IsOwn old seen
    → new.rule.now ≡ old.rule.now → new.slot ≡ old.slot → new.reading ≡ old.reading → its.day ≡ day → its.rows.items ≡ seen.rows.items
    → new.days.items ≡ old.days.items ++ its ∷ [] → new.misfit ≡ first_misfit old.misfit day seen.misfit → HasFoundDays old before → HasFound seen steps
    → HasFoundDays new (before ++ (day, steps) ∷ [])
day-taken old new seen day before steps its own rule slot reading number rows pushed misfit found-before found =
    let pairs : List DayRows → List (ℕ × List Row) = λ days. map (λ (d : DayRows). (d.day, d.rows.items)) days in
    let all : pairs new.days.items ≡ pairs old.days.items ++ (day, seen.rows.items) ∷ [] =
    ap pairs pushed ∙ map_push (λ (d : DayRows). (d.day, d.rows.items)) old.days.items its ∙ (λ i. pairs old.days.items ++ (number i, rows i) ∷ []) in
    let here : found_by seen ≡ found_in old.rule.now old.slot old.reading steps =
    found ∙ (λ i. found_in (own.rule i) (own.slot i) (own.reading i) steps) in
    (λ i. record { days = all i; misfit = misfit i })
    ∙ (λ i. with_day (found-before i) day (here i))
    ∙ days-more old.rule.now old.slot old.reading before day steps
    ∙ (λ i. days_found (sym rule i) (sym slot i) (sym reading i) (before ++ (day, steps) ∷ []))

-- With counters as they were, the row of a decision doesn't depend on what was found before.
use Rattle.std.proofs.Common.{◌≡◌, ℕ, Bool, true, false, List, [], ◌∷◌, ◌++◌, Option, Some, None, refl, ap, ◌∙◌, sym}
use Rattle.std.specs.Prelude.{fold, if◌then◌else◌}
use Rattle.std.proofs.lemmas.List.{append-nil, append_assoc}
use Rattle.std.proofs.lemmas.List.Sums.{fold-append}
use Rattle.bpf_model.specs.declared.machine.View.{View}
use Rattle.bpf_model.specs.Layouts.{layout_of}
use Rattle.bpf_model.specs.Machine.{Counters}
use Rattle.bpf_model.specs.Program.{ProgramText}
use Rattle.site_core.specs.State.{view_of}
use Rattle.site_core.specs.Steps.{StepValue}
use Rattle.what_if.specs.Decisions.{decision_in}
use Rattle.what_if.specs.Laws.{RowsStandAlone}
use Rattle.what_if.specs.Rows.{Found, after_any, after_step, answer_on, first_of, found_in, is_same_layout, nothing_found, preset_of, row_of}
use Rattle.what_if.specs.declared.comparison.Reading.TheVariants.{AsTheyWere}
use Rattle.what_if.specs.declared.decisions.Decision.{Decision}
use Rattle.what_if.specs.declared.rows.Row.{Row}

if-rows : (fits : Bool) (found : Found) (row : Row) (own : Option Counters) (a b : Option ℕ)
    → (if◌then◌else◌ {A = Found} fits (record { rows = found.rows ++ row ∷ []; own = own; misfit = found.misfit }) (record found { misfit = a })).rows
    ≡ found.rows ++ (if◌then◌else◌ {A = Found} fits (record { rows = row ∷ []; own = own; misfit = None }) (record { rows = []; own = None; misfit = b })).rows
if-rows true found row own a b = refl
if-rows false found row own a b = sym (append-nil found.rows)

any-rows : (rule : ProgramText) (view : View) (site : Counters) (preset : ℕ) (found : Found) (o : Option Decision)
    → (after_any rule AsTheyWere view site preset found o).rows ≡ found.rows ++ (after_any rule AsTheyWere view site preset nothing_found o).rows
any-rows rule view site preset found None = sym (append-nil found.rows)
any-rows rule view site preset found (Some d) =
    let answer : ℕ × Counters = answer_on rule d.context view site in
    if-rows (is_same_layout (layout_of d.context) rule.layout) found (row_of d answer.0 preset) (Some answer.1) (first_of found.misfit d.number) (Some d.number)

step-rows : (rule : ProgramText) (slot : ℕ) (found : Found) (step : StepValue)
    → (after_step rule slot AsTheyWere found step).rows ≡ found.rows ++ (after_step rule slot AsTheyWere nothing_found step).rows
step-rows rule slot found step =
    any-rows rule (view_of step.before) step.before.counters (preset_of step.change.before) found (decision_in slot step.entry)

fold-rows : (rule : ProgramText) (slot : ℕ) (found : Found) (steps : List StepValue)
    → (fold (after_step rule slot AsTheyWere) found steps).rows ≡ found.rows ++ (fold (after_step rule slot AsTheyWere) nothing_found steps).rows
fold-rows rule slot found [] = sym (append-nil found.rows)
fold-rows rule slot found (step ∷ steps) =
    let one : Found = after_step rule slot AsTheyWere nothing_found step in
    let rest : List Row = (fold (after_step rule slot AsTheyWere) nothing_found steps).rows in
    fold-rows rule slot (after_step rule slot AsTheyWere found step) steps
    ∙ ap (λ l. l ++ rest) (step-rows rule slot found step)
    ∙ append_assoc found.rows one.rows rest
    ∙ ap (λ l. found.rows ++ l) (sym (fold-rows rule slot one steps))

pub stand-alone : RowsStandAlone
unfolding found_in
stand-alone rule slot steps more =
    let step = after_step rule slot AsTheyWere in
    ap (λ (found : Found). found.rows) (fold-append step nothing_found steps more)
    ∙ fold-rows rule slot (fold step nothing_found steps) more

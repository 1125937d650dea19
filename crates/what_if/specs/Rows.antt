-- Definitions: what another rule would have answered at the decisions of a slot, as rows (source: this project).
use Rattle.std.specs.Prelude.{ℕ, ◌==◌, nat_lt, if◌then◌else◌, List, [], ◌∷◌, ◌++◌, fold, map, Option, Some, None, Bool, true, false}
use Rattle.std.specs.List.{range_with_len}
use Rattle.fuelling_point.specs.Table.{PointState}
use Rattle.bpf_model.specs.declared.context.Context.{Context}
use Rattle.bpf_model.specs.declared.context.Layout.{Layout}
use Rattle.bpf_model.specs.declared.context.Layout.TheVariants as layout
use Rattle.bpf_model.specs.declared.machine.View.{View}
use Rattle.bpf_model.specs.Layouts.{bytes_of, layout_of}
use Rattle.bpf_model.specs.Machine.{Counters}
use Rattle.bpf_model.specs.Program.{ProgramText, outcome}
use Rattle.verifier.specs.CounterChanges.{adopted}
use Rattle.site_core.specs.Decide.{granted_amount, run_result}
use Rattle.site_core.specs.State.{view_of}
use Rattle.site_core.specs.Steps.{StepValue}
use Rattle.site_core.specs.declared.question.Kind.{Kind as QuestionKind}
use Rattle.site_core.specs.declared.question.Kind.TheVariants as question
use Rattle.what_if.specs.Decisions.{decision_in}
use Rattle.what_if.specs.declared.decisions.Asking.{Asking}
use Rattle.what_if.specs.declared.decisions.Decision.{Decision}
use Rattle.what_if.specs.declared.decisions.Kind.{Kind}
use Rattle.what_if.specs.declared.decisions.Kind.TheVariants as kind
use Rattle.what_if.specs.declared.comparison.Reading.{Reading}
use Rattle.what_if.specs.declared.comparison.Reading.TheVariants.{AsTheyWere, Carried}
use Rattle.what_if.specs.declared.rows.Row.{Row}
use Rattle.what_if.specs.declared.rows.RowChange.{RowChange}
use Rattle.what_if.specs.declared.rows.RowChange.TheVariants as change

-- The kind of the question that a request of this kind asks.
abbrev pub question_kind : Kind → QuestionKind
question_kind kind.Release = question.Release
question_kind kind.Preset = question.Preset
question_kind kind.Price = question.Price

-- What the site grants if a rule answers this, and the point has this preset (0 for none).
abbrev pub granted_amount_of : Asking → ℕ → ℕ → ℕ
granted_amount_of asking answer preset = granted_amount (question_kind asking.kind) asking.asked answer preset

-- The same, or None for the answer 0, which denies.
abbrev pub would_be : Asking → ℕ → ℕ → Option ℕ
would_be asking answer preset = if answer == 0 then None else Some (granted_amount_of asking answer preset)

abbrev pub preset_of : Option PointState → ℕ
preset_of None = 0
preset_of (Some point) = point.preset

-- The row of a decision, if the other rule answers this, and the point has this preset.
abbrev pub row_of : Decision → ℕ → ℕ → Row
row_of decision answer preset = record {
  moment = decision.moment;
  asking = decision.asking;
  granted = decision.granted;
  would = would_be decision.asking answer preset;
  entry = decision.number;
  version = decision.version;
}

-- How what would be granted differs from what was granted.
abbrev pub change_between : Option ℕ → Option ℕ → RowChange
change_between None None = change.Same
change_between (Some granted) None = change.Denied
change_between None (Some would) = change.Allowed
change_between (Some granted) (Some would) =
    if granted == would then change.Same else if nat_lt granted would then change.More else change.Less

abbrev pub change_of : Row → RowChange
change_of row = change_between row.granted row.would

-- ---- the counters and the view that the other rule is run with

-- The counters of `site`, with those that the mask declares as in `own`.
abbrev pub taken_over : ℕ → Counters → Counters → Counters
taken_over declared own site = map (λ c. adopted declared own site c) (range_with_len 0 32)

-- The counters that the other rule is run with. `site` are the site's, as they were at the decision; `own` are those
-- that the other rule's last run left, or None before its first. If counters are carried, those that the rule declares
-- are its own, and all others the site's.
abbrev pub counters_at : Reading → ℕ → Option Counters → Counters → Counters
counters_at Carried declared (Some own) site = taken_over declared own site
counters_at Carried declared None site = site
counters_at AsTheyWere declared own site = site

-- The rule's answer to this context, with this view and these counters, and the counters that its run leaves.
abbrev pub answer_on : ProgramText → Context → View → Counters → ℕ × Counters
answer_on rule context view counters = run_result (outcome rule (bytes_of context) view counters) counters

abbrev pub is_same_layout : Layout → Layout → Bool
is_same_layout layout.One layout.One = true
is_same_layout layout.Two layout.Two = true
is_same_layout a b = false

-- ---- the rows

-- What is found in a history: the rows; the counters that the other rule's last run left; and the number of the first
-- entry that was decided on a context of another layout than the other rule wants.
pub record Found : Type 0 where
  pub rows : List Row
  pub own : Option Counters
  pub misfit : Option ℕ

abbrev pub nothing_found : Found
nothing_found = record { rows = []; own = None; misfit = None }

abbrev pub first_of : Option ℕ → ℕ → Option ℕ
first_of None number = Some number
first_of (Some first) number = Some first

-- What is found after a decision. `site` are the site's counters, `view` is its view, and `preset` the point's preset,
-- all as they were at the decision.
abbrev pub after_decision : ProgramText → Reading → View → Counters → ℕ → Found → Decision → Found
after_decision rule reading view site preset found decision =
    if is_same_layout (layout_of decision.context) rule.layout
    then (let answer : ℕ × Counters = answer_on rule decision.context view (counters_at reading rule.declared found.own site) in
    record { rows = found.rows ++ row_of decision answer.0 preset ∷ []; own = Some answer.1; misfit = found.misfit })
    else record found { misfit = first_of found.misfit decision.number }

abbrev pub after_any : ProgramText → Reading → View → Counters → ℕ → Found → Option Decision → Found
after_any rule reading view site preset found None = found
after_any rule reading view site preset found (Some decision) = after_decision rule reading view site preset found decision

-- What is found after one more step of a history.
abbrev pub after_step : ProgramText → ℕ → Reading → Found → StepValue → Found
after_step rule slot reading found step =
    after_any rule reading (view_of step.before) step.before.counters (preset_of step.change.before) found (decision_in slot step.entry)

-- What is found in these steps of a history, if `rule` had been in the slot.
unfoldable pub found_in : ProgramText → ℕ → Reading → List StepValue → Found
found_in rule slot reading steps = fold (after_step rule slot reading) nothing_found steps

-- What the rule would have answered at each decision of the slot, oldest first.
abbrev pub rows_of : ProgramText → ℕ → Reading → List StepValue → List Row
rows_of rule slot reading steps = (found_in rule slot reading steps).rows

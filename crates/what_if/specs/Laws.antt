-- Promises: what is true of the rows of each history that a site can have.
use Rattle.std.specs.Prelude.{◌≡◌, ℕ, List, [], ◌∷◌, ◌++◌, All, Some}
use Rattle.decision_journal.specs.declared.entries.Entry.{Entry}
use Rattle.bpf_model.specs.Program.{ProgramText}
use Rattle.site_core.specs.History.{in_force}
use Rattle.site_core.specs.Legal.{Legal}
use Rattle.site_core.specs.Limits.{ConfigValue}
use Rattle.site_core.specs.SlotsValue.{Version}
use Rattle.site_core.specs.State.{SiteState}
use Rattle.site_core.specs.Steps.{StepValue, step_of}
use Rattle.what_if.specs.Rows.{change_of, rows_of}
use Rattle.what_if.specs.declared.comparison.Reading.TheVariants.{AsTheyWere}
use Rattle.what_if.specs.declared.rows.Row.{Row}
use Rattle.what_if.specs.declared.rows.RowChange.TheVariants.{Same}

abbrev pub AllSame : List Row → Type 0
AllSame rows = All (λ row. change_of row ≡ Same) rows

-- The program of the version that decided an entry would have answered the same, read with the counters as they were.
-- The entry is the newest of a legal history, and `past` are those before it, newest first.
abbrev pub TheSameRuleAnswersTheSame : Type 0
TheSameRuleAnswersTheSame =
    (config : ConfigValue) (past : List Entry) (entry : Entry) (state : SiteState) (slot : ℕ) (version : Version) → Legal config (entry ∷ past) state
    → in_force config slot past ≡ Some version → AllSame (rows_of version.program slot AsTheyWere (step_of config past entry ∷ []))

-- Read with the counters as they were, a decision's row doesn't depend on the decisions before it.
abbrev pub RowsStandAlone : Type 0
RowsStandAlone =
    (rule : ProgramText) (slot : ℕ) (steps more : List StepValue)
    → rows_of rule slot AsTheyWere (steps ++ more) ≡ rows_of rule slot AsTheyWere steps ++ rows_of rule slot AsTheyWere more

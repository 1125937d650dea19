-- Promises: laws about the rows of a day.
use Rattle.std.specs.Prelude.{◌≡◌, ◌<◌, ℕ, ◌^◌, Bool, List, [], ◌∷◌, ◌++◌, drop, length, map, Some, All}
use Rattle.std.specs.List.{AllByRecursion}
use Rattle.csv.specs.Reading.{AreRecords, default_config, strip_bom}
use Rattle.csv.specs.declared.parser.State.TheVariants as state
use Rattle.bpf_model.specs.declared.context.Layout.{Layout}
use Rattle.bpf_model.specs.declared.context.Layout.TheVariants as layout
use Rattle.decision_journal.specs.declared.entries.Entry.{Entry}
use Rattle.decision_journal.specs.declared.entries.Run.{Run}
use Rattle.site_core.specs.declared.context.Field.{Field}
use Rattle.site_core.specs.declared.context.Field.TheVariants.{Four, Eight}
use Rattle.site_core.specs.declared.question.Question.{Question}
use Rattle.site_core.specs.State.{SiteState, open_points}
use Rattle.site_core.specs.Context.{context, fields, shared_fields}
use Rattle.day_report.specs.declared.sales.Sale.{Sale}
use Rattle.day_export.specs.declared.cells.Rows.{Rows}
use Rattle.day_export.specs.declared.cells.Format.TheVariants as format
use Rattle.day_export.specs.declared.cells.Cell.{Cell}
use Rattle.day_export.specs.declared.cells.Cell.TheVariants as cell
use Rattle.day_export.specs.Cells.{columns, cell_text}
use Rattle.day_export.specs.Rows.{rows_from, decision_cells}
use Rattle.day_export.specs.Text.{rows_text}

-- The rows of a day can be read:
-- - Each row has a cell for each column.
-- - With its default settings, the crate `csv` reads from the CSV the names of the columns, and then the texts of the
--   rows.
pub record RowsAreWhole (sales : List Sale) (entries : List Entry) : Type 0 where
  pub whole : (which : Rows) → All (λ (row : List Cell). length row ≡ length (columns which)) (rows_from which sales entries)
  pub read_back : (which : Rows) → AreRecords default_config state.StartRecord (strip_bom (rows_text which format.Csv sales entries))
      (columns which ∷ map (map cell_text) (rows_from which sales entries))

-- So it is for all sales and entries.
abbrev pub AllRowsAreWhole : Type 0
AllRowsAreWhole = (sales : List Sale) (entries : List Entry) → RowsAreWhole sales entries

-- ---- These definitions state the law that the row of a decision shows the context that the rule ran on.

-- The value of a field is a number that its 4 or 8 bytes can hold.
abbrev pub FitsField : Field → Type 0
FitsField (Four x) = x < 256 ^ 4
FitsField (Eight x) = x < 256 ^ 8

abbrev pub cell_of_field : Field → Cell
cell_of_field (Four x) = cell.Number x
cell_of_field (Eight x) = cell.Number x

-- The cells of a context (the record that a rule runs on): its fields in order. The context has this layout, and is
-- made from the site's state s, the till's number, the moment and the question q. For layout 1 the last two cells are
-- empty, because it has no counts of cleared transactions and of open points. The zero that ends layout 2 has no cell.
abbrev pub context_cells : Layout → SiteState → ℕ → ℕ → Question → List Cell
context_cells layout.One s till moment q = map cell_of_field (shared_fields s till moment q) ++ cell.Nothing ∷ cell.Nothing ∷ []
context_cells layout.Two s till moment q = map cell_of_field (shared_fields s till moment q) ++ cell.Number s.clears ∷ cell.Number (open_points s) ∷ []

-- The row of a decision has, from the column `context_till` on, the fields of the context that the rule ran on. The
-- value of each field must fit in the field's 4 or 8 bytes.
abbrev pub RowsShowContexts : Type 0
RowsShowContexts =
    (layout : Layout) (s : SiteState) (till moment : ℕ) (q : Question) (entry : Entry) (run : Run) (is_granted : Bool) → entry.run ≡ Some run
    → run.context ≡ context layout s till moment q → AllByRecursion FitsField (fields layout s till moment q)
    → drop 11 (decision_cells entry is_granted) ≡ context_cells layout s till moment q

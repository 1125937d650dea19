-- Each row of a day has a cell for each column, and can be read back from the CSV.
use Rattle.std.proofs.Common.{◌≡◌, ◌++◌, ◌∙◌, ℕ, List, [], ◌∷◌, length, map, Option, Some, None, refl, ap, sym, subst, All}
use Rattle.std.specs.Prelude.{IfSome}
use Rattle.std.specs.List.{AllByRecursion, concat, cons_option, filter_map}
use Rattle.std.proofs.lemmas.List.Elements.{All-nil, All-cons, All-map, All-weaker, recursion_from_All}
use Rattle.csv.specs.Reading.{AreRecords, default_config, strip_bom}
use Rattle.csv.specs.Writing.{row_text}
use Rattle.csv.specs.declared.parser.State.TheVariants as state
use Rattle.decision_journal.specs.declared.entries.Entry.{Entry}
use Rattle.day_report.specs.Decisions.{decision_of}
use Rattle.day_report.specs.declared.sales.Sale.{Sale}
use Rattle.day_export.specs.declared.cells.Rows.{Rows}
use Rattle.day_export.specs.declared.cells.Rows.TheVariants as rows
use Rattle.day_export.specs.declared.cells.Format.TheVariants as format
use Rattle.day_export.specs.declared.cells.Cell.{Cell}
use Rattle.day_export.specs.Cells.{columns, cell_text}
use Rattle.day_export.specs.Rows.{rows_from, sale_cells, decision_cells, decision_row, event_row}
use Rattle.day_export.specs.Text.{csv_writer, header_bytes, row_bytes, rows_text}
use Rattle.day_export.specs.Laws.{AllRowsAreWhole}
use Rattle.day_export.proofs.ReadBack.{IsLong, read-all}

-- ---- Each row has as many cells as there are columns, and at least two.

abbrev IsFull : Rows → List Cell → Type 0
IsFull which row = (length row ≡ length (columns which)) × IsLong (map cell_text row)

decision-full : (e : Entry) → IfSome (decision_row e) (IsFull rows.Decisions)
unfolding decision_row
decision-full e =
    elim (decision_of e) as (λ o. IfSome
    (elim o as (λ _. Option (List Cell)) [ None ↦ None | Some d ↦ Some (decision_cells e d.is_granted) ]) (IsFull rows.Decisions)) [ None ↦ tt | Some d ↦ (refl, tt) ]

one-more : {A : Type 0} (P : A → Type 0) (o : Option A) (xs : List A) → IfSome o P → All P xs → All P (cons_option o xs)
one-more P None xs p all = all
one-more P (Some x) xs p all = All-cons P x xs p all

decisions-full : (entries : List Entry) → All (IsFull rows.Decisions) (filter_map decision_row entries)
decisions-full [] = All-nil (IsFull rows.Decisions)
decisions-full (e ∷ entries) =
    one-more (IsFull rows.Decisions) (decision_row e) (filter_map decision_row entries) (decision-full e) (decisions-full entries)

rows-full : (which : Rows) (sales : List Sale) (entries : List Entry) → All (IsFull which) (rows_from which sales entries)
unfolding event_row
rows-full rows.Sales sales entries = All-map (IsFull rows.Sales) sale_cells sales (λ k d lt. (refl, tt))
rows-full rows.Decisions sales entries = decisions-full entries
rows-full rows.Events sales entries = All-map (IsFull rows.Events) event_row entries (λ k d lt. (refl, tt))

rows-long : (which : Rows) (rows : List (List Cell)) → All (IsFull which) rows → AllByRecursion IsLong (map (map cell_text) rows)
rows-long which rows full =
    recursion_from_All IsLong (map (map cell_text) rows)
    (All-map IsLong (map cell_text) rows (All-weaker (IsFull which) (λ row. IsLong (map cell_text row)) (λ row p. p.1) rows full))

-- ---- With its default settings, the crate `csv` reads the names of the columns and the rows' texts from the CSV.

bytes-are : (which : Rows) (all : List (List Cell)) → concat (map (row_text csv_writer) (map (map cell_text) all)) ≡ concat (map (row_bytes which format.Csv) all)
unfolding row_bytes
bytes-are which [] = refl
bytes-are which (row ∷ all) = ap (λ l. row_text csv_writer (map cell_text row) ++ l) (bytes-are which all)

header-long : (which : Rows) → IsLong (columns which)
header-long rows.Sales = tt
header-long rows.Decisions = tt
header-long rows.Events = tt

no-mark : (which : Rows) (tail : List ℕ) → strip_bom (row_text csv_writer (columns which) ++ tail) ≡ row_text csv_writer (columns which) ++ tail
unfolding strip_bom
no-mark rows.Sales tail = refl
no-mark rows.Decisions tail = refl
no-mark rows.Events tail = refl

read-back : (which : Rows) (sales : List Sale) (entries : List Entry)
    → AreRecords default_config state.StartRecord (strip_bom (rows_text which format.Csv sales entries))
    (columns which ∷ map (map cell_text) (rows_from which sales entries))
unfolding header_bytes
read-back which sales entries =
    let all = rows_from which sales entries in
    let header = row_text csv_writer (columns which) in
    let text : header ++ concat (map (row_text csv_writer) (map (map cell_text) all)) ≡ strip_bom (rows_text which format.Csv sales entries) =
    ap (λ l. header ++ l) (bytes-are which all) ∙ sym (no-mark which (concat (map (row_bytes which format.Csv) all))) in
    subst (λ t. AreRecords default_config state.StartRecord t (columns which ∷ map (map cell_text) all)) text
    (read-all (columns which) (map (map cell_text) all) (header-long which) (rows-long which all (rows-full which sales entries)))

pub telling : AllRowsAreWhole
telling sales entries =
    record {
      whole = λ which. All-weaker (IsFull which) (λ row. length row ≡ length (columns which)) (λ row p. p.0) (rows_from which sales entries) (rows-full which sales entries);
      read_back = λ which. read-back which sales entries;
    }

-- Definitions: the text of rows, as CSV and as lines of JSON.
use Rattle.std.specs.Prelude.{◌≡◌, ◌<◌, ℕ, false, List, [], ◌∷◌, ◌++◌, length, map, take, Option}
use Rattle.std.specs.List.{concat}
use Rattle.std.specs.Io.KnownBytes.{Appends}
use Rattle.csv.specs.Writing.{default_writer, fields_written, has_written, row_text, with_terminator, writer_setup}
use Rattle.csv.specs.declared.writer.Writer.{Writer}
use Rattle.csv.specs.declared.parser.Terminator.TheVariants as terminator
use Rattle.csv.specs.declared.writer.WriterBuilder.{WriterBuilder}
use Rattle.serde_json.specs.Data.{Data, null, number, string, object, unsigned, Members, no_members, put}
use Rattle.serde_json.specs.Written.{compact_text}
use Rattle.decision_journal.specs.declared.entries.Entry.{Entry}
use Rattle.day_report.specs.declared.sales.Sale.{Sale}
use Rattle.day_export.specs.declared.cells.Rows.{Rows}
use Rattle.day_export.specs.declared.cells.Format.{Format}
use Rattle.day_export.specs.declared.cells.Format.TheVariants as format
use Rattle.day_export.specs.declared.cells.Cell.{Cell}
use Rattle.day_export.specs.declared.cells.Cell.TheVariants as cell
use Rattle.day_export.specs.Cells.{columns, word_text, cell_text}
use Rattle.day_export.specs.Rows.{rows_from}

-- The settings of the CSV writer, by RFC 4180: commas, quotes around a field only if it needs them, and CRLF after each
-- record.
abbrev pub csv_writer : WriterBuilder
csv_writer = with_terminator default_writer terminator.CRLF

-- The value of a cell in JSON: a number, a string or null.
unfoldable pub cell_data : Cell → Data
cell_data (cell.Number n) = number (unsigned n)
cell_data (cell.Word w) = string (word_text w)
cell_data cell.Nothing = null

-- The members of a JSON object: `members`, with the value of each cell put in under the name of the cell's column.
-- Names without a cell, and cells without a name, are ignored.
abbrev pub with_cells : Members → List (List ℕ) → List Cell → Members
with_cells members (name ∷ names) (c ∷ cells) = with_cells (put name (cell_data c) members) names cells
with_cells members _ _ = members

abbrev pub object_of : List (List ℕ) → List Cell → Data
object_of names cells = object (with_cells no_members names cells)

-- The text of a row: a CSV record, or a compact JSON object followed by LF.
unfoldable pub row_bytes : Rows → Format → List Cell → List ℕ
row_bytes which format.Csv cells = row_text csv_writer (map cell_text cells)
row_bytes which format.Json cells = compact_text (object_of (columns which) cells) ++ 10 ∷ []

-- The text before the rows: the names of the columns in CSV, and nothing in JSON.
unfoldable pub header_bytes : Rows → Format → List ℕ
header_bytes which format.Csv = row_text csv_writer (columns which)
header_bytes which format.Json = []

-- The text before the rows, and then the text of each row of this kind for these sales or these entries.
abbrev pub row_texts : Rows → Format → List Sale → List Entry → List (List ℕ)
row_texts which form sales entries = header_bytes which form ∷ map (row_bytes which form) (rows_from which sales entries)

-- The header, if the format has one, and then the text of all rows of this kind for these sales or these entries.
abbrev pub rows_text : Rows → Format → List Sale → List Entry → List ℕ
rows_text which form sales entries = concat (row_texts which form sales entries)

-- The first of these texts were appended, but not all of them, and nothing else was.
abbrev pub AppendsFirst : Option (List ℕ) → Option (List ℕ) → List (List ℕ) → Type 0
AppendsFirst old new texts = (n : ℕ) × (n < length texts) × Appends old new (concat (take n texts))

-- ---- The contracts of private functions use these definitions.

-- The CSV writer has the settings `csv_writer`, and is between two records.
pub record IsBetweenRecords {W : Type 0} (writer : Writer W) : Type 0 where
  pub setup : writer_setup writer ≡ csv_writer
  pub fields : fields_written writer ≡ 0
  pub wrote : has_written writer ≡ false

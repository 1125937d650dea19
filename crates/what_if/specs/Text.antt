-- Definitions: the text of rows, as CSV by RFC 4180 and as lines of JSON (source: this project).
use Rattle.std.specs.Prelude.{ℕ, ◌==◌, if◌then◌else◌, List, [], ◌∷◌, ◌++◌, map, codes, decimal, Option, Some, None}
use Rattle.std.specs.List.{concat}
use Rattle.what_if.specs.Rows.{change_of}
use Rattle.what_if.specs.declared.decisions.Asking.{Asking}
use Rattle.what_if.specs.declared.decisions.Kind.{Kind}
use Rattle.what_if.specs.declared.decisions.Kind.TheVariants as kind
use Rattle.what_if.specs.declared.lines.Cell.{Cell}
use Rattle.what_if.specs.declared.lines.Cell.TheVariants as cell
use Rattle.what_if.specs.declared.lines.Format.{Format}
use Rattle.what_if.specs.declared.lines.Format.TheVariants as format
use Rattle.what_if.specs.declared.lines.RowCells.{RowCells}
use Rattle.what_if.specs.declared.lines.Word.{Word}
use Rattle.what_if.specs.declared.lines.Word.TheVariants as word
use Rattle.what_if.specs.declared.rows.DayRows.{DayRows}
use Rattle.what_if.specs.declared.rows.Row.{Row}
use Rattle.what_if.specs.declared.rows.RowChange.{RowChange}
use Rattle.what_if.specs.declared.rows.RowChange.TheVariants as change

abbrev pub kind_word : Kind → Word
kind_word kind.Release = word.Release
kind_word kind.Preset = word.Preset
kind_word kind.Price = word.Price

abbrev pub change_word : RowChange → Word
change_word change.Same = word.Same
change_word change.More = word.More
change_word change.Less = word.Less
change_word change.Denied = word.Denied
change_word change.Allowed = word.Allowed

abbrev pub word_text : Word → List ℕ
word_text word.Release = codes "release"
word_text word.Preset = codes "preset"
word_text word.Price = codes "price"
word_text word.Same = codes "same"
word_text word.More = codes "more"
word_text word.Less = codes "less"
word_text word.Denied = codes "denied"
word_text word.Allowed = codes "allowed"

-- the cell of an optional number, which is empty for None
abbrev pub optional : Option ℕ → Cell
optional None = cell.Nothing
optional (Some n) = cell.Number n

-- the cell of a moment in seconds since the start of 1970; it is empty for 0, which means that there is no moment
abbrev pub moment_cell : ℕ → Cell
moment_cell moment = if moment == 0 then cell.Nothing else cell.Number moment

-- A price is of no point.
abbrev pub point_cell_of : Kind → ℕ → Cell
point_cell_of kind.Price point = cell.Nothing
point_cell_of _ point = cell.Number point

abbrev pub point_cell : Asking → Cell
point_cell asking = point_cell_of asking.kind asking.point

abbrev pub row_cells : Row → RowCells
row_cells row = record {
  entry = cell.Number row.entry;
  moment = moment_cell row.moment;
  till = cell.Number row.asking.till;
  point = point_cell row.asking;
  kind = cell.Word (kind_word row.asking.kind);
  asked = cell.Number row.asking.asked;
  version = cell.Number row.version;
  granted = optional row.granted;
  would = optional row.would;
  change = cell.Word (change_word (change_of row));
}

-- The cells in the order of the columns of CSV, and in that of the keys of JSON, which is the alphabet's.
abbrev pub in_order : Format → RowCells → List Cell
in_order format.Csv c = c.entry ∷ c.moment ∷ c.till ∷ c.point ∷ c.kind ∷ c.asked ∷ c.version ∷ c.granted ∷ c.would ∷ c.change ∷ []
in_order format.Json c = c.asked ∷ c.change ∷ c.entry ∷ c.granted ∷ c.kind ∷ c.moment ∷ c.point ∷ c.till ∷ c.version ∷ c.would ∷ []

-- The same with a cell for the day.
abbrev pub in_order_of_day : Format → Cell → RowCells → List Cell
in_order_of_day format.Csv day c =
    day ∷ c.entry ∷ c.moment ∷ c.till ∷ c.point ∷ c.kind ∷ c.asked ∷ c.version ∷ c.granted ∷ c.would ∷ c.change ∷ []
in_order_of_day format.Json day c =
    c.asked ∷ c.change ∷ day ∷ c.entry ∷ c.granted ∷ c.kind ∷ c.moment ∷ c.point ∷ c.till ∷ c.version ∷ c.would ∷ []

abbrev pub cells_of : Format → Row → List Cell
cells_of format row = in_order format (row_cells row)

abbrev pub cells_of_day : Format → ℕ → Row → List Cell
cells_of_day format day row = in_order_of_day format (cell.Number day) (row_cells row)

-- What stands before each cell of a row: commas, or the keys of an object. The quotes round a word stand here too.
abbrev pub before : Format → List (List ℕ)
before format.Csv =
    codes "" ∷ codes "," ∷ codes "," ∷ codes "," ∷ codes "," ∷ codes "," ∷ codes "," ∷ codes "," ∷ codes "," ∷ codes "," ∷ []
before format.Json =
    codes "{\"asked\":" ∷ codes ",\"change\":\"" ∷ codes "\",\"entry\":" ∷ codes ",\"granted\":" ∷ codes ",\"kind\":\""
    ∷ codes "\",\"moment\":" ∷ codes ",\"point\":" ∷ codes ",\"till\":" ∷ codes ",\"version\":" ∷ codes ",\"would\":" ∷ []

abbrev pub before_of_day : Format → List (List ℕ)
before_of_day format.Csv =
    codes "" ∷ codes "," ∷ codes "," ∷ codes "," ∷ codes "," ∷ codes "," ∷ codes "," ∷ codes "," ∷ codes "," ∷ codes "," ∷ codes ","
    ∷ []
before_of_day format.Json =
    codes "{\"asked\":" ∷ codes ",\"change\":\"" ∷ codes "\",\"day\":" ∷ codes ",\"entry\":" ∷ codes ",\"granted\":"
    ∷ codes ",\"kind\":\"" ∷ codes "\",\"moment\":" ∷ codes ",\"point\":" ∷ codes ",\"till\":" ∷ codes ",\"version\":"
    ∷ codes ",\"would\":" ∷ []

-- What stands behind the last cell of a row.
abbrev pub end_of : Format → List ℕ
end_of format.Csv = 13 ∷ 10 ∷ []
end_of format.Json = codes "}\n"

-- What stands for a value that there isn't.
abbrev pub nothing_text : Format → List ℕ
nothing_text format.Csv = []
nothing_text format.Json = codes "null"

abbrev pub cell_text : Format → Cell → List ℕ
cell_text format (cell.Number n) = decimal n
cell_text format (cell.Word w) = word_text w
cell_text format cell.Nothing = nothing_text format

-- Each cell behind the text that stands before it.
abbrev pub cells_text : Format → List (List ℕ) → List Cell → List ℕ
cells_text format (text ∷ texts) (c ∷ cells) = text ++ (cell_text format c ++ cells_text format texts cells)
cells_text format _ _ = []

-- The line of a row.
unfoldable pub line_text : Format → Row → List ℕ
line_text format row = cells_text format (before format) (cells_of format row) ++ end_of format

-- What stands before the rows: the names of the columns, or nothing.
abbrev pub header_text : Format → List ℕ
header_text format.Csv = codes "entry,moment,till,point,kind,asked,version,granted,would,change" ++ (13 ∷ 10 ∷ [])
header_text format.Json = []

-- The text of all rows.
abbrev pub rows_text : Format → List Row → List ℕ
rows_text format rows = header_text format ++ concat (map (line_text format) rows)

-- ---- the rows of many days, each behind the number of its day

unfoldable pub day_line_text : Format → ℕ → Row → List ℕ
day_line_text format day row = cells_text format (before_of_day format) (cells_of_day format day row) ++ end_of format

abbrev pub days_header_text : Format → List ℕ
days_header_text format.Csv = codes "day,entry,moment,till,point,kind,asked,version,granted,would,change" ++ (13 ∷ 10 ∷ [])
days_header_text format.Json = []

abbrev pub day_text : Format → DayRows → List ℕ
day_text format day = concat (map (day_line_text format day.day) day.rows.items)

-- The text of all rows of these days.
abbrev pub days_text : Format → List DayRows → List ℕ
days_text format days = days_header_text format ++ concat (map (day_text format) days)

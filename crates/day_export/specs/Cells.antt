-- Definitions: the columns of each kind of rows, and the text of a cell.
use Rattle.std.specs.Prelude.{ℕ, ◌==◌, if◌then◌else◌, List, [], ◌∷◌, codes, decimal, Option, Some, None}
use Rattle.till_request.specs.Grammar.{text}
use Rattle.day_export.specs.declared.cells.Rows.{Rows}
use Rattle.day_export.specs.declared.cells.Rows.TheVariants as rows
use Rattle.day_export.specs.declared.cells.Word.{Word}
use Rattle.day_export.specs.declared.cells.Word.TheVariants as word
use Rattle.day_export.specs.declared.cells.Cell.{Cell}
use Rattle.day_export.specs.declared.cells.Cell.TheVariants as cell

-- The names of the columns of each kind of rows, first to last.
abbrev pub columns : Rows → List (List ℕ)
columns rows.Sales =
    codes "ended" ∷ codes "cleared" ∷ codes "point" ∷ codes "transaction" ∷ codes "product" ∷ codes "price" ∷ codes "volume"
    ∷ codes "amount" ∷ codes "till" ∷ codes "moment" ∷ codes "off" ∷ []
columns rows.Decisions =
    codes "entry" ∷ codes "moment" ∷ codes "till" ∷ codes "point" ∷ codes "kind" ∷ codes "asked" ∷ codes "slot" ∷ codes "version"
    ∷ codes "r0" ∷ codes "answer" ∷ codes "granted" ∷ codes "context_till" ∷ codes "context_point" ∷ codes "context_kind"
    ∷ codes "context_state" ∷ codes "context_nozzle" ∷ codes "context_product" ∷ codes "context_asked" ∷ codes "context_moment"
    ∷ codes "context_price" ∷ codes "context_busy_points" ∷ codes "context_unpaid" ∷ codes "context_slot" ∷ codes "context_cleared"
    ∷ codes "context_clears" ∷ codes "context_open_points" ∷ []
columns rows.Events =
    codes "entry" ∷ codes "pass" ∷ codes "moment" ∷ codes "sender" ∷ codes "till" ∷ codes "point" ∷ codes "verb" ∷ codes "product"
    ∷ codes "nozzle" ∷ codes "transaction" ∷ codes "amount" ∷ codes "volume" ∷ codes "slot" ∷ codes "mask" ∷ codes "layout"
    ∷ codes "reply" ∷ codes "granted" ∷ codes "version" ∷ codes "order" ∷ codes "refusal" ∷ codes "detail" ∷ []

abbrev pub word_text : Word → List ℕ
word_text (word.Verb form) = text form
word_text word.Till = codes "till"
word_text word.Dispenser = codes "dispenser"
word_text word.Owner = codes "owner"
word_text word.Suspend = codes "suspend"
word_text word.Resume = codes "resume"
word_text word.Stop = codes "stop"
word_text word.Order = codes "order"
word_text word.Done = codes "done"
word_text word.Granted = codes "granted"
word_text word.Denied = codes "denied"
word_text word.Version = codes "version"
word_text word.Point = codes "point"
word_text word.Refused = codes "refused"
word_text word.Authorise = codes "authorise"

-- The text of a cell: the decimal digits of a number, a word, or an empty text.
unfoldable pub cell_text : Cell → List ℕ
cell_text (cell.Number n) = decimal n
cell_text (cell.Word w) = word_text w
cell_text cell.Nothing = []

-- the cell of an optional number, which is empty for None
abbrev pub optional : Option ℕ → Cell
optional None = cell.Nothing
optional (Some n) = cell.Number n

-- the cell of a moment in seconds since the start of 1970; it is empty for 0, which means that there is no moment
abbrev pub moment_cell : ℕ → Cell
moment_cell moment = if moment == 0 then cell.Nothing else cell.Number moment

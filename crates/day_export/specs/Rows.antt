-- Definitions: the rows of a day. Each row has one cell for each column.
use Rattle.std.specs.Prelude.{ℕ, ◌==◌, if◌then◌else◌, Bool, true, false, List, [], ◌∷◌, map, Option, Some, None}
use Rattle.std.specs.List.{filter_map}
use Rattle.decision_journal.specs.declared.entries.Entry.{Entry}
use Rattle.day_report.specs.Decisions.{decision_of}
use Rattle.day_report.specs.Sales.{off_by}
use Rattle.day_report.specs.declared.sales.Sale.{Sale}
use Rattle.day_export.specs.declared.cells.Rows.{Rows}
use Rattle.day_export.specs.declared.cells.Rows.TheVariants as rows
use Rattle.day_export.specs.declared.cells.Word.TheVariants as word
use Rattle.day_export.specs.declared.cells.Cell.{Cell}
use Rattle.day_export.specs.declared.cells.Cell.TheVariants as cell
use Rattle.day_export.specs.Cells.{moment_cell, optional}
use Rattle.day_export.specs.Acts.{act_cells, reply_cells, run_cells, field_cell}

-- ---- the row of a sale

-- The cell of a number that is known only with the sale's product; it is empty if the product isn't known.
abbrev pub product_cell : Sale → ℕ → Cell
product_cell sale n = if sale.product == 0 then cell.Nothing else cell.Number n

abbrev pub sale_cells : Sale → List Cell
sale_cells sale =
    optional sale.ended
    ∷ cell.Number sale.number
    ∷ cell.Number sale.point
    ∷ cell.Number sale.transaction
    ∷ product_cell sale sale.product
    ∷ product_cell sale sale.price
    ∷ cell.Number sale.volume
    ∷ cell.Number sale.amount
    ∷ cell.Number sale.till
    ∷ moment_cell sale.moment
    ∷ optional (off_by sale)
    ∷ []

-- ---- the row of a decision

abbrev pub answer_cell : Bool → Cell
answer_cell true = cell.Word word.Granted
answer_cell false = cell.Word word.Denied

-- The row of an entry's decision; true is a grant. The last 15 cells are read from the context that the rule ran on.
abbrev pub decision_cells : Entry → Bool → List Cell
decision_cells entry is_granted =
    cell.Number entry.number
    ∷ moment_cell entry.moment
    ∷ (act_cells entry.act).till
    ∷ (act_cells entry.act).point
    ∷ (act_cells entry.act).verb
    ∷ (act_cells entry.act).amount
    ∷ (run_cells entry.run).slot
    ∷ (run_cells entry.run).version
    ∷ (run_cells entry.run).r0
    ∷ answer_cell is_granted
    ∷ (reply_cells entry.reply).granted
    ∷ field_cell entry.run 0 4
    ∷ field_cell entry.run 4 4
    ∷ field_cell entry.run 8 4
    ∷ field_cell entry.run 12 4
    ∷ field_cell entry.run 16 4
    ∷ field_cell entry.run 20 4
    ∷ field_cell entry.run 24 8
    ∷ field_cell entry.run 32 8
    ∷ field_cell entry.run 40 4
    ∷ field_cell entry.run 44 4
    ∷ field_cell entry.run 48 4
    ∷ field_cell entry.run 52 4
    ∷ field_cell entry.run 56 8
    ∷ field_cell entry.run 64 8
    ∷ field_cell entry.run 72 4
    ∷ []

-- The row of an entry's decision; None if no rule decided.
unfoldable pub decision_row : Entry → Option (List Cell)
decision_row entry = elim (decision_of entry) [ None ↦ None | Some d ↦ Some (decision_cells entry d.is_granted) ]

-- ---- the row that each entry has, whatever its act and its reply

unfoldable pub event_row : Entry → List Cell
event_row entry =
    cell.Number entry.number
    ∷ cell.Number entry.pass
    ∷ moment_cell entry.moment
    ∷ (act_cells entry.act).sender
    ∷ (act_cells entry.act).till
    ∷ (act_cells entry.act).point
    ∷ (act_cells entry.act).verb
    ∷ (act_cells entry.act).product
    ∷ (act_cells entry.act).nozzle
    ∷ (act_cells entry.act).transaction
    ∷ (act_cells entry.act).amount
    ∷ (act_cells entry.act).volume
    ∷ (act_cells entry.act).slot
    ∷ (act_cells entry.act).mask
    ∷ (act_cells entry.act).layout
    ∷ (reply_cells entry.reply).reply
    ∷ (reply_cells entry.reply).granted
    ∷ (reply_cells entry.reply).version
    ∷ (reply_cells entry.reply).order
    ∷ (reply_cells entry.reply).refusal
    ∷ (reply_cells entry.reply).detail
    ∷ []

-- ---- all rows of one kind for the history of a day

-- The rows of this kind for these sales or these entries, oldest first.
abbrev pub rows_from : Rows → List Sale → List Entry → List (List Cell)
rows_from rows.Sales sales entries = map sale_cells sales
rows_from rows.Decisions sales entries = filter_map decision_row entries
rows_from rows.Events sales entries = map event_row entries

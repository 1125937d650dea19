-- Definitions: the cells of an act, of a reply, and of a run of a rule.
use Rattle.std.specs.Prelude.{ℕ, ◌+◌, nat_le, if◌then◌else◌, List, length, drop, Option, Some, None}
use Rattle.byteorder.specs.Endian.{little_number}
use Rattle.fuelling_point.specs.declared.kinds.Order.{Order}
use Rattle.fuelling_point.specs.declared.kinds.Order.TheVariants as order
use Rattle.fuelling_point.specs.declared.kinds.DispenserEvent.{DispenserEvent}
use Rattle.fuelling_point.specs.declared.kinds.DispenserEvent.TheVariants as event
use Rattle.bpf_model.specs.declared.context.Layout.{Layout}
use Rattle.bpf_model.specs.declared.context.Layout.TheVariants as layouts
use Rattle.bpf_model.specs.Layouts.{bytes_of}
use Rattle.till_request.specs.declared.act.Act.{Act}
use Rattle.till_request.specs.declared.act.Act.TheVariants as act
use Rattle.till_request.specs.declared.act.Reply.{Reply}
use Rattle.till_request.specs.declared.act.Reply.TheVariants as reply
use Rattle.till_request.specs.declared.form.AmountVerb.{AmountVerb}
use Rattle.till_request.specs.declared.form.AmountVerb.TheVariants as amounts
use Rattle.till_request.specs.declared.form.Form.{Form}
use Rattle.till_request.specs.declared.form.Form.TheVariants as forms
use Rattle.till_request.specs.declared.form.RequestByForm.{RequestByForm}
use Rattle.till_request.specs.declared.form.RequestByForm.TheVariants as request_forms
use Rattle.till_request.specs.Grammar.{by_form}
use Rattle.till_request.specs.Spelling.{event_form}
use Rattle.decision_journal.specs.declared.entries.Run.{Run}
use Rattle.day_export.specs.declared.cells.Word.{Word}
use Rattle.day_export.specs.declared.cells.Word.TheVariants as word
use Rattle.day_export.specs.declared.cells.Cell.{Cell}
use Rattle.day_export.specs.declared.cells.Cell.TheVariants as cell
use Rattle.day_export.specs.declared.acts.ActCells.{ActCells}
use Rattle.day_export.specs.declared.replies.ReplyCells.{ReplyCells}
use Rattle.day_export.specs.declared.runs.RunCells.{RunCells}
use Rattle.day_export.specs.Cells.{optional}

-- ---- the cells of an act

-- the cells of an act that has no values but its sender and its verb
abbrev pub bare_act_cells : Word → Form → ActCells
bare_act_cells sender verb =
    record {
      sender = cell.Word sender;
      till = cell.Nothing;
      point = cell.Nothing;
      verb = cell.Word (word.Verb verb);
      product = cell.Nothing;
      nozzle = cell.Nothing;
      transaction = cell.Nothing;
      amount = cell.Nothing;
      volume = cell.Nothing;
      slot = cell.Nothing;
      mask = cell.Nothing;
      layout = cell.Nothing;
    }

-- The cells of a till's request that names a point and has no further values. The arguments are the till, the verb and
-- the point. Only the cells of these three and of the sender are filled.
abbrev pub point_request_cells : ℕ → Form → ℕ → ActCells
point_request_cells till verb n = record (bare_act_cells word.Till verb) { till = cell.Number till; point = cell.Number n }

-- The cells of a till's request with an amount or a price. The arguments are the till, the verb, the point (for a price
-- the product), and the amount or the price.
abbrev pub amount_request_cells : ℕ → AmountVerb → ℕ → ℕ → ActCells
amount_request_cells till amounts.Price product price =
    record (bare_act_cells word.Till (forms.Amount amounts.Price)) { till = cell.Number till; product = cell.Number product; amount = cell.Number price }
amount_request_cells till verb n amount = record (point_request_cells till (forms.Amount verb) n) { amount = cell.Number amount }

abbrev pub request_cells : ℕ → RequestByForm → ActCells
request_cells till (request_forms.Amount verb subject amount) = amount_request_cells till verb subject amount
request_cells till (request_forms.Point verb n) = point_request_cells till (forms.Point verb) n
request_cells till (request_forms.Transaction verb n transaction) =
    record (point_request_cells till (forms.Transaction verb) n) { transaction = cell.Number transaction }

-- The cells of an event of the dispenser at a point, without the event's numbers. The arguments are the point and the
-- event.
abbrev pub bare_event_cells : ℕ → DispenserEvent → ActCells
bare_event_cells n event = record (bare_act_cells word.Dispenser (event_form event)) { point = cell.Number n }

abbrev pub event_cells : ℕ → DispenserEvent → ActCells
event_cells n (event.Up nozzle) = record (bare_event_cells n (event.Up nozzle)) { nozzle = cell.Number nozzle }
event_cells n (event.Flowed amount volume) =
    record (bare_event_cells n (event.Flowed amount volume)) { amount = cell.Number amount; volume = cell.Number volume }
event_cells n e = bare_event_cells n e

abbrev pub layout_number : Layout → ℕ
layout_number layouts.One = 1
layout_number layouts.Two = 2

-- The cells of an act. The bytes of a load's program have no cell. The verb of a load is `load` for both layouts.
abbrev pub act_cells : Act → ActCells
act_cells (act.Till till request) = request_cells till (by_form request)
act_cells (act.Dispenser n event) = event_cells n event
act_cells (act.Load slot mask layout bytes) =
    record (bare_act_cells word.Owner (forms.Load layouts.One)) {
      slot = cell.Number slot;
      mask = cell.Number mask;
      layout = cell.Number (layout_number layout);
    }

-- ---- the cells of a reply

-- the cells of a reply that is only a word
abbrev pub word_reply_cells : Word → ReplyCells
word_reply_cells w =
    record {
      reply = cell.Word w;
      granted = cell.Nothing;
      version = cell.Nothing;
      order = cell.Nothing;
      refusal = cell.Nothing;
      detail = cell.Nothing;
    }

abbrev pub order_word_cells : Word → ReplyCells
order_word_cells w = record (word_reply_cells word.Order) { order = cell.Word w }

abbrev pub order_cells : Order → ReplyCells
order_cells (order.Authorise amount) = record (order_word_cells word.Authorise) { granted = cell.Number amount }
order_cells order.Suspend = order_word_cells word.Suspend
order_cells order.Resume = order_word_cells word.Resume
order_cells order.Stop = order_word_cells word.Stop

-- The cells of a reply. For the reply `Point` only the cell `reply` has a value: there are no columns for the point's
-- values.
abbrev pub reply_cells : Reply → ReplyCells
reply_cells reply.Done = word_reply_cells word.Done
reply_cells (reply.Granted granted version) = record (word_reply_cells word.Granted) { granted = cell.Number granted; version = cell.Number version }
reply_cells (reply.Version version) = record (word_reply_cells word.Version) { version = cell.Number version }
reply_cells (reply.Order order) = order_cells order
reply_cells (reply.Point state nozzle unpaid amount volume limit preset) = word_reply_cells word.Point
reply_cells (reply.Refused number value) = record (word_reply_cells word.Refused) { refusal = cell.Number number; detail = optional value }

-- ---- the cells of a run of a rule, and those of the context that the rule ran on

-- The cells of a run of a rule: its slot, its version and its answer, `r0`. They are empty if no rule ran.
abbrev pub run_cells : Option Run → RunCells
run_cells None = record { slot = cell.Nothing; version = cell.Nothing; r0 = cell.Nothing }
run_cells (Some run) = record { slot = cell.Number run.slot; version = cell.Number run.version; r0 = cell.Number run.r0 }

-- The cell with the number in the `size` bytes at `offset`, the least significant byte first. It is empty if there are
-- too few bytes.
abbrev pub number_at : List ℕ → ℕ → ℕ → Cell
number_at bytes offset size =
    if nat_le (offset + size) (length bytes) then cell.Number (little_number size (drop offset bytes)) else cell.Nothing

-- The cell with the field of `size` bytes at `offset` in the context that a rule ran on. It is empty if no rule ran, or
-- if the context ends before the field does.
abbrev pub field_cell : Option Run → ℕ → ℕ → Cell
field_cell None offset size = cell.Nothing
field_cell (Some run) offset size = number_at (bytes_of run.context) offset size

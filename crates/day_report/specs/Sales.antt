-- Definitions: the sales of a day. A sale is a transaction that a till cleared.
use Rattle.std.specs.Prelude.{ℕ, ◌+◌, ◌-◌, ◌*◌, ◌/◌, ◌==◌, ◌&&◌, not, if◌then◌else◌, nat_lt, Bool, false, List, [], ◌++◌, map, option_map, option_to_list, fold}
use Rattle.std.specs.Prelude.{filter, find, Option, Some, None}
use Rattle.fuelling_point.specs.Table.{PointState, find_number}
use Rattle.fuelling_point.specs.declared.kinds.Transaction.{Transaction}
use Rattle.decision_journal.specs.declared.entries.Entry.{Entry}
use Rattle.till_request.specs.declared.act.Request.TheVariants as request
use Rattle.till_request.specs.declared.act.Act.{Act}
use Rattle.till_request.specs.declared.act.Act.TheVariants as act
use Rattle.till_request.specs.declared.act.Reply.{Reply}
use Rattle.till_request.specs.declared.act.Reply.TheVariants as reply
use Rattle.site_core.specs.Limits.{ConfigValue}
use Rattle.site_core.specs.Steps.{StepValue, steps_of}
use Rattle.day_report.specs.declared.sales.Clearing.{Clearing}
use Rattle.day_report.specs.declared.sales.Ended.{Ended}
use Rattle.day_report.specs.declared.sales.Sale.{Sale}
use Rattle.day_report.specs.declared.sales.Sales.{Sales}

-- What a till's request `Clear` asks to clear: the till, the point and the number of the transaction. None for any
-- other act.
abbrev pub cleared_by : Act → Option Clearing
cleared_by (act.Till till (request.Clear n number)) = Some (record { till = till; point = n; number = number })
cleared_by _ = None

abbrev pub clearing_of : Act → Reply → Option Clearing
clearing_of act reply.Done = cleared_by act
clearing_of act _ = None

-- The unpaid transaction of this number at a point. None if there is no such transaction, or no point.
abbrev pub unpaid_at : Option PointState → ℕ → Option Transaction
unpaid_at None number = None
unpaid_at (Some p) number = find_number number p.unpaid

-- The delivery that an entry ended at a point; None unless the point gave out one more transaction number. The
-- arguments are the numbers of the entry and of the point, and the point before and after the entry.
abbrev pub ended_at : ℕ → ℕ → Option PointState → Option PointState → Option Ended
ended_at number n (Some before) (Some after) =
    if after.last == before.last + 1 then Some (record { point = n; transaction = after.last; number = number }) else None
ended_at number n _ _ = None

-- The delivery that a step ended; None if it ended none.
unfoldable pub ended_by : StepValue → Option Ended
ended_by step = ended_at step.entry.number step.change.point step.change.before step.change.after

-- Whether a delivery has this point and this transaction number.
abbrev pub is_delivery_of : ℕ → ℕ → Ended → Bool
is_delivery_of n transaction e = e.point == n && e.transaction == transaction

-- The number of the entry that ended the first delivery in the list with this point and this transaction number; None if
-- there is no such delivery.
abbrev pub end_of : List Ended → ℕ → ℕ → Option ℕ
end_of unpaid n transaction = option_map (λ (e : Ended). e.number) (find (λ (e : Ended). is_delivery_of n transaction e) unpaid)

-- The list without the deliveries that have this point and this transaction number.
abbrev pub without : List Ended → ℕ → ℕ → List Ended
without unpaid n transaction = filter (λ (e : Ended). not (is_delivery_of n transaction e)) unpaid

-- The sale that a step made; None if it made none. `unpaid` are the deliveries that ended in this day before the step
-- and weren't cleared yet.
unfoldable pub sale_of : List Ended → StepValue → Option Sale
sale_of unpaid step =
    elim (clearing_of step.entry.act step.entry.reply) [
      | None ↦ None
      | Some c ↦
          elim (unpaid_at step.change.before c.number) [
            | None ↦ None
            | Some t ↦
                Some (record {
                  number = step.entry.number;
                  moment = step.entry.moment;
                  till = c.till;
                  point = c.point;
                  transaction = c.number;
                  product = t.product;
                  price = t.price;
                  amount = t.amount;
                  volume = t.volume;
                  ended = end_of unpaid c.point c.number;
                })
          ]
    ]

-- The deliveries that are still unpaid after a sale.
abbrev pub uncleared : List Ended → Option Sale → List Ended
uncleared unpaid None = unpaid
uncleared unpaid (Some sale) = without unpaid sale.point sale.transaction

-- The sales of a day so far, and the deliveries that ended in it and weren't cleared yet, both oldest first.
pub record SalesValue : Type 0 where
  pub sales : List Sale
  pub unpaid : List Ended

unfoldable pub sales_after : SalesValue → StepValue → SalesValue
sales_after s step = record {
  sales = s.sales ++ option_to_list (sale_of s.unpaid step);
  unpaid = uncleared s.unpaid (sale_of s.unpaid step) ++ option_to_list (ended_by step);
}

abbrev pub no_sales : SalesValue
no_sales = record { sales = []; unpaid = [] }

-- The sales that these steps made, oldest first.
abbrev pub sales_in : List StepValue → List Sale
sales_in steps = (fold sales_after no_sales steps).sales

-- The sales in the history of a site of this configuration, oldest first.
abbrev pub sales_of : ConfigValue → List Entry → List Sale
sales_of config history = sales_in (steps_of config history)

-- ---- What the volume of a sale costs

-- What a volume in centilitres costs at a price in thousandths of the currency per litre, in cents; half a cent is
-- rounded up.
abbrev pub worth : ℕ → ℕ → ℕ
worth price volume = (price * volume + 500) / 1000

-- By how many cents the amount of a sale is off what its volume costs; None if its product isn't known.
abbrev pub off_by : Sale → Option ℕ
off_by sale =
    if sale.product == 0 then None
    else Some ((sale.amount - worth sale.price sale.volume) + (worth sale.price sale.volume - sale.amount))

abbrev pub is_over_a_cent : Option ℕ → Bool
is_over_a_cent None = false
is_over_a_cent (Some cents) = nat_lt 1 cents

-- Whether a sale is off: by more than a cent. A sale whose product isn't known isn't.
abbrev pub is_off : Sale → Bool
is_off sale = is_over_a_cent (off_by sale)

-- The numbers of the entries that cleared the sales that are off, in the order of the sales.
abbrev pub off_entries : List Sale → List ℕ
off_entries sales = map (λ (s : Sale). s.number) (filter is_off sales)

-- ---- The contracts of private functions use these definitions.

abbrev pub sales_value : Sales → SalesValue
sales_value s = record { sales = s.sales.items; unpaid = s.unpaid.items }

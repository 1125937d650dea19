-- Definitions: the decisions of rules, the refusals, the price changes and the accepted loads in a history.
use Rattle.std.specs.Prelude.{ℕ, ◌==◌, if◌then◌else◌, List, [], ◌∷◌, Option, Some, None}
use Rattle.std.specs.List.{cons_option}
use Rattle.decision_journal.specs.declared.entries.Entry.{Entry}
use Rattle.decision_journal.specs.Tally.{verdict_of}
use Rattle.till_request.specs.declared.act.Request.{Request}
use Rattle.till_request.specs.declared.act.Request.TheVariants as request
use Rattle.till_request.specs.declared.act.Act.{Act}
use Rattle.till_request.specs.declared.act.Act.TheVariants as act
use Rattle.till_request.specs.declared.act.Reply.{Reply}
use Rattle.till_request.specs.declared.act.Reply.TheVariants as reply
use Rattle.day_report.specs.declared.rulings.RequestKind.{RequestKind}
use Rattle.day_report.specs.declared.rulings.RequestKind.TheVariants as asked
use Rattle.day_report.specs.declared.rulings.Decision.{Decision}
use Rattle.day_report.specs.declared.rulings.PriceChange.{PriceChange}
use Rattle.day_report.specs.declared.loading.Load.{Load}

-- The kind of a request that a rule decides: a release, a preset or a price change. None for any other request.
abbrev pub kind_of_request : Request → Option RequestKind
kind_of_request (request.Release n amount) = Some asked.Release
kind_of_request (request.Preset n amount) = Some asked.Preset
kind_of_request (request.Price product price) = Some asked.Price
kind_of_request _ = None

-- The decision that led to this reply to an act; None if no rule decided.
abbrev pub decided : Act → Reply → Option Decision
decided (act.Till till request) reply =
    elim (kind_of_request request) [
      | None ↦ None
      | Some a ↦ elim (verdict_of reply) [ None ↦ None | Some v ↦ Some (record { till = till; asked = a; version = v.0; is_granted = v.1 }) ]
    ]
decided _ reply = None

unfoldable pub decision_of : Entry → Option Decision
decision_of entry = decided entry.act entry.reply

-- The number of a refusal, such as 24 for S24; None for any other reply.
abbrev pub refused_as : Reply → Option ℕ
refused_as (reply.Refused number value) = Some number
refused_as _ = None

unfoldable pub refusal_of : Entry → Option ℕ
refusal_of entry = refused_as entry.reply

-- The price change in an entry with this number, moment, act and reply; None unless a till asked to change a price and
-- the reply is a grant.
abbrev pub changed_price : ℕ → ℕ → Act → Reply → Option PriceChange
changed_price number moment (act.Till till (request.Price product price)) (reply.Granted granted version) =
    Some (record { number = number; moment = moment; till = till; product = product; price = granted; version = version })
changed_price number moment _ _ = None

unfoldable pub price_change_of : Entry → Option PriceChange
price_change_of entry = changed_price entry.number entry.moment entry.act entry.reply

-- The last moment (time in seconds) recorded in a history whose last entry is `entry`. It is the entry's own moment, if
-- the entry has one. Otherwise it is `moment`, the moment of the last earlier entry that has one, or 0 if none has.
abbrev pub moment_after : ℕ → Entry → ℕ
moment_after moment entry = if entry.moment == 0 then moment else entry.moment

-- The accepted load of a program; None unless the act is a load and its reply is a version. `number` is the number of
-- the entry. `moment` is the moment of the last earlier entry that has one, or 0 if none has.
abbrev pub loaded_at : ℕ → ℕ → Act → Reply → Option Load
loaded_at number moment (act.Load slot mask layout bytes) (reply.Version version) =
    Some (record { number = number; moment = moment; slot = slot; version = version })
loaded_at number moment _ _ = None

unfoldable pub load_of : ℕ → Entry → Option Load
load_of moment entry = loaded_at entry.number moment entry.act entry.reply

-- The accepted loads of programs in a history, oldest first. `moment` is the last moment recorded before the history,
-- or 0 if there is none.
abbrev pub loads : ℕ → List Entry → List Load
loads moment [] = []
loads moment (entry ∷ entries) = cons_option (load_of moment entry) (loads (moment_after moment entry) entries)

-- Definitions: what each event does at a site (source: this project). In these definitions a history has its newest
-- entry first.
use Rattle.std.specs.Prelude.{◌≡◌, ℕ, ◌+◌, nat_lt, nat_le, if◌then◌else◌, List, length, Option, Some, None, unwrap_or, Result, Ok, Err}
use Rattle.fuelling_point.specs.Table.{PointState, StepResult, command_step, event_step}
use Rattle.fuelling_point.specs.States.{state_number}
use Rattle.fuelling_point.specs.declared.kinds.Command.{Command}
use Rattle.fuelling_point.specs.declared.kinds.DispenserEvent.{DispenserEvent}
use Rattle.fuelling_point.specs.declared.kinds.Order.{Order}
use Rattle.fuelling_point.specs.declared.kinds.PointFault.{PointFault}
use Rattle.fuelling_point.specs.declared.kinds.PointFault.TheVariants.{WrongState, TransactionsFull, NotYourTransaction, NoSuchTransaction, NoOrder, Unexpected}
use Rattle.decision_journal.specs.declared.entries.Entry.{Entry}
use Rattle.till_request.specs.declared.act.Request.{Request}
use Rattle.till_request.specs.declared.act.Act.{Act}
use Rattle.till_request.specs.declared.act.Act.TheVariants as act
use Rattle.till_request.specs.declared.act.Reply.{Reply}
use Rattle.till_request.specs.declared.act.Reply.TheVariants as reply
use Rattle.site_core.specs.Limits.{ConfigValue}
use Rattle.site_core.specs.State.{SiteState, at_number, price_of, with_point}
use Rattle.site_core.specs.History.{versions, versions_before}
use Rattle.site_core.specs.declared.question.RequestAction.{RequestAction}
use Rattle.site_core.specs.declared.question.RequestAction.TheVariants as action
use Rattle.site_core.specs.Decide.{Effect, replied, refused, wrong_state, no_such_point, no_such_till, is_till, decided, admitted, request_action}

-- The reply to a command or an event that the point refused for this fault.
abbrev pub fault_reply : PointFault → Reply
fault_reply (WrongState state) = wrong_state state
fault_reply TransactionsFull = refused 26
fault_reply NotYourTransaction = refused 27
fault_reply NoSuchTransaction = refused 28
fault_reply NoOrder = refused 33
fault_reply Unexpected = refused 34

-- The reply that shows this point to a till.
abbrev pub shown : PointState → Reply
shown p = reply.Point (state_number p.state) p.nozzle (length p.unpaid) p.amount p.volume p.limit p.preset

unfoldable pub show_reply : SiteState → ℕ → Reply
show_reply s n = elim (at_number s.points n) [ None ↦ no_such_point | Some p ↦ shown p ]

-- How many transactions a command cleared: 1 if it cleared an amount, or else 0.
abbrev pub clears_by : Option ℕ → ℕ
clears_by None = 0
clears_by (Some amount) = 1

-- The effect of a till's command, given what the point returned for it. The amount that a Clear cleared is added to the
-- total of cleared amounts, and 1 to the count of cleared transactions.
abbrev pub command_effect : SiteState → ℕ → StepResult (Option ℕ) → Effect
command_effect s n (Err fault) = replied (fault_reply fault) s
command_effect s n (Ok (point, cleared)) =
    replied reply.Done (record (with_point s n point) { cleared = s.cleared + unwrap_or cleared 0; clears = s.clears + clears_by cleared })

-- The effect of a till's command that needs no decision. The reply is S20 if there is no point n. The point is told the
-- price of the product that its lifted nozzle carries.
unfoldable pub till_command_effect : SiteState → ℕ → ℕ → Command → Effect
till_command_effect s till n command =
    elim (at_number s.points n) [ None ↦ replied no_such_point s | Some p ↦ command_effect s n (command_step (price_of s p.nozzle) p till command) ]

abbrev pub order_reply : Option Order → Reply
order_reply None = reply.Done
order_reply (Some order) = reply.Order order

abbrev pub event_reply : Result (Option Order) PointFault → Reply
event_reply (Ok order) = order_reply order
event_reply (Err fault) = fault_reply fault

-- The effect of a dispenser's event, given what the point returned for it.
abbrev pub event_effect : SiteState → ℕ → StepResult (Option Order) → Effect
event_effect s n (Err fault) = replied (fault_reply fault) s
event_effect s n (Ok (point, order)) = replied (order_reply order) (with_point s n point)

-- The effect of a dispenser's event. The reply is S20 if there is no point n. The point is told the price of the product
-- that its lifted nozzle carries.
unfoldable pub dispenser_effect : SiteState → ℕ → DispenserEvent → Effect
dispenser_effect s n event =
    elim (at_number s.points n) [ None ↦ replied no_such_point s | Some p ↦ event_effect s n (event_step (price_of s p.nozzle) p event) ]

-- The effect of a till's request, given what the request leads to.
abbrev pub effect_of : ConfigValue → List Entry → SiteState → ℕ → ℕ → RequestAction → Effect
effect_of config past s till moment (action.Decision q) = decided config past s till moment (admitted s q)
effect_of config past s till moment (action.Command n command) = till_command_effect s till n command
effect_of config past s till moment (action.Show n) = replied (show_reply s n) s

-- The effect of a request by a till that the site has.
abbrev pub asked : ConfigValue → List Entry → SiteState → ℕ → ℕ → Request → Effect
asked config past s till moment request = effect_of config past s till moment (request_action config request)

-- The reply to a load: S32 if there is no such slot, S30 if the history has 4,096 versions already, or else the number
-- of the next version.
abbrev pub load_reply : ConfigValue → ℕ → List Entry → Reply
load_reply config slot past =
    if nat_le slot 15 then if nat_lt (versions past) 4096 then reply.Version (versions_before config + versions past + 1) else refused 30 else refused 32

-- The effect of an event. The reply to a request is S21 if the site has no till of this number.
abbrev pub effect : ConfigValue → List Entry → SiteState → ℕ → Act → Effect
effect config past s moment (act.Till till request) =
    if is_till config till then asked config past s till moment request else replied no_such_till s
effect config past s moment (act.Dispenser n event) = dispenser_effect s n event
effect config past s moment (act.Load slot mask layout bytes) = replied (load_reply config slot past) s

-- The moment in the entry of an act: the event's moment for a till's request, 0 for all other acts.
abbrev pub entered_moment : Act → ℕ → ℕ
entered_moment (act.Till till request) moment = moment
entered_moment _ moment = 0

-- The entry that an act of this pass makes after the entries `past`, with the reply and the run of this effect.
abbrev pub entry_of : List Entry → ℕ → ℕ → Act → Effect → Entry
entry_of past pass moment act e = record { number = length past + 1; pass = pass; moment = entered_moment act moment; act = act; reply = e.reply; run = e.run }

-- The site's step: with this configuration, after these entries, in state s, an act of this pass at this moment makes
-- this entry and leads to the state `after`.
pub record Step (config : ConfigValue) (past : List Entry) (s : SiteState) (pass moment : ℕ) (act : Act) (entry : Entry) (after : SiteState) : Type 0 where
  pub enters : entry ≡ entry_of past pass moment act (effect config past s moment act)
  pub leaves : after ≡ (effect config past s moment act).after

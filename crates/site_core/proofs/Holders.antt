-- If each of a point's unpaid transactions is held by nobody or by a till of the site, this stays true after each event
-- of the point's dispenser and each command of a till of the site.
use Rattle.std.proofs.Common.{ℕ, ◌+◌, ◌≤◌, length, List, [], ◌∷◌, ◌++◌, Bool, true, false, Option, Some, None, Ok, Err, arith}
use Rattle.std.specs.Prelude.{◌==◌, ◌&&◌, ◌||◌, not, nat_le, nat_lt, if◌then◌else◌, slice_index_or, All}
use Rattle.std.proofs.lemmas.List.Elements.{All-filter, All-map, All-push}
use Rattle.fuelling_point.specs.declared.kinds.Command.{Command}
use Rattle.fuelling_point.specs.declared.kinds.Command.TheVariants as command
use Rattle.fuelling_point.specs.declared.kinds.DispenserEvent.{DispenserEvent}
use Rattle.fuelling_point.specs.declared.kinds.DispenserEvent.TheVariants as event
use Rattle.fuelling_point.specs.declared.kinds.Order.{Order}
use Rattle.fuelling_point.specs.declared.kinds.Order.TheVariants as order
use Rattle.fuelling_point.specs.declared.kinds.PointFault.TheVariants.{WrongState, TransactionsFull, NotYourTransaction, NoSuchTransaction, NoOrder, Unexpected}
use Rattle.fuelling_point.specs.declared.kinds.State.{State}
use Rattle.fuelling_point.specs.declared.kinds.State.TheVariants.{Inoperative, Closed, Authorised, Started, SuspendedStarted, Fuelling, SuspendedFuelling}
use Rattle.fuelling_point.specs.declared.kinds.Transaction.{Transaction}
use Rattle.fuelling_point.specs.States.{has_flowed, is_busy, is_ready}
use Rattle.fuelling_point.specs.Table.{StepResult, PointState, command_step, event_step, find_number, held_by, is_authorise, is_authorised, is_closed, is_inoperative}
use Rattle.fuelling_point.specs.Table.{flowed, add_unpaid_delivery, ready_state, end_delivery_in, left_unpaid, state_after_down, state_after_up, takes_flow, takes_up}
use Rattle.fuelling_point.specs.Table.{without}
use Rattle.site_core.specs.Days.{IsHeldWithin}
use Rattle.site_core.specs.Decide.{after_command, command_of}
use Rattle.site_core.specs.declared.question.Kind.{Kind}
use Rattle.site_core.specs.declared.question.Kind.TheVariants.{Release, Preset, Price}

abbrev IsHeld : ℕ → Transaction → Type 0
IsHeld tills t = t.holder ≤ tills

-- If the table's result for an event or a command is a new point, each of this point's unpaid transactions is held by
-- nobody, or by a till whose number is at most `tills`. Always true if the result is a refusal.
abbrev pub LeavesHeld : {T : Type 0} → ℕ → StepResult T → Type 0
LeavesHeld tills (Ok o) = IsHeldWithin tills o.0
LeavesHeld tills (Err f) = Unit {0}

keep_held : (tills price : ℕ) (p : PointState) (b : Bool) → IsHeldWithin tills p
    → IsHeldWithin tills (if b then record p { last = p.last + 1; unpaid = p.unpaid ++ left_unpaid price p ∷ [] } else p)
keep_held tills price p true h = All-push (IsHeld tills) p.unpaid (left_unpaid price p) h (omega arith)
keep_held tills price p false h = h

rest_if : (tills price : ℕ) (next : State) (p : PointState) (b : Bool) → IsHeldWithin tills p → IsHeldWithin tills
    (if b then record (add_unpaid_delivery price p) { state = next; limit = 0; amount = 0; volume = 0; taken = false } else record p { state = next })
rest_if tills price next p true h = keep_held tills price p (has_flowed p.state && nat_lt 0 p.amount) h
rest_if tills price next p false h = h

rest_held : (tills price : ℕ) (next : State) (p : PointState) → IsHeldWithin tills p → IsHeldWithin tills (end_delivery_in price next p)
rest_held tills price next p h = rest_if tills price next p (is_busy p.state) h

tested : {T : Type 0} (tills : ℕ) (b : Bool) (x y : StepResult T) → LeavesHeld tills x → LeavesHeld tills y → LeavesHeld tills (if b then x else y)
tested tills true x y h k = h
tested tills false x y h k = k

suspended_held : (tills : ℕ) (p : PointState) (s : State) → IsHeldWithin tills p → LeavesHeld tills (elim s as (λ _. StepResult (Option ℕ)) [
  | Started ↦ Ok (record p { state = SuspendedStarted; order = Some order.Suspend }, None)
  | Fuelling ↦ Ok (record p { state = SuspendedFuelling; order = Some order.Suspend }, None)
  | x ↦ Err (WrongState x)
])
suspended_held tills p Started h = h
suspended_held tills p Fuelling h = h
suspended_held tills p _ h = tt

resumed_held : (tills : ℕ) (p : PointState) (s : State) (b : Bool) → IsHeldWithin tills p → LeavesHeld tills (elim s as (λ _. StepResult (Option ℕ)) [
  | SuspendedStarted ↦ Ok (record p { state = Started; order = Some order.Resume }, None)
  | SuspendedFuelling ↦ if b then Ok (record p { state = Fuelling; order = Some order.Resume }, None) else Err (WrongState SuspendedFuelling)
  | x ↦ Err (WrongState x)
])
resumed_held tills p SuspendedStarted b h = h
resumed_held tills p SuspendedFuelling true h = h
resumed_held tills p SuspendedFuelling false h = tt
resumed_held tills p _ b h = tt

one_held : (tills holder : ℕ) (t : Transaction) (b : Bool) → holder ≤ tills → t.holder ≤ tills → (if b then record t { holder = holder } else t).holder ≤ tills
one_held tills holder t true le h = le
one_held tills holder t false le h = h

given_held : (tills holder number : ℕ) (ts : List Transaction) → holder ≤ tills → All (IsHeld tills) ts → All (IsHeld tills) (held_by holder number ts)
given_held tills holder number ts le h =
    All-map (IsHeld tills) (λ (t : Transaction). if t.number == number then record t { holder = holder } else t) ts
    (λ k d lt. one_held tills holder (slice_index_or ts k d) ((slice_index_or ts k d).number == number) le (h k d lt))

locked_held : (tills till number : ℕ) (p : PointState) (o : Option Transaction) → till ≤ tills → IsHeldWithin tills p
    → LeavesHeld tills (elim o as (λ _. StepResult (Option ℕ)) [
      | None ↦ Err NoSuchTransaction
      | Some t ↦
          if t.holder == 0 || t.holder == till then Ok (record p { unpaid = held_by till number p.unpaid }, None)
          else Err NotYourTransaction
    ])
locked_held tills till number p None le h = tt
locked_held tills till number p (Some t) le h =
    tested tills (t.holder == 0 || t.holder == till) (Ok (record p { unpaid = held_by till number p.unpaid }, None)) (Err NotYourTransaction)
    (given_held tills till number p.unpaid le h) tt

unlocked_held : (tills till number : ℕ) (p : PointState) (o : Option Transaction) → IsHeldWithin tills p
    → LeavesHeld tills (elim o as (λ _. StepResult (Option ℕ)) [
      | None ↦ Err NoSuchTransaction
      | Some t ↦ if t.holder == till then Ok (record p { unpaid = held_by 0 number p.unpaid }, None) else Err NotYourTransaction
    ])
unlocked_held tills till number p None h = tt
unlocked_held tills till number p (Some t) h =
    tested tills (t.holder == till) (Ok (record p { unpaid = held_by 0 number p.unpaid }, None)) (Err NotYourTransaction)
    (given_held tills 0 number p.unpaid (omega arith) h) tt

cleared_held : (tills till number : ℕ) (p : PointState) (o : Option Transaction) → IsHeldWithin tills p
    → LeavesHeld tills (elim o as (λ _. StepResult (Option ℕ)) [
      | None ↦ Err NoSuchTransaction
      | Some t ↦ if t.holder == till then Ok (record p { unpaid = without number p.unpaid }, Some t.amount) else Err NotYourTransaction
    ])
cleared_held tills till number p None h = tt
cleared_held tills till number p (Some t) h =
    tested tills (t.holder == till) (Ok (record p { unpaid = without number p.unpaid }, Some t.amount)) (Err NotYourTransaction)
    (All-filter (λ (u : Transaction). not (u.number == number)) (IsHeld tills) p.unpaid h) tt

released_held : (tills granted : ℕ) (p : PointState) → IsHeldWithin tills p → LeavesHeld tills (command_step 0 p 0 (command.Release granted))
released_held tills granted p h =
    let ok : StepResult (Option ℕ) = Ok (record p { state = Authorised; limit = granted; preset = 0; order = Some (order.Authorise granted); taken = false }, None) in
    tested tills (is_ready p.state) (if nat_lt (length p.unpaid) 2 then ok else Err TransactionsFull) (Err (WrongState p.state))
    (tested tills (nat_lt (length p.unpaid) 2) ok (Err TransactionsFull) h tt) tt

preset_held : (tills granted : ℕ) (p : PointState) → IsHeldWithin tills p → LeavesHeld tills (command_step 0 p 0 (command.Preset granted))
preset_held tills granted p h = tested tills (is_ready p.state) (Ok (record p { preset = granted }, None)) (Err (WrongState p.state)) h tt

-- If each of a point's unpaid transactions is held by nobody or by one of the tills, this stays true after a command of
-- one of the tills.
pub command_held : (tills till price : ℕ) (p : PointState) (c : Command) → till ≤ tills → IsHeldWithin tills p → LeavesHeld tills (command_step price p till c)
command_held tills till price p command.OpenPoint le h =
    tested tills (is_closed p.state) (Ok (record p { state = ready_state p.nozzle }, None)) (Err (WrongState p.state)) h tt
command_held tills till price p command.ClosePoint le h =
    tested tills (is_ready p.state) (Ok (record p { state = Closed; preset = 0 }, None)) (Err (WrongState p.state)) h tt
command_held tills till price p (command.Release granted) le h = released_held tills granted p h
command_held tills till price p (command.Preset granted) le h = preset_held tills granted p h
command_held tills till price p command.Suspend le h = suspended_held tills p p.state h
command_held tills till price p command.Resume le h = resumed_held tills p p.state (nat_lt p.amount p.limit) h
command_held tills till price p command.Stop le h =
    tested tills (is_busy p.state) (Ok (record (end_delivery_in price (ready_state p.nozzle) p) { order = Some order.Stop }, None)) (Err (WrongState p.state))
    (rest_held tills price (ready_state p.nozzle) p h) tt
command_held tills till price p (command.Lock number) le h = locked_held tills till number p (find_number number p.unpaid) le h
command_held tills till price p (command.Unlock number) le h = unlocked_held tills till number p (find_number number p.unpaid) h
command_held tills till price p (command.Clear number) le h = cleared_held tills till number p (find_number number p.unpaid) h

after_if : (tills : ℕ) (p : PointState) (a : StepResult (Option ℕ)) → IsHeldWithin tills p → LeavesHeld tills a
    → IsHeldWithin tills (elim a as (λ _. PointState) [ Ok o ↦ o.0 | Err _ ↦ p ])
after_if tills p (Ok o) h k = k
after_if tills p (Err f) h k = h

-- If each of a point's unpaid transactions is held by nobody or by one of the tills, this stays true after a grant.
pub grant_held : (tills till price g : ℕ) (p : PointState) (k : Kind) → IsHeldWithin tills p → IsHeldWithin tills (after_command price p till (command_of k g))
grant_held tills till price g p Release h = after_if tills p (command_step price p till (command.Release g)) h (released_held tills g p h)
grant_held tills till price g p Preset h = after_if tills p (command_step price p till (command.Preset g)) h (preset_held tills g p h)
grant_held tills till price g p Price h = after_if tills p (command_step price p till (command.Preset g)) h (preset_held tills g p h)

flow_held : (tills amount volume : ℕ) (p : PointState) (s : State) (b : Bool) → IsHeldWithin tills p
    → IsHeldWithin tills (elim s as (λ _. PointState) [
      | SuspendedFuelling ↦ record p { amount = amount; volume = volume }
      | _ ↦ if b then record p { state = SuspendedFuelling; amount = amount; volume = volume; order = Some order.Stop }
          else record p { state = Fuelling; amount = amount; volume = volume }
    ])
flow_held tills amount volume p SuspendedFuelling b h = h
flow_held tills amount volume p _ true h = h
flow_held tills amount volume p _ false h = h

order_held : (tills : ℕ) (p : PointState) (o : Option Order) → IsHeldWithin tills p → LeavesHeld tills (elim o as (λ _. StepResult (Option Order)) [
  | None ↦ Err NoOrder
  | Some x ↦ Ok (record p { order = None; taken = p.taken || is_authorise x }, Some x)
])
order_held tills p None h = tt
order_held tills p (Some x) h = h

-- If each of a point's unpaid transactions is held by nobody or by one of the tills, this stays true after a
-- dispenser's event.
pub event_held : (tills price : ℕ) (p : PointState) (e : DispenserEvent) → IsHeldWithin tills p → LeavesHeld tills (event_step price p e)
event_held tills price p (event.Up n) h =
    tested tills (p.nozzle == 0 && nat_le 1 n && nat_le n 8 && takes_up p.state) (Ok (record p { nozzle = n; state = state_after_up p.state }, None))
    (Err Unexpected) h tt
event_held tills price p event.Down h =
    tested tills (not (p.nozzle == 0)) (Ok (record (end_delivery_in price (state_after_down p.state) p) { nozzle = 0; order = None }, None)) (Err Unexpected)
    (rest_held tills price (state_after_down p.state) p h) tt
event_held tills price p event.Started h =
    tested tills (is_authorised p.state && not (p.nozzle == 0) && p.taken) (Ok (record p { state = Started }, None)) (Err Unexpected) h tt
event_held tills price p (event.Flowed amount volume) h =
    tested tills (takes_flow p.state && nat_le p.amount amount && nat_le amount 999999999 && nat_le p.volume volume && nat_le volume 999999999)
    (Ok (flowed amount volume p, None)) (Err Unexpected) (flow_held tills amount volume p p.state (nat_lt p.limit amount) h) tt
event_held tills price p event.Fault h = rest_held tills price Inoperative p h
event_held tills price p event.Repaired h = tested tills (is_inoperative p.state) (Ok (record p { state = Closed }, None)) (Err Unexpected) h tt
event_held tills price p event.TakeOrder h = order_held tills p p.order h

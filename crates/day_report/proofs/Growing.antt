-- An event or a command adds at most one unpaid transaction to a point. An added transaction has the point's next
-- number. A command gives the amount of the transaction that it clears.
use Rattle.std.proofs.Common.{◌≡◌, ◌≤◌, ◌⊎◌, ℕ, ◌+◌, Bool, true, false, List, [], ◌∷◌, ◌++◌, Option, Some, None, Ok, Err, refl, ap, ◌∙◌, sym}
use Rattle.std.proofs.Common.{arith, inl, inr}
use Rattle.std.specs.Prelude.{◌==◌, ◌&&◌, ◌||◌, not, nat_lt, if◌then◌else◌, option_map, IsTrue}
use Rattle.std.proofs.lemmas.Bool.{and_parts, cond_both, eqb-true, or_cases}
use Rattle.std.proofs.lemmas.List.Folds.{list_any-append}
use Rattle.std.proofs.lemmas.Map.Views.{any-filter_same}
use Rattle.fuelling_point.specs.Table.{PointState, StepResult, command_step, event_step, take_order, held_by, add_unpaid_delivery, end_delivery_in, find_number, left_unpaid, without}
use Rattle.fuelling_point.specs.States.{is_busy, has_flowed}
use Rattle.fuelling_point.specs.declared.kinds.State.{State}
use Rattle.fuelling_point.specs.declared.kinds.State.TheVariants as state
use Rattle.fuelling_point.specs.declared.kinds.Order.{Order}
use Rattle.fuelling_point.specs.declared.kinds.DispenserEvent.{DispenserEvent}
use Rattle.fuelling_point.specs.declared.kinds.DispenserEvent.TheVariants as event
use Rattle.fuelling_point.specs.declared.kinds.Command.{Command}
use Rattle.fuelling_point.specs.declared.kinds.Command.TheVariants as command
use Rattle.fuelling_point.specs.declared.kinds.PointFault.{PointFault}
use Rattle.fuelling_point.specs.declared.kinds.PointFault.TheVariants.{WrongState, NotYourTransaction, NoSuchTransaction, Unexpected}
use Rattle.fuelling_point.specs.declared.kinds.Transaction.{Transaction}
use Rattle.day_report.specs.Sales.{unpaid_at}
use Rattle.day_report.proofs.Owing.{has_number, nothing, owes}

-- ---- These lemmas say which numbers the transactions have after some were removed, or after the holder of one changed.

without-number : (x y : ℕ) (ts : List Transaction) → IsTrue (has_number x (without y ts)) → IsTrue (has_number x ts)
without-number x y ts h =
    (and_parts (not (x == y)) (has_number x ts)
    (sym (any-filter_same (λ (t : Transaction). t.number == x) (λ (t : Transaction). not (t.number == y)) (not (x == y))
    (λ t is. ap (λ n. not (n == y)) (eqb-true t.number x is)) ts) ∙ h)).1

gone : (y : ℕ) (ts : List Transaction) → has_number y (without y ts) ≡ false
gone y ts = any-filter_same (λ (t : Transaction). t.number == y) (λ (t : Transaction). not (t.number == y)) false (λ t is. ap not is) ts

held-number : (b : Bool) (t : Transaction) (holder : ℕ) → (if b then record t { holder = holder } else t).number ≡ t.number
held-number true t holder = refl
held-number false t holder = refl

held-same : (x holder y : ℕ) (ts : List Transaction) → has_number x (held_by holder y ts) ≡ has_number x ts
held-same x holder y [] = refl
held-same x holder y (t ∷ ts) = λ j. (held-number (t.number == y) t holder j == x) || held-same x holder y ts j

-- ---- These lemmas show that an event or a command gives out at most one transaction number, and that any new unpaid
-- transaction has this number (`Grows`).

-- A point changed from p to q:
-- - The number of its newest transaction is at least what it was.
-- - Each unpaid transaction of q was unpaid at p, or it is the newest one, and the only one that was given out.
abbrev pub Grows : PointState → PointState → Type 0
Grows p q =
    (p.last ≤ q.last) × ((x : ℕ) → IsTrue (has_number x q.unpaid) → IsTrue (has_number x p.unpaid) ⊎ ((q.last ≡ p.last + 1) × (q.last ≡ x)))

pub same : (p : PointState) → Grows p p
same p = (omega arith, λ x h. inl h)

added : (x : ℕ) (ts : List Transaction) (t : Transaction) → IsTrue (has_number x (ts ++ t ∷ [])) → IsTrue (has_number x ts) ⊎ (t.number ≡ x)
added x ts t h = elim (or_cases (has_number x ts) ((t.number == x) || false) (sym (list_any-append (λ (u : Transaction). u.number == x) ts (t ∷ [])) ∙ h)) [
  | inl old ↦ inl old
  | inr new ↦ elim (or_cases (t.number == x) false new) [ inl is ↦ inr (eqb-true t.number x is) | inr never ↦ nothing never ]
]

new-grows : (p : PointState) (t : Transaction) → t.number ≡ p.last + 1 → Grows p (record p { last = p.last + 1; unpaid = p.unpaid ++ t ∷ [] })
new-grows p t is = (omega arith, λ x h. elim (added x p.unpaid t h) [ inl old ↦ inl old | inr new ↦ inr (refl, sym is ∙ new) ])

keep-grows : (b : Bool) (price : ℕ) (p : PointState)
    → Grows p (if b then record p { last = p.last + 1; unpaid = p.unpaid ++ left_unpaid price p ∷ [] } else p)
keep-grows true price p = new-grows p (left_unpaid price p) refl
keep-grows false price p = same p

rest-by : (b : Bool) (price : ℕ) (next : State) (p : PointState) → Grows p (if b then
    record (add_unpaid_delivery price p) { state = next; limit = 0; amount = 0; volume = 0; taken = false } else record p { state = next })
rest-by true price next p = keep-grows (has_flowed p.state && nat_lt 0 p.amount) price p
rest-by false price next p = same p

rest-grows : (price : ℕ) (next : State) (p : PointState) → Grows p (end_delivery_in price next p)
rest-grows price next p = rest-by (is_busy p.state) price next p

flow-grows : (st : State) (p q r s : PointState) (b : Bool) → Grows p q → Grows p r → Grows p s
    → Grows p (elim st as (λ _. PointState) [ state.SuspendedFuelling ↦ q | _ ↦ if b then r else s ])
flow-grows state.SuspendedFuelling p q r s b h j k = h
flow-grows _ p q r s b h j k = cond_both b r s (Grows p) (λ _. j) (λ _. k)

-- ---- These lemmas show that P holds of what a command or an event gives, if it is accepted.

-- P holds of the new point and of what the step gives with it. A step that is refused gives nothing.
unfoldable pub Gives : {T : Type 0} → (PointState → T → Type 0) → StepResult T → Type 0
Gives P (Ok o) = P o.0 o.1
Gives P (Err f) = Unit {0}

module _ {T : Type 0} (P : PointState → T → Type 0) where
  ok-gives : (q : PointState) (o : T) → P q o → Gives P (Ok (q, o))
  unfolding Gives
  ok-gives q o h = h

  err-gives : (f : PointFault) → Gives P (Err f)
  unfolding Gives
  err-gives f = tt

  if-gives : (b : Bool) (x y : StepResult T) → Gives P x → Gives P y → Gives P (if b then x else y)
  if-gives true x y h k = h
  if-gives false x y h k = k

  tested-gives : (b : Bool) (q : PointState) (o : T) (f : PointFault) → P q o → Gives P (if b then Ok (q, o) else Err f)
  tested-gives b q o f h = if-gives b (Ok (q, o)) (Err f) (ok-gives q o h) (err-gives f)

abbrev GrowsBy : PointState → PointState → Option Order → Type 0
GrowsBy p q o = Grows p q

hand-gives : (o : Option Order) (p : PointState) → Gives (GrowsBy p) (take_order p o)
unfolding Gives
hand-gives None p = tt
hand-gives (Some o) p = same p

pub event-gives : (price : ℕ) (p : PointState) (e : DispenserEvent) → Gives (GrowsBy p) (event_step price p e)
event-gives price p (event.Up n) = tested-gives (GrowsBy p) _ _ None Unexpected (same p)
event-gives price p event.Down = tested-gives (GrowsBy p) _ _ None Unexpected (rest-grows price _ p)
event-gives price p event.Started = tested-gives (GrowsBy p) _ _ None Unexpected (same p)
event-gives price p (event.Flowed amount volume) =
    tested-gives (GrowsBy p) _ _ None Unexpected (flow-grows p.state p _ _ _ (nat_lt p.limit amount) (same p) (same p) (same p))
event-gives price p event.Fault = ok-gives (GrowsBy p) _ None (rest-grows price state.Inoperative p)
event-gives price p event.Repaired = tested-gives (GrowsBy p) _ _ None Unexpected (same p)
event-gives price p event.TakeOrder = hand-gives p.order p

-- ---- These lemmas show what a command changes (`Takes`). It clears the transaction that it names, if it is `Clear`,
-- and otherwise nothing.

-- The unpaid transaction of number x at a point; None without a number, or if there is no such transaction.
abbrev pub paid_at : Option PointState → Option ℕ → Option Transaction
paid_at point None = None
paid_at point (Some x) = unpaid_at point x

abbrev pub amount_of : Option Transaction → Option ℕ
amount_of o = option_map (λ (t : Transaction). t.amount) o

-- Transaction x isn't unpaid at the point.
abbrev pub IsGone : Option ℕ → Option PointState → Type 0
IsGone None point = Unit {0}
IsGone (Some x) point = owes x point ≡ false

-- A command that cleared transaction x, or nothing if x is None, changed a point from p to q, and gave this amount.
pub record Takes (p : PointState) (x : Option ℕ) (q : PointState) (given : Option ℕ) : Type 0 where
  pub grows : Grows p q
  pub gives : given ≡ amount_of (paid_at (Some p) x)
  pub gone : IsGone x (Some q)

pub kept : (p q : PointState) → Grows p q → Takes p None q None
kept p q grows = record { grows = grows; gives = refl; gone = tt }

-- The number of the transaction that a command clears; None if it isn't `Clear`.
abbrev pub number_in : Command → Option ℕ
number_in (command.Clear n) = Some n
number_in _ = None

module _ (P : PointState → Option ℕ → Type 0) where
  suspend-gives : (st : State) (x y : PointState) → P x None → P y None
      → Gives P (elim st as (λ _. StepResult (Option ℕ)) [ state.Started ↦ Ok (x, None) | state.Fuelling ↦ Ok (y, None) | s ↦ Err (WrongState s) ])
  suspend-gives state.Started x y h k = ok-gives P x None h
  suspend-gives state.Fuelling x y h k = ok-gives P y None k
  suspend-gives _ x y h k = err-gives P _

  resume-gives : (st : State) (b : Bool) (x y : PointState) (f : PointFault) → P x None → P y None
      → Gives P (elim st as (λ _. StepResult (Option ℕ)) [
        | state.SuspendedStarted ↦ Ok (x, None)
        | state.SuspendedFuelling ↦ if b then Ok (y, None) else Err f
        | s ↦ Err (WrongState s)
      ])
  resume-gives state.SuspendedStarted b x y f h k = ok-gives P x None h
  resume-gives state.SuspendedFuelling b x y f h k = tested-gives P b y None f k
  resume-gives _ b x y f h k = err-gives P _

  found-gives : (o : Option Transaction) (b : Transaction → Bool) (q : PointState) (given : Transaction → Option ℕ)
      → ((t : Transaction) → o ≡ Some t → P q (given t))
      → Gives P (elim o as (λ _. StepResult (Option ℕ)) [ None ↦ Err NoSuchTransaction | Some t ↦ if b t then Ok (q, given t) else Err NotYourTransaction ])
  found-gives None b q given h = err-gives P NoSuchTransaction
  found-gives (Some t) b q given h = tested-gives P (b t) q (given t) NotYourTransaction (h t refl)

held-takes : (p : PointState) (holder n : ℕ) → Takes p None (record p { unpaid = held_by holder n p.unpaid }) None
held-takes p holder n = kept p _ (omega arith, λ x h. inl (sym (held-same x holder n p.unpaid) ∙ h))

pub command-takes : (price : ℕ) (p : PointState) (till : ℕ) (c : Command) → Gives (Takes p (number_in c)) (command_step price p till c)
command-takes price p till (command.Release g) =
    if-gives (Takes p None) _ _ _ (tested-gives (Takes p None) _ _ _ _ (kept p _ (same p))) (err-gives (Takes p None) _)
command-takes price p till command.Suspend = suspend-gives (Takes p None) p.state _ _ (kept p _ (same p)) (kept p _ (same p))
command-takes price p till command.Resume = resume-gives (Takes p None) p.state _ _ _ _ (kept p _ (same p)) (kept p _ (same p))
command-takes price p till command.Stop = tested-gives (Takes p None) _ _ _ _ (kept p _ (rest-grows price _ p))
command-takes price p till (command.Lock n) =
    found-gives (Takes p None) (find_number n p.unpaid) _ _ (λ _. None) (λ t is. held-takes p till n)
command-takes price p till (command.Unlock n) =
    found-gives (Takes p None) (find_number n p.unpaid) _ _ (λ _. None) (λ t is. held-takes p 0 n)
command-takes price p till (command.Clear n) =
    found-gives (Takes p (Some n)) (find_number n p.unpaid) _ _ (λ t. Some t.amount)
    (λ t is. record {
      grows = (omega arith, λ x h. inl (without-number x n p.unpaid h));
      gives = ap amount_of (sym is);
      gone = gone n p.unpaid;
    })
command-takes price p till _ = tested-gives (Takes p None) _ _ _ _ (kept p _ (same p))

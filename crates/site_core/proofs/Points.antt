-- A till's command or a dispenser's event at a fuelling point that doesn't exist is answered with S20. If the point
-- exists, the effect follows from what the point returns for the command or the event.
use Rattle.std.proofs.Common.{◌≡◌, ℕ, ◌+◌, ◌-◌, ◌<◌, ◌≤◌, List, length, Option, Some, None, Result, Ok, Err, slice_set, refl, arith, ap, ◌∙◌, sym, get_or}
use Rattle.std.specs.Prelude.{unwrap_or}
use Rattle.std.proofs.lemmas.Bool.Decides.{nat_tests}
use Rattle.std.proofs.lemmas.Option.{slice_get-get_or}
use Rattle.std.proofs.lemmas.List.{set-get_or}
use Rattle.fuelling_point.specs.Table.{PointState, StepResult, command_step, event_step}
use Rattle.fuelling_point.specs.Promises.{FollowsTable}
use Rattle.fuelling_point.specs.declared.kinds.PointFault.{PointFault}
use Rattle.fuelling_point.specs.declared.kinds.Command.{Command}
use Rattle.fuelling_point.specs.declared.kinds.Order.{Order}
use Rattle.fuelling_point.specs.declared.kinds.DispenserEvent.{DispenserEvent}
use Rattle.till_request.specs.declared.act.Reply.TheVariants as reply
use Rattle.site_core.specs.State.{SiteState, at_number, price_of, with_point}
use Rattle.site_core.specs.Context.{field_or_zero}
use Rattle.site_core.specs.declared.question.Question.{Question}
use Rattle.site_core.specs.Decide.{replied, no_such_point, asked_at, asked_at_point}
use Rattle.site_core.specs.Step.{clears_by, till_command_effect, command_effect, dispenser_effect, event_effect, order_reply, event_reply, fault_reply, shown, show_reply}

pub at_number-within : {T : Type 0} → (items : List T) (n : ℕ) (d : T) → 1 ≤ n → n ≤ length items → at_number items n ≡ Some (get_or items (n - 1) d)
at_number-within items n d one le =
    let lt : n - 1 < length items = omega arith in
    let got = slice_get-get_or items (n - 1) d lt in
    grind (arith, nat_tests, got)

-- A command to a point that doesn't exist is answered with `no_such_point`, and the site stays as it was.
pub till_command_effect-none : (s : SiteState) (till n : ℕ) (command : Command) → at_number s.points n ≡ None → till_command_effect s till n command ≡ replied no_such_point s
unfolding till_command_effect
till_command_effect-none s till n command none = rw (none, till_command_effect)

-- If the point exists, then the effect of a command follows from what the point returns for it (`command_effect`).
pub till_command_effect-some : (s : SiteState) (till n : ℕ) (command : Command) (p : PointState) → at_number s.points n ≡ Some p
    → till_command_effect s till n command ≡ command_effect s n (command_step (price_of s p.nozzle) p till command)
unfolding till_command_effect
till_command_effect-some s till n command p some = rw (some, till_command_effect)

err_effect : (s : SiteState) (n : ℕ) (a : StepResult (Option ℕ)) (p new : PointState) (fault : PointFault) → FollowsTable a p (Err fault) new
    → (command_effect s n a ≡ replied (fault_reply fault) s) × (new ≡ p)
err_effect s n (Ok o) p new fault h = absurd (let e : Err fault ≡ Ok o.1 = h.0 in cc)
err_effect s n (Err f) p new fault h = (let e : Err fault ≡ Err f = h.0 in let same : f ≡ fault = cc in ap (λ x. replied (fault_reply x) s) same, h.1)

ok_effect : (s : SiteState) (n : ℕ) (a : StepResult (Option ℕ)) (p new : PointState) (cleared : Option ℕ) → FollowsTable a p (Ok cleared) new
    → command_effect s n a ≡ replied reply.Done
    (record (with_point s n new) { cleared = s.cleared + unwrap_or cleared 0; clears = s.clears + clears_by cleared })
ok_effect s n (Ok (q, given)) p new cleared h =
    let e : Ok cleared ≡ Ok given = h.0 in
    let same : cleared ≡ given = cc in
    rw (same, h.1) refl
ok_effect s n (Err f) p new cleared h = absurd (let e : Ok cleared ≡ Err f = h.0 in cc)

-- If `n` is from 1 to the length of a list, then the item of number `n` is the one at place n - 1.
pub at_number-read : {T : Type 0} → (items : List T) (n : ℕ) (x : T) → 1 ≤ n → n ≤ length items → x ≡ get_or items (n - 1) x → at_number items n ≡ Some x
at_number-read items n x one le is = at_number-within items n x one le ∙ ap Some (sym is)

-- Replacing a point by itself leaves the state unchanged.
same_points : (s : SiteState) (n : ℕ) (p : PointState) → p ≡ get_or s.points (n - 1) p → s ≡ with_point s n p
same_points s n p is =
    let back : slice_set s.points (n - 1) p ≡ s.points = ap (λ x. slice_set s.points (n - 1) x) is ∙ set-get_or s.points (n - 1) p in
    ap (λ (x : List PointState). record s { points = x }) (sym back)

-- The price of the product that the lifted nozzle of point n carries; 0 if there is no such point.
abbrev pub lifted_price : SiteState → ℕ → ℕ
lifted_price s n = field_or_zero (at_number s.points n) (λ p. price_of s p.nozzle)

pub lifted_price-is : (s now : SiteState) (n price : ℕ) (p : PointState) → s ≡ now → price ≡ lifted_price now n → 1 ≤ n → n ≤ length s.points
    → p ≡ get_or s.points (n - 1) p → price ≡ price_of s p.nozzle
lifted_price-is s now n price p same priced one le is =
    priced ∙ ap (λ (x : SiteState). lifted_price x n) (sym same)
    ∙ ap (λ (o : Option PointState). field_or_zero o (λ q. price_of s q.nozzle)) (at_number-read s.points n p one le is)

-- A command that the point refuses is answered with the point's refusal.
pub till_command_effect-err : (s : SiteState) (till n : ℕ) (command : Command) (p new : PointState) (fault : PointFault) → 1 ≤ n → n ≤ length s.points
    → p ≡ get_or s.points (n - 1) p → FollowsTable (command_step (price_of s p.nozzle) p till command) p (Err fault) new
    → till_command_effect s till n command ≡ replied (fault_reply fault) (with_point s n new)
till_command_effect-err s till n command p new fault one le is answers =
    let e = err_effect s n (command_step (price_of s p.nozzle) p till command) p new fault answers in
    till_command_effect-some s till n command p (at_number-read s.points n p one le is) ∙ e.0 ∙ ap
    (λ x. replied (fault_reply fault) x) (same_points s n p is ∙ ap (λ x. with_point s n x) (sym e.1))

-- A command that the point carries out is answered with Done. If the command cleared an amount, this is added to the
-- total of cleared amounts, and 1 to the count of cleared transactions.
pub till_command_effect-ok : (s : SiteState) (till n : ℕ) (command : Command) (p new : PointState) (cleared : Option ℕ) → 1 ≤ n → n ≤ length s.points
    → p ≡ get_or s.points (n - 1) p → FollowsTable (command_step (price_of s p.nozzle) p till command) p (Ok cleared) new → till_command_effect s till n command ≡ replied reply.Done
    (record (with_point s n new) { cleared = s.cleared + unwrap_or cleared 0; clears = s.clears + clears_by cleared })
till_command_effect-ok s till n command p new cleared one le is answers =
    till_command_effect-some s till n command p (at_number-read s.points n p one le is) ∙ ok_effect s n (command_step (price_of s p.nozzle) p till command) p new cleared answers

-- An event at a point that doesn't exist is answered with `no_such_point`, and the site stays as it was.
pub dispenser_effect-none : (s : SiteState) (n : ℕ) (event : DispenserEvent) → at_number s.points n ≡ None → dispenser_effect s n event ≡ replied no_such_point s
unfolding dispenser_effect
dispenser_effect-none s n event none = rw (none, dispenser_effect)

pub dispenser_effect-some : (s : SiteState) (n : ℕ) (event : DispenserEvent) (p : PointState) → at_number s.points n ≡ Some p
    → dispenser_effect s n event ≡ event_effect s n (event_step (price_of s p.nozzle) p event)
unfolding dispenser_effect
dispenser_effect-some s n event p some = rw (some, dispenser_effect)

event_err : (s : SiteState) (n : ℕ) (a : StepResult (Option Order)) (p new : PointState) (fault : PointFault) → FollowsTable a p (Err fault) new
    → (event_effect s n a ≡ replied (fault_reply fault) s) × (new ≡ p)
event_err s n (Ok o) p new fault h = absurd (let e : Err fault ≡ Ok o.1 = h.0 in cc)
event_err s n (Err f) p new fault h = (let e : Err fault ≡ Err f = h.0 in let same : f ≡ fault = cc in ap (λ x. replied (fault_reply x) s) same, h.1)

event_ok : (s : SiteState) (n : ℕ) (a : StepResult (Option Order)) (p new : PointState) (order : Option Order) → FollowsTable a p (Ok order) new
    → event_effect s n a ≡ replied (order_reply order) (with_point s n new)
event_ok s n (Ok (q, given)) p new order h =
    let e : Ok order ≡ Ok given = h.0 in
    let same : order ≡ given = cc in
    rw (same, h.1) refl
event_ok s n (Err f) p new order h = absurd (let e : Ok order ≡ Err f = h.0 in cc)

pub dispenser_effect-err : (s : SiteState) (n : ℕ) (event : DispenserEvent) (p new : PointState) (fault : PointFault) → 1 ≤ n → n ≤ length s.points
    → p ≡ get_or s.points (n - 1) p → FollowsTable (event_step (price_of s p.nozzle) p event) p (Err fault) new
    → dispenser_effect s n event ≡ replied (fault_reply fault) (with_point s n new)
dispenser_effect-err s n event p new fault one le is answers =
    let e = event_err s n (event_step (price_of s p.nozzle) p event) p new fault answers in
    dispenser_effect-some s n event p (at_number-read s.points n p one le is) ∙ e.0 ∙ ap
    (λ x. replied (fault_reply fault) x) (same_points s n p is ∙ ap (λ x. with_point s n x) (sym e.1))

pub dispenser_effect-ok : (s : SiteState) (n : ℕ) (event : DispenserEvent) (p new : PointState) (order : Option Order) → 1 ≤ n → n ≤ length s.points
    → p ≡ get_or s.points (n - 1) p → FollowsTable (event_step (price_of s p.nozzle) p event) p (Ok order) new → dispenser_effect s n event ≡ replied (order_reply order) (with_point s n new)
dispenser_effect-ok s n event p new order one le is answers =
    dispenser_effect-some s n event p (at_number-read s.points n p one le is) ∙ event_ok s n (event_step (price_of s p.nozzle) p event) p new order answers

pub show-none : (s : SiteState) (n : ℕ) → at_number s.points n ≡ None → show_reply s n ≡ no_such_point
unfolding show_reply
show-none s n none = rw (none, show_reply)

pub show-some : (s : SiteState) (n : ℕ) (p : PointState) → 1 ≤ n → n ≤ length s.points → p ≡ get_or s.points (n - 1) p → show_reply s n ≡ shown p
unfolding show_reply
show-some s n p one le is = let some = at_number-read s.points n p one le is in rw (some, show_reply)

-- An event is answered with what the point returns for it: its order, Done, or its refusal.
pub dispenser_effect-is : (s : SiteState) (n : ℕ) (event : DispenserEvent) (p new : PointState) (outcome : Result (Option Order) PointFault) → 1 ≤ n
    → n ≤ length s.points → p ≡ get_or s.points (n - 1) p → FollowsTable (event_step (price_of s p.nozzle) p event) p outcome new
    → dispenser_effect s n event ≡ replied (event_reply outcome) (with_point s n new)
dispenser_effect-is s n event p new (Ok order) one le is answers = dispenser_effect-ok s n event p new order one le is answers
dispenser_effect-is s n event p new (Err fault) one le is answers = dispenser_effect-err s n event p new fault one le is answers

-- A question at a point that doesn't exist is refused with `no_such_point`. `asked-some` states the other case: if the
-- point exists, then the point's own check (`asked_at`) decides.
pub asked-none : (s : SiteState) (q : Question) → at_number s.points q.point ≡ None → asked_at_point s q ≡ Err no_such_point
unfolding asked_at_point
asked-none s q none = rw (none, asked_at_point)

pub asked-some : (s : SiteState) (q : Question) (p : PointState) → at_number s.points q.point ≡ Some p → asked_at_point s q ≡ asked_at p q
unfolding asked_at_point
asked-some s q p some = rw (some, asked_at_point)

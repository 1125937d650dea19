-- The entry that ended the delivery of a sale is known, unless its transaction was unpaid when the day began.
use Rattle.std.proofs.Common.{◌≡◌, ◌⊎◌, ℕ, ◌+◌, Bool, true, false, List, [], ◌∷◌, reverse, Option, Some, None, refl, ap, sym, subst, ◌∙◌}
use Rattle.std.proofs.Common.{inl, inr, All}
use Rattle.std.specs.Prelude.{◌==◌, ◌&&◌, not, is_some, option_to_list, IsTrue, IsFalse}
use Rattle.std.proofs.lemmas.Bool.{and_parts, cases_Bool, eq-eqb, eqb-true, or_left, or_right}
use Rattle.std.proofs.lemmas.List.Elements.{All-nil, All-append, All-head, All-weaker}
use Rattle.std.proofs.lemmas.List.Folds.{list_any-append}
use Rattle.fuelling_point.specs.Table.{PointState}
use Rattle.decision_journal.specs.declared.entries.Entry.{Entry}
use Rattle.site_core.specs.Limits.{ConfigValue}
use Rattle.site_core.specs.State.{SiteState, at_number}
use Rattle.site_core.specs.Steps.{point_named, state_after, step_of}
use Rattle.day_report.specs.Deliveries.{SalesHaveTheirDeliveries, is_carried_in}
use Rattle.day_report.specs.Sales.{SalesValue, ended_at, ended_by, no_sales, sale_of, sales_after, uncleared}
use Rattle.day_report.specs.declared.sales.Ended.{Ended}
use Rattle.day_report.specs.declared.sales.Sale.{Sale}
use Rattle.day_report.proofs.Earlier.{carried-in, points_at_start}
use Rattle.day_report.proofs.Changing.{GrowsTo}
use Rattle.day_report.proofs.Clearing.{Follows, IsSale, each-entry}
use Rattle.day_report.proofs.Owing.{delivery-is, has_delivery, nothing, owes, owes-is, without-is}

-- The list has the delivery of each transaction that is unpaid after the entries `past`, but wasn't unpaid when the day
-- began.
abbrev Kept : ConfigValue → List Entry → List Ended → Type 0
Kept config past us =
    (n x : ℕ) → IsTrue (owes x (at_number (state_after config past).points n)) → owes x (at_number (points_at_start config) n) ≡ false
    → IsTrue (has_delivery n x us)

-- ---- These lemmas show: a transaction that is unpaid after an entry was unpaid before it, or its delivery ended by the
-- entry.

ended-is : (number m x : ℕ) (p q : PointState) → q.last ≡ p.last + 1 → q.last ≡ x
    → IsTrue (has_delivery m x (option_to_list (ended_at number m (Some p) (Some q))))
ended-is number m x p q grew is =
    let here : ((m == m) && (q.last == x)) ≡ true = rw (eq-eqb m m refl, eq-eqb q.last x is) refl in
    rw (eq-eqb q.last (p.last + 1) grew) (rw here refl)

ended-here : (number m x : ℕ) (o o2 : Option PointState) → GrowsTo o o2 → IsTrue (owes x o2)
    → IsTrue (owes x o) ⊎ IsTrue (has_delivery m x (option_to_list (ended_at number m o o2)))
ended-here number m x o None grows h = nothing h
ended-here number m x None (Some q) grows h = absurd grows
ended-here number m x (Some p) (Some q) grows h = elim (grows.1 x h) [
  | inl old ↦ inl old
  | inr new ↦ inr (ended-is number m x p q new.0 new.1)
]

old-or-ended : (config : ConfigValue) (past : List Entry) (e : Entry) → Follows config past e → (n x : ℕ)
    → IsTrue (owes x (at_number (state_after config (e ∷ past)).points n))
    → IsTrue (owes x (at_number (state_after config past).points n)) ⊎ IsTrue (has_delivery n x (option_to_list (ended_by (step_of config past e))))
unfolding ended_by
old-or-ended config past e follows n x h =
    let b : SiteState = state_after config past in
    let later : List PointState = (state_after config (e ∷ past)).points in
    let m : ℕ = point_named e.act in
    elim (cases_Bool (n == m)) [
      | inl here ↦
          let same : n ≡ m = eqb-true n m here in
          subst (λ k. IsTrue (owes x (at_number b.points k)) ⊎ IsTrue (has_delivery k x (option_to_list (ended_by (step_of config past e))))) (sym same)
          (ended-here e.number m x (at_number b.points m) (at_number later m) follows.leads.here
          (subst (λ k. IsTrue (owes x (at_number later k))) same h))
      | inr other ↦ inl (ap (owes x) (sym (follows.leads.other n other)) ∙ h)
    ]

-- ---- These lemmas show by induction that of each sale in a legal history the entry that ended its delivery is known,
-- unless its transaction was unpaid when the day began.

is-kept : (a b : Bool) → (a ≡ true → ⊥) → b ≡ true → (not a && b) ≡ true
is-kept true b other h = absurd (other refl)
is-kept false b other h = h

-- If transaction x of point n is unpaid after an entry, then the entry doesn't remove its delivery from the list.
survives : (config : ConfigValue) (s t : SiteState) (us : List Ended) (n x : ℕ) (o : Option Sale) → All (IsSale config s t us) (option_to_list o)
    → IsTrue (owes x (at_number t.points n)) → IsTrue (has_delivery n x us) → IsTrue (has_delivery n x (uncleared us o))
survives config s t us n x None each unpaid h = h
survives config s t us n x (Some sale) each unpaid h =
    let is : IsSale config s t us sale = All-head (IsSale config s t us) sale [] each in
    without-is us sale.point sale.transaction n x
    ∙ is-kept ((n == sale.point) && (x == sale.transaction)) (has_delivery n x us)
    (λ cleared. let two = and_parts (n == sale.point) (x == sale.transaction) cleared in
    nothing (sym is.gone
    ∙ sym (λ j. owes (eqb-true x sale.transaction two.1 j) (at_number t.points (eqb-true n sale.point two.0 j)))
    ∙ unpaid)) h

abbrev HasOneIfNew : ConfigValue → Sale → Type 0
HasOneIfNew config sale = IsFalse (is_carried_in config sale) → IsTrue (is_some sale.ended)

-- What is known after the entries `past`, newest first.
record Comes (config : ConfigValue) (past : List Entry) (s : SalesValue) : Type 0 where
  kept : Kept config past s.unpaid
  known : All (HasOneIfNew config) s.sales

comes-more : (config : ConfigValue) (past : List Entry) (e : Entry) (s : SalesValue) → Follows config past e → Comes config past s
    → Comes config (e ∷ past) (sales_after s (step_of config past e))
unfolding sales_after
comes-more config past e s follows c =
    let b : SiteState = state_after config past in
    let t : SiteState = state_after config (e ∷ past) in
    let sale : Option Sale = sale_of s.unpaid (step_of config past e) in
    let left : List Ended = uncleared s.unpaid sale in
    let ended : List Ended = option_to_list (ended_by (step_of config past e)) in
    let each : All (IsSale config b t s.unpaid) (option_to_list sale) = (follows.sells s.unpaid).each in
    record {
      kept = λ n x unpaid new. list_any-append _ left ended ∙ elim (old-or-ended config past e follows n x unpaid) [
        | inl old ↦ or_left (has_delivery n x left) (has_delivery n x ended) (survives config b t s.unpaid n x sale each unpaid (c.kept n x old new))
        | inr now ↦ or_right (has_delivery n x left) (has_delivery n x ended) now
      ];
      known = All-append (HasOneIfNew config) s.sales (option_to_list sale) c.known
          (All-weaker (IsSale config b t s.unpaid) (HasOneIfNew config)
          (λ x (is : IsSale config b t s.unpaid x). λ new. ap is_some is.ended
          ∙ delivery-is s.unpaid x.point x.transaction
          ∙ c.kept x.point x.transaction is.owed (sym (owes-is x.transaction (at_number (points_at_start config) x.point)) ∙ new))
          (option_to_list sale) each);
    }

pub deliveries-known : SalesHaveTheirDeliveries
deliveries-known config history state legal =
    let first : Comes config [] no_sales = record { kept = λ n x unpaid new. nothing (sym new ∙ unpaid); known = All-nil (HasOneIfNew config) } in
    record {
      known = (each-entry config (Comes config) first (comes-more config) (reverse history) state legal).known;
      carried = λ valid. (carried-in config (reverse history) state valid legal).carried;
    }

-- If the transaction of a sale was unpaid when the day began, then its delivery ended in no entry of the day. For this,
-- the points of the opening must be valid.
use Rattle.std.proofs.Common.{◌≡◌, ℕ, ◌+◌, ◌-◌, ◌≤◌, Bool, true, false, List, [], ◌∷◌, zero, suc, map, Option, Some, None}
use Rattle.std.proofs.Common.{slice_get, refl, sym, subst, ◌∙◌, arith, All}
use Rattle.std.specs.Prelude.{◌==◌, ◌&&◌, ◌||◌, is_some, nat_le, if◌then◌else◌, option_to_list, IsTrue}
use Rattle.std.proofs.lemmas.Bool.{eqb-true, and_right, or_from}
use Rattle.std.proofs.lemmas.Bool.Decides.{nat_tests}
use Rattle.std.proofs.lemmas.List.Elements.{All-nil, All-cons, All-append, All-head, All-tail, All-weaker}
use Rattle.std.proofs.lemmas.List.Folds.{list_any-append}
use Rattle.fuelling_point.specs.Table.{PointState, fresh_point}
use Rattle.fuelling_point.specs.Snapshot.{IsPointState, IsUnpaid}
use Rattle.fuelling_point.specs.declared.kinds.Transaction.{Transaction}
use Rattle.decision_journal.specs.declared.entries.Entry.{Entry}
use Rattle.site_core.specs.Opening.{OpeningValue}
use Rattle.site_core.specs.Legal.{Legal}
use Rattle.site_core.specs.Limits.{ConfigValue}
use Rattle.site_core.specs.State.{SiteState, at_number, fresh_state, opened_state, opening_state}
use Rattle.site_core.specs.Steps.{StepValue, point_named, state_after, step_of}
use Rattle.day_report.specs.Deliveries.{HasValidOpeningPoints, is_carried_in}
use Rattle.day_report.specs.Sales.{SalesValue, end_of, ended_at, ended_by, sale_of, sales_after, uncleared}
use Rattle.day_report.specs.declared.sales.Ended.{Ended}
use Rattle.day_report.specs.declared.sales.Sale.{Sale}
use Rattle.day_report.proofs.Changing.{GrowsTo, grows-at}
use Rattle.day_report.proofs.Clearing.{Follows, IsSale, each-entry, sold}
use Rattle.day_report.proofs.Owing.{delivery-is, has_delivery, has_number, nothing, owes, owes-is, without-is}

-- ---- These lemmas show: if the points of the opening are valid, then no transaction that is unpaid when the day begins
-- has a number over the last that its point has given out.

-- Each unpaid transaction of the point has a number that the point has given out.
abbrev IsWithin : PointState → Type 0
IsWithin p = (x : ℕ) → IsTrue (has_number x p.unpaid) → x ≤ p.last

-- The point has given out the number x, if it exists.
abbrev HasGivenOut : ℕ → Option PointState → Type 0
HasGivenOut x None = Unit {0}
HasGivenOut x (Some p) = x ≤ p.last

number-by : (b : Bool) (t : Transaction) (x last : ℕ) (rest : List Transaction) → (t.number == x) ≡ b → t.number ≤ last → (IsTrue (has_number x rest) → x ≤ last)
    → (b || has_number x rest) ≡ true → x ≤ last
number-by true t x last rest is le later h = subst (λ n. n ≤ last) (eqb-true t.number x is) le
number-by false t x last rest is le later h = later h

within : (last : ℕ) (ts : List Transaction) → All (IsUnpaid last) ts → (x : ℕ) → IsTrue (has_number x ts) → x ≤ last
within last [] all x h = nothing h
within last (t ∷ ts) all x h =
    number-by (t.number == x) t x last ts refl (All-head (IsUnpaid last) t ts all).number
    (within last ts (All-tail (IsUnpaid last) t ts all) x) h

fresh-within : (points : List (ℕ × ℕ)) → All IsWithin (map (λ (_ : ℕ × ℕ). fresh_point) points)
fresh-within [] = All-nil IsWithin
fresh-within (x ∷ points) = All-cons IsWithin fresh_point _ (λ x h. nothing h) (fresh-within points)

opening-within : (config : ConfigValue) (o : Option OpeningValue) → ((v : OpeningValue) → o ≡ Some v → All IsPointState v.points)
    → All IsWithin (elim o as (λ _. SiteState) [ None ↦ fresh_state config | Some v ↦ opened_state v ]).points
opening-within config None valid = fresh-within config.points
opening-within config (Some v) valid =
    All-weaker IsPointState IsWithin (λ p (is : IsPointState p). within p.last p.unpaid is.unpaid) v.points (valid v refl)

within-get : (points : List PointState) (k x : ℕ) → All IsWithin points → IsTrue (owes x (slice_get points k)) → HasGivenOut x (slice_get points k)
within-get [] k x all h = nothing h
within-get (p ∷ points) zero x all h = All-head IsWithin p points all x h
within-get (p ∷ points) (suc k) x all h = within-get points k x (All-tail IsWithin p points all) h

within-if : (points : List PointState) (k x : ℕ) (b : Bool) → All IsWithin points → IsTrue (owes x (if b then slice_get points k else None))
    → HasGivenOut x (if b then slice_get points k else None)
within-if points k x true all h = within-get points k x all h
within-if points k x false all h = nothing h

-- ---- These lemmas show that an entry ends no delivery of a transaction whose number its point has given out.

not-both : (a b : Bool) → (a ≡ true → b ≡ false) → (a && b) ≡ false
not-both true b h = h refl
not-both false b h = refl

none-at : (u : Ended) (grew : Bool) (n x : ℕ) → (grew ≡ true → (u.point == n) ≡ true → (u.transaction == x) ≡ false)
    → has_delivery n x (option_to_list (if grew then Some u else None)) ≡ false
none-at u true n x apart = or_from ((u.point == n) && (u.transaction == x)) false (not-both (u.point == n) (u.transaction == x) (apart refl)) refl
none-at u false n x apart = refl

later-number : (x last next : ℕ) → x ≤ last → (next == last + 1) ≡ true → (next == x) ≡ false
later-number x last next le is = let more : next ≡ last + 1 = eqb-true next (last + 1) is in grind (arith, nat_tests, le, more)

none-ended : (number m n x : ℕ) (o o2 : Option PointState) → ((m == n) ≡ true → HasGivenOut x o)
    → has_delivery n x (option_to_list (ended_at number m o o2)) ≡ false
none-ended number m n x None o2 given = refl
none-ended number m n x (Some p) None given = refl
none-ended number m n x (Some p) (Some q) given =
    none-at _ (q.last == p.last + 1) n x (λ grew here. later-number x p.last q.last (given here) grew)

given-later : (x : ℕ) (o o2 : Option PointState) → GrowsTo o o2 → HasGivenOut x o → HasGivenOut x o2
given-later x o None grows h = tt
given-later x None (Some q) grows h = absurd grows
given-later x (Some p) (Some q) grows h = let le : p.last ≤ q.last = grows.0 in omega (arith, h, le)

-- ---- The records below say what is known after the entries `past`, newest first, of each transaction that was unpaid
-- when the day began. The lemmas show that one entry more keeps this true.

abbrev pub points_at_start : ConfigValue → List PointState
points_at_start config = (opening_state config).points

-- If the transaction of a sale was unpaid when the day began, then its delivery ended in no entry of the day.
abbrev HasNoneIfCarriedIn : ConfigValue → Sale → Type 0
HasNoneIfCarriedIn config sale = IsTrue (is_carried_in config sale) → sale.ended ≡ None

-- - Its point has given out its number.
-- - Its delivery isn't one of those that ended.
-- - If it was cleared, the sale's delivery ended in no entry of the day.
pub record CarriedIn (config : ConfigValue) (past : List Entry) (s : SalesValue) : Type 0 where
  pub given : (n x : ℕ) → IsTrue (owes x (at_number (points_at_start config) n)) → HasGivenOut x (at_number (state_after config past).points n)
  pub none : (n x : ℕ) → IsTrue (owes x (at_number (points_at_start config) n)) → has_delivery n x s.unpaid ≡ false
  pub carried : All (HasNoneIfCarriedIn config) s.sales

none-known : (o : Option ℕ) → is_some o ≡ false → o ≡ None
none-known None h = refl
none-known (Some d) h = nothing (sym h)

none-uncleared : (us : List Ended) (o : Option Sale) (n x : ℕ) → has_delivery n x us ≡ false → has_delivery n x (uncleared us o) ≡ false
none-uncleared us None n x h = h
none-uncleared us (Some sale) n x h = without-is us sale.point sale.transaction n x ∙ and_right _ (has_delivery n x us) h

none-more : (config : ConfigValue) (past : List Entry) (e : Entry) (n x : ℕ) → HasGivenOut x (at_number (state_after config past).points n)
    → has_delivery n x (option_to_list (ended_by (step_of config past e))) ≡ false
unfolding ended_by
none-more config past e n x given =
    let b : SiteState = state_after config past in
    none-ended e.number (point_named e.act) n x (at_number b.points (point_named e.act)) _
    (λ here. subst (λ k. HasGivenOut x (at_number b.points k)) (sym (eqb-true (point_named e.act) n here)) given)

carried-more : (config : ConfigValue) (past : List Entry) (e : Entry) (s : SalesValue) → Follows config past e → CarriedIn config past s
    → CarriedIn config (e ∷ past) (sales_after s (step_of config past e))
unfolding sales_after
carried-more config past e s follows c =
    let b : SiteState = state_after config past in
    let t : SiteState = state_after config (e ∷ past) in
    let step : StepValue = step_of config past e in
    let sale : Option Sale = sale_of s.unpaid step in
    record {
      given = λ n x h. given-later x (at_number b.points n) (at_number t.points n) (grows-at b.points b.cleared b.clears _ _ t follows.leads n) (c.given n x h);
      none = λ n x h. list_any-append _ (uncleared s.unpaid sale) (option_to_list (ended_by step))
          ∙ (λ j. none-uncleared s.unpaid sale n x (c.none n x h) j || none-more config past e n x (c.given n x h) j);
      carried = All-append (HasNoneIfCarriedIn config) s.sales (option_to_list sale) c.carried
          (All-weaker (IsSale config b t s.unpaid) (HasNoneIfCarriedIn config)
          (λ x (is : IsSale config b t s.unpaid x). λ old. is.ended
          ∙ none-known (end_of s.unpaid x.point x.transaction) (delivery-is s.unpaid x.point x.transaction
          ∙ c.none x.point x.transaction (sym (owes-is x.transaction (at_number (points_at_start config) x.point)) ∙ old)))
          (option_to_list sale) (follows.sells s.unpaid).each);
    }

pub carried-in : (config : ConfigValue) (past : List Entry) (s : SiteState) → HasValidOpeningPoints config → Legal config past s
    → CarriedIn config past (sold config past)
carried-in config past s valid = each-entry config (CarriedIn config) (record {
  given = λ n x h. within-if (points_at_start config) (n - 1) x (nat_le 1 n) (opening-within config config.opening valid) h;
  none = λ n x h. refl;
  carried = All-nil (HasNoneIfCarriedIn config);
}) (carried-more config) past s

-- The sales in a site's journal agree with its state. What was cleared before the day, plus the sales in the journal,
-- is what the site cleared: in number, and in cents.
use Rattle.std.proofs.Common.{◌≡◌, ℕ, zero, suc, ◌+◌, ◌-◌, ◌<◌, ◌≤◌, Bool, true, false, List, [], ◌∷◌, ◌++◌, length, reverse, All, Option, Some}
use Rattle.std.proofs.Common.{None, slice_get, refl, arith, ap, ◌∙◌, sym}
use Rattle.std.specs.Prelude.{if◌then◌else◌, ◌==◌, nat_le, sum_by, is_some, option_to_list}
use Rattle.std.specs.List.{range_with_len}
use Rattle.std.proofs.lemmas.Bool.Decides.{nat_tests}
use Rattle.std.proofs.lemmas.List.Elements.{All-nil, All-append, All-head, All-tail, All-weaker}
use Rattle.std.proofs.lemmas.List.Sums.{sum_by-cons, sum_by-append}
use Rattle.std.proofs.lemmas.Option.{slice_get_within}
use Rattle.fuelling_point.specs.Table.{PointState}
use Rattle.decision_journal.specs.declared.entries.Entry.{Entry}
use Rattle.site_core.specs.Limits.{ConfigValue}
use Rattle.site_core.specs.State.{SiteState, at_number, opening_state}
use Rattle.site_core.specs.Steps.{state_after, step_of}
use Rattle.day_report.specs.Sales.{SalesValue, no_sales, sale_of, sales_after, sales_of}
use Rattle.day_report.specs.Totals.{count_in, cents_in}
use Rattle.day_report.specs.Laws.{SalesAgreeWithTheSite}
use Rattle.day_report.specs.declared.sales.Ended.{Ended}
use Rattle.day_report.specs.declared.sales.Sale.{Sale}
use Rattle.day_report.specs.declared.sales.SalesPart.TheVariants as part
use Rattle.day_report.proofs.Changing.{GrowsTo, grows-at}
use Rattle.day_report.proofs.Clearing.{Follows, IsSale, Sells, each-entry, legal-after, sold}
use Rattle.day_report.proofs.Owing.{nothing, owes}

-- ---- These lemmas show by induction that the sales of any legal history agree with the site's state. Histories have
-- their newest entry first.

-- The sale is at a point that the site has at its start, and by a till that the configuration has.
record FitsOne (config : ConfigValue) (sale : Sale) : Type 0 where
  some_point : 1 ≤ sale.point
  point : sale.point ≤ length (opening_state config).points
  some_till : 1 ≤ sale.till
  till : sale.till ≤ config.tills

-- If a point is found at number n, then n is one of the numbers of the points.
within : (points : List PointState) (n : ℕ) (b : Bool) (o : Option PointState) → nat_le 1 n ≡ b → slice_get points (n - 1) ≡ o
    → is_some (if b then o else None) ≡ true → (1 ≤ n) × (n ≤ length points)
within points n true (Some p) numbered at found =
    let one : 1 ≤ n = grind (arith, nat_tests, numbered) in
    let l : n - 1 < length points = slice_get_within points (n - 1) p at in
    (one, omega (arith, one, l))
within points n true None numbered at found = nothing found
within points n false o numbered at found = nothing found

owes-some : (x : ℕ) (o : Option PointState) → owes x o ≡ true → is_some o ≡ true
owes-some x None h = h
owes-some x (Some p) h = refl

was-there : (o o2 : Option PointState) → GrowsTo o o2 → is_some o2 ≡ true → is_some o ≡ true
was-there o None grows h = nothing h
was-there None (Some q) grows h = absurd grows
was-there (Some p) (Some q) grows h = refl

-- - The sales of the history `past` agree with the state of its site.
-- - Each point was there at the start.
record Comes (config : ConfigValue) (past : List Entry) (s : SalesValue) : Type 0 where
  count : (opening_state config).clears + count_in part.All s.sales ≡ (state_after config past).clears
  cents : (opening_state config).cleared + cents_in part.All s.sales ≡ (state_after config past).cleared
  began : (n : ℕ) → is_some (at_number (state_after config past).points n) ≡ true → is_some (at_number (opening_state config).points n) ≡ true
  fits : All (FitsOne config) s.sales

sale-fits : (config : ConfigValue) (b t : SiteState) (us : List Ended) (sale : Sale) → IsSale config b t us sale
    → (is_some (at_number b.points sale.point) ≡ true → is_some (at_number (opening_state config).points sale.point) ≡ true) → FitsOne config sale
sale-fits config b t us sale is began =
    let points : List PointState = (opening_state config).points in
    let there = began (owes-some sale.transaction (at_number b.points sale.point) is.owed) in
    let w = within points sale.point (nat_le 1 sale.point) (slice_get points (sale.point - 1)) refl refl there in
    let till = is.till in
    record { some_point = w.0; point = w.1; some_till = grind (arith, nat_tests, till); till = grind (arith, nat_tests, till) }

comes-more : (config : ConfigValue) (past : List Entry) (e : Entry) (s : SalesValue) → Follows config past e → Comes config past s
    → Comes config (e ∷ past) (sales_after s (step_of config past e))
unfolding sales_after
comes-more config past e s follows c =
    let b : SiteState = state_after config past in
    let t : SiteState = state_after config (e ∷ past) in
    let new : List Sale = option_to_list (sale_of s.unpaid (step_of config past e)) in
    let sells : Sells config b t s.unpaid (sale_of s.unpaid (step_of config past e)) = follows.sells s.unpaid in
    let more : count_in part.All (s.sales ++ new) ≡ count_in part.All s.sales + count_in part.All new = sum_by-append _ s.sales new in
    let sum : cents_in part.All (s.sales ++ new) ≡ cents_in part.All s.sales + cents_in part.All new = sum_by-append _ s.sales new in
    let counted = c.count in
    let summed = c.cents in
    let clears = sells.count in
    let cleared = sells.cents in
    record {
      count = omega (arith, more, counted, clears);
      cents = omega (arith, sum, summed, cleared);
      began = λ n there. c.began n (was-there (at_number b.points n) (at_number t.points n) (grows-at b.points b.cleared b.clears _ _ t follows.leads n) there);
      fits = All-append (FitsOne config) s.sales new c.fits
          (All-weaker (IsSale config b t s.unpaid) (FitsOne config) (λ x (is : IsSale config b t s.unpaid x). sale-fits config b t s.unpaid x is (c.began x.point))
          new sells.each);
    }

-- ---- A sale's key is its point or its till. These lemmas say that the sums for all keys add up to the sum of all
-- sales.

-- If x is below a, then x is none of the n keys from a on. So a sum over these keys that counts v for the key x, and 0
-- for any other key, is 0.
pub none-key : (a n x v : ℕ) → x < a → sum_by (λ k. if x == k then v else 0) (range_with_len a n) ≡ 0
none-key a zero x v below = refl
none-key a (suc n) x v below =
    let no : (x == a) ≡ false = grind (arith, nat_tests, below) in
    sum_by-cons (λ k. if x == k then v else 0) a (range_with_len (a + 1) n) ∙ (λ i. (if no i then v else 0) + none-key (a + 1) n x v (omega arith) i)

by-first : (a n x v : ℕ) (b : Bool) → (x == a) ≡ b → a ≤ x → (x < a + suc n)
    → (a + 1 ≤ x → x < a + 1 + n → sum_by (λ k. if x == k then v else 0) (range_with_len (a + 1) n) ≡ v)
    → sum_by (λ k. if x == k then v else 0) (a ∷ range_with_len (a + 1) n) ≡ v
by-first a n x v true is least less later =
    let same : x < a + 1 = grind (arith, nat_tests, is) in
    let rest : sum_by (λ k. if x == k then v else 0) (range_with_len (a + 1) n) ≡ 0 = none-key (a + 1) n x v same in
    sum_by-cons (λ k. if x == k then v else 0) a (range_with_len (a + 1) n) ∙ (λ i. (if is i then v else 0) + rest i) ∙ omega arith
by-first a n x v false is least less later =
    let more : a + 1 ≤ x = grind (arith, nat_tests, is, least) in
    let rest = later more (omega arith) in
    sum_by-cons (λ k. if x == k then v else 0) a (range_with_len (a + 1) n) ∙ (λ i. (if is i then v else 0) + rest i) ∙ omega arith

-- If x is one of the n keys from a on, then a sum over these keys that counts v for the key x, and 0 for any other key,
-- is v.
pub one-key : (a n x v : ℕ) → a ≤ x → x < a + n → sum_by (λ k. if x == k then v else 0) (range_with_len a n) ≡ v
one-key a zero x v least less = absurd (omega arith)
one-key a (suc n) x v least less = by-first a n x v (x == a) refl least less (λ more fewer. one-key (a + 1) n x v more fewer)

pub add-keys : (f g : ℕ → ℕ) (xs : List ℕ) → sum_by (λ k. f k + g k) xs ≡ sum_by f xs + sum_by g xs
add-keys f g [] = refl
add-keys f g (x ∷ xs) =
    let both = add-keys f g xs in
    let whole = sum_by-cons (λ k. f k + g k) x xs in
    let left = sum_by-cons f x xs in
    let right = sum_by-cons g x xs in
    omega (arith, both, whole, left, right)

pub no-keys : (xs : List ℕ) → sum_by (λ (k : ℕ). 0) xs ≡ 0
no-keys [] = refl
no-keys (x ∷ xs) = sum_by-cons (λ (k : ℕ). 0) x xs ∙ (λ i. 0 + no-keys xs i)

-- The key of the sale is one of the n numbers from a on.
abbrev pub KeyFits : (Sale → ℕ) → ℕ → ℕ → Sale → Type 0
KeyFits key a n sale = (a ≤ key sale) × (key sale < a + n)

pub all-keys : (key worth : Sale → ℕ) (a n : ℕ) (sales : List Sale) → All (KeyFits key a n) sales
    → sum_by (λ k. sum_by (λ (sale : Sale). if key sale == k then worth sale else 0) sales) (range_with_len a n) ≡ sum_by worth sales
all-keys key worth a n [] fits = no-keys (range_with_len a n)
all-keys key worth a n (s ∷ sales) fits =
    let one : ℕ → ℕ = λ k. if key s == k then worth s else 0 in
    let rest : ℕ → ℕ = λ k. sum_by (λ (sale : Sale). if key sale == k then worth sale else 0) sales in
    let here : KeyFits key a n s = All-head (KeyFits key a n) s sales fits in
    (λ i. sum_by (λ k. sum_by-cons (λ (sale : Sale). if key sale == k then worth sale else 0) s sales i) (range_with_len a n))
    ∙ add-keys one rest (range_with_len a n)
    ∙ (λ i. one-key a n (key s) (worth s) here.0 here.1 i + all-keys key worth a n sales (All-tail (KeyFits key a n) s sales fits) i)
    ∙ sym (sum_by-cons worth s sales)

pub sales-agree : SalesAgreeWithTheSite
sales-agree config history state legal =
    let first : Comes config [] no_sales = record { count = omega arith; cents = omega arith; began = λ n there. there; fits = All-nil (FitsOne config) } in
    let sales : List Sale = sales_of config history in
    let c : Comes config (reverse history) (sold config (reverse history)) = each-entry config (Comes config) first (comes-more config) (reverse history) state legal in
    let is : state_after config (reverse history) ≡ state = sym (legal-after config (reverse history) state legal) in
    let before : ℕ = (opening_state config).cleared in
    let cents : before + cents_in part.All sales ≡ state.cleared = c.cents ∙ ap (λ (x : SiteState). x.cleared) is in
    record {
      count = c.count ∙ ap (λ (x : SiteState). x.clears) is;
      cents = cents;
      by_point = λ long. ap (λ x. before + x)
          (all-keys (λ (s : Sale). s.point) (λ (s : Sale). s.amount) 1 (length config.points) sales
          (All-weaker (FitsOne config) (KeyFits (λ (s : Sale). s.point) 1 (length config.points))
          (λ s (f : FitsOne config s). (f.some_point, let le = f.point in omega (arith, le, long))) sales c.fits)) ∙ cents;
      by_till = λ tills most. ap (λ x. before + x)
          (all-keys (λ (s : Sale). s.till) (λ (s : Sale). s.amount) 1 tills sales
          (All-weaker (FitsOne config) (KeyFits (λ (s : Sale). s.till) 1 tills)
          (λ s (f : FitsOne config s). (f.some_till, let le = f.till in omega (arith, le, most))) sales c.fits)) ∙ cents;
    }

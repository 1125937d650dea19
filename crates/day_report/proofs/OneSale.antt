-- What sums come to with one sale more.
use Rattle.std.proofs.Common.{◌≡◌, ◌<◌, ◌≤◌, ◌^◌, ℕ, ◌+◌, ◌-◌, Bool, true, false, List, [], ◌∷◌, ◌++◌, length, Option, Some, None, length-append, refl, sym, ap, ◌∙◌, subst, arith}
use Rattle.std.specs.Prelude.{◌==◌, ◌&&◌, not, nat_le, if◌then◌else◌, IfSome, fold, option_to_list, replicate, slice_index_or, slice_set}
use Rattle.std.proofs.Math.Nat.{min-eq_left, min-le_left}
use Rattle.std.proofs.lemmas.Bool.Decides.{nat_tests}
use Rattle.std.proofs.lemmas.List.{append-nil, get_or-replicate, get_or-set_other, get_or-set_same, length-set}
use Rattle.std.proofs.lemmas.List.Sums.{count_by-le-length, fold_push, sum_by-append, sum_by-le-sum_by}
use Rattle.decision_journal.specs.declared.entries.Entry.{Entry}
use Rattle.fuelling_point.specs.Table.{PointState}
use Rattle.fuelling_point.specs.declared.kinds.Transaction.{Transaction}
use Rattle.site_core.specs.Steps.{StepValue}
use Rattle.day_report.proofs.Clearing.{sale_by, sale_with}
use Rattle.day_report.proofs.Off.{off_at_most, off_more}
use Rattle.day_report.specs.Sales.{SalesValue, clearing_of, end_of, no_sales, sale_of, sales_after, sales_in, unpaid_at}
use Rattle.day_report.specs.Sums.{AddsUp, HasRoom, hour_number, no_sum, plus, plus_at, with_sale}
use Rattle.day_report.specs.Totals.{IsSum, SumsUp, cents_in, centilitres_in, count_in, hour_of, is_in, part_of_hour, part_of_point, part_of_till}
use Rattle.day_report.specs.declared.sales.Clearing.{Clearing}
use Rattle.day_report.specs.declared.sales.Ended.{Ended}
use Rattle.day_report.specs.declared.sales.Sale.{Sale}
use Rattle.day_report.specs.declared.sales.SalesPart.{SalesPart}
use Rattle.day_report.specs.declared.sales.SalesPart.TheVariants as part
use Rattle.day_report.specs.declared.sales.Sum.{Sum}
use Rattle.day_report.specs.declared.sums.Sums.{Sums}

-- ---- Sums of no sales.

pub none_yet : (part_at : ℕ → SalesPart) (n : ℕ) → length (replicate n no_sum) ≡ n → SumsUp part_at n (replicate n no_sum) []
none_yet part_at n long = record {
  long = long;
  each = λ k d below.
      let is : slice_index_or (replicate n no_sum) k d ≡ no_sum = get_or-replicate n k no_sum d (omega (arith, long, below)) in
      subst (λ (s : Sum). IsSum s (part_at k) []) (sym is) (record { count = refl; cents = refl; centilitres = refl });
}

-- ---- One sum.

-- No number gets too great by this sale.
record Fits (sales : List Sale) (sale : Sale) : Type 0 where
  count : count_in part.All sales + 1 < 2 ^ 64
  cents : cents_in part.All sales + sale.amount < 2 ^ 128
  centilitres : centilitres_in part.All sales + sale.volume < 2 ^ 128

one_or_none : (b : Bool) → (if b then 1 else 0) ≤ 1
one_or_none true = omega arith
one_or_none false = omega arith

some_or_none : (b : Bool) (n : ℕ) → (if b then n else 0) ≤ n
some_or_none true n = omega arith
some_or_none false n = omega arith

count_less : (p : SalesPart) (sales : List Sale) → count_in p sales ≤ count_in part.All sales
count_less p sales = sum_by-le-sum_by (λ (s : Sale). if is_in p s then 1 else 0) (λ (s : Sale). 1) sales (λ s. one_or_none (is_in p s))

cents_less : (p : SalesPart) (sales : List Sale) → cents_in p sales ≤ cents_in part.All sales
cents_less p sales = sum_by-le-sum_by (λ (s : Sale). if is_in p s then s.amount else 0) (λ (s : Sale). s.amount) sales (λ s. some_or_none (is_in p s) s.amount)

centilitres_less : (p : SalesPart) (sales : List Sale) → centilitres_in p sales ≤ centilitres_in part.All sales
centilitres_less p sales = sum_by-le-sum_by (λ (s : Sale). if is_in p s then s.volume else 0) (λ (s : Sale). s.volume) sales (λ s. some_or_none (is_in p s) s.volume)

-- A sale that is in the part goes to its sum.
goes : (p : SalesPart) (sales : List Sale) (sale : Sale) (sum : Sum) → is_in p sale ≡ true → Fits sales sale → IsSum sum p sales
    → IsSum (plus sum sale.amount sale.volume) p (sales ++ sale ∷ [])
goes p sales sale sum is fits s =
    let count : count_in p (sales ++ sale ∷ []) ≡ count_in p sales + (if is_in p sale then 1 else 0) = sum_by-append _ sales (sale ∷ []) ∙ omega arith in
    let cents : cents_in p (sales ++ sale ∷ []) ≡ cents_in p sales + (if is_in p sale then sale.amount else 0) = sum_by-append _ sales (sale ∷ []) ∙ omega arith in
    let centilitres : centilitres_in p (sales ++ sale ∷ []) ≡ centilitres_in p sales + (if is_in p sale then sale.volume else 0) =
    sum_by-append _ sales (sale ∷ []) ∙ omega arith in
    record {
      count = min-eq_left (omega (arith, s.count, count_less p sales, fits.count))
          ∙ ap (λ n. n + 1) s.count ∙ sym (count ∙ (λ i. count_in p sales + (if is i then 1 else 0)));
      cents = min-eq_left (omega (arith, s.cents, cents_less p sales, fits.cents))
          ∙ ap (λ n. n + sale.amount) s.cents ∙ sym (cents ∙ (λ i. cents_in p sales + (if is i then sale.amount else 0)));
      centilitres = min-eq_left (omega (arith, s.centilitres, centilitres_less p sales, fits.centilitres))
          ∙ ap (λ n. n + sale.volume) s.centilitres ∙ sym (centilitres ∙ (λ i. centilitres_in p sales + (if is i then sale.volume else 0)));
    }

-- Another sale leaves it as it is.
stays : (p : SalesPart) (sales : List Sale) (sale : Sale) (sum : Sum) → is_in p sale ≡ false → IsSum sum p sales → IsSum sum p (sales ++ sale ∷ [])
stays p sales sale sum is s =
    let count : count_in p (sales ++ sale ∷ []) ≡ count_in p sales + (if is_in p sale then 1 else 0) = sum_by-append _ sales (sale ∷ []) ∙ omega arith in
    let cents : cents_in p (sales ++ sale ∷ []) ≡ cents_in p sales + (if is_in p sale then sale.amount else 0) = sum_by-append _ sales (sale ∷ []) ∙ omega arith in
    let centilitres : centilitres_in p (sales ++ sale ∷ []) ≡ centilitres_in p sales + (if is_in p sale then sale.volume else 0) =
    sum_by-append _ sales (sale ∷ []) ∙ omega arith in
    record {
      count = s.count ∙ sym (count ∙ (λ i. count_in p sales + (if is i then 1 else 0)) ∙ omega arith);
      cents = s.cents ∙ sym (cents ∙ (λ i. cents_in p sales + (if is i then sale.amount else 0)) ∙ omega arith);
      centilitres = s.centilitres ∙ sym (centilitres ∙ (λ i. centilitres_in p sales + (if is i then sale.volume else 0)) ∙ omega arith);
    }

-- ---- Sums of parts: the sale is in the part at place k if it has the number k + 1.

module _ (part_at : ℕ → SalesPart) (count : ℕ) (sums : List Sum) (sales : List Sale) (sale : Sale) (n : ℕ)
    (is : (k : ℕ) → is_in (part_at k) sale ≡ (n == k + 1)) (fits : Fits sales sale) (s : SumsUp part_at count sums sales) where
  no_place : nat_le 1 n && nat_le n (length sums) ≡ false → SumsUp part_at count sums (sales ++ sale ∷ [])
  no_place none = record {
    long = s.long;
    each = λ k d below.
        let other : (n == k + 1) ≡ false = grind (arith, nat_tests, none, below) in
        stays (part_at k) sales sale (slice_index_or sums k d) (is k ∙ other) (s.each k d below);
  }

  one_place : (k : ℕ) (d : Sum) → k < length sums → 1 ≤ n → n ≤ length sums → (b : Bool) → (n == k + 1) ≡ b
      → IsSum (slice_index_or (slice_set sums (n - 1) (plus (slice_index_or sums (n - 1) no_sum) sale.amount sale.volume)) k d) (part_at k) (sales ++ sale ∷ [])
  one_place k d below low high true same =
      let at : n - 1 ≡ k = grind (arith, nat_tests, same) in
      let new : ℕ → Sum = λ m. plus (slice_index_or sums m no_sum) sale.amount sale.volume in
      let get : slice_index_or (slice_set sums (n - 1) (new (n - 1))) k d ≡ new k =
      (λ i. slice_index_or (slice_set sums (at i) (new (at i))) k d) ∙ get_or-set_same sums k (new k) d below in
      subst (λ (x : Sum). IsSum x (part_at k) (sales ++ sale ∷ [])) (sym get)
      (goes (part_at k) sales sale (slice_index_or sums k no_sum) (is k ∙ same) fits (s.each k no_sum below))
  one_place k d below low high false same =
      let other : (k ≡ n - 1) → ⊥ = λ h. grind (arith, nat_tests, same, h, low) in
      subst (λ (x : Sum). IsSum x (part_at k) (sales ++ sale ∷ []))
      (sym (get_or-set_other sums (n - 1) k (plus (slice_index_or sums (n - 1) no_sum) sale.amount sale.volume) d other))
      (stays (part_at k) sales sale (slice_index_or sums k d) (is k ∙ same) (s.each k d below))

  by_place : (b : Bool) → (nat_le 1 n && nat_le n (length sums)) ≡ b
      → SumsUp part_at count (if b then slice_set sums (n - 1) (plus (slice_index_or sums (n - 1) no_sum) sale.amount sale.volume) else sums) (sales ++ sale ∷ [])
  by_place false none = no_place none
  by_place true some =
      let low : 1 ≤ n = grind (arith, nat_tests, some) in
      let high : n ≤ length sums = grind (arith, nat_tests, some) in
      let long : length (slice_set sums (n - 1) (plus (slice_index_or sums (n - 1) no_sum) sale.amount sale.volume)) ≡ length sums = length-set sums (n - 1) _ in
      record {
        long = long ∙ s.long;
        each = λ k d below. one_place k d (omega (arith, below, long)) low high (n == k + 1) refl;
      }

  sums_more : SumsUp part_at count (plus_at sums n sale.amount sale.volume) (sales ++ sale ∷ [])
  sums_more = by_place (nat_le 1 n && nat_le n (length sums)) refl

-- ---- All sums.

hour_is : (moment k : ℕ) → (not (moment == 0) && hour_of moment == k) ≡ (hour_number moment == k + 1)
hour_is moment k = grind (arith, nat_tests)

pub one_more : (sums : Sums) (sales : List Sale) (sale : Sale) → sale.amount < 2 ^ 64 → sale.volume < 2 ^ 64 → HasRoom sums → AddsUp sums sales
    → AddsUp (with_sale sums sale) (sales ++ sale ∷ [])
one_more sums sales sale amount volume room a =
    let fits : Fits sales sale = record {
      count = subst (λ n. n + 1 < 2 ^ 64) a.all.count room;
      cents = omega (arith, a.all.cents, a.small.0, room, amount);
      centilitres = omega (arith, a.all.centilitres, a.small.1, room, volume);
    } in
    let all : IsSum (plus sums.all sale.amount sale.volume) part.All (sales ++ sale ∷ []) = goes part.All sales sale sums.all refl fits a.all in
    let count : (plus sums.all sale.amount sale.volume).count ≡ sums.all.count + 1 = min-eq_left (omega (arith, room)) in
    record {
      all = all;
      points = sums_more part_of_point 32 sums.points sales sale sale.point (λ k. refl) fits a.points;
      tills = sums_more part_of_till 64 sums.tills sales sale sale.till (λ k. refl) fits a.tills;
      hours = sums_more part_of_hour 24 sums.hours sales sale (hour_number sale.moment) (hour_is sale.moment) fits a.hours;
      off = off_more sums.off sales sale (omega (arith, off_at_most sales, a.off.count, a.all.count, room)) a.off;
      small = (
        omega (arith, count, min-le_left (sums.all.cents + sale.amount) (2 ^ 128 - 1), a.small.0, amount),
        omega (arith, count, min-le_left (sums.all.centilitres + sale.volume) (2 ^ 128 - 1), a.small.1, volume),
      );
    }

-- ---- One step. What a sale comes to doesn't depend on the end of its delivery.

-- the sums with the sale, if there is one
abbrev pub with_some : Sums → Option Sale → Sums
with_some sums None = sums
with_some sums (Some sale) = with_sale sums sale

abbrev pub InRange : Sale → Type 0
InRange sale = (sale.amount < 2 ^ 64) × (sale.volume < 2 ^ 64)

module _ (sums : Sums) (sales : List Sale) (us : List Ended) (entry : Entry) (room : HasRoom sums) (a : AddsUp sums sales) where
  adds_with : (c : Clearing) (t : Option Transaction) → IfSome (sale_with [] entry c t) InRange
      → AddsUp (with_some sums (sale_with [] entry c t)) (sales ++ option_to_list (sale_with us entry c t))
  adds_with c None fits = subst (AddsUp sums) (sym (append-nil sales)) a
  adds_with c (Some t) fits = one_more sums sales (record {
    number = entry.number;
    moment = entry.moment;
    till = c.till;
    point = c.point;
    transaction = c.number;
    product = t.product;
    price = t.price;
    amount = t.amount;
    volume = t.volume;
    ended = end_of us c.point c.number;
  }) fits.0 fits.1 room a

  adds_by : (before : Option PointState) (o : Option Clearing) → IfSome (sale_by [] entry before o) InRange
      → AddsUp (with_some sums (sale_by [] entry before o)) (sales ++ option_to_list (sale_by us entry before o))
  adds_by before None fits = subst (AddsUp sums) (sym (append-nil sales)) a
  adds_by before (Some c) fits = adds_with c (unpaid_at before c.number) fits

adds_step : (sums : Sums) (sales : List Sale) (us : List Ended) (step : StepValue) → HasRoom sums → AddsUp sums sales → IfSome (sale_of [] step) InRange
    → AddsUp (with_some sums (sale_of [] step)) (sales ++ option_to_list (sale_of us step))
unfolding sale_of
adds_step sums sales us step room a fits = adds_by sums sales us step.entry room a step.change.before (clearing_of step.entry.act step.entry.reply) fits

one_at_most : {A : Type 0} (o : Option A) → length (option_to_list o) ≤ 1
one_at_most None = omega arith
one_at_most (Some x) = omega arith

one_step : (steps : List StepValue) (step : StepValue)
    → sales_in (steps ++ step ∷ []) ≡ sales_in steps ++ option_to_list (sale_of (fold sales_after no_sales steps).unpaid step)
unfolding sales_after
one_step steps step = ap (λ (s : SalesValue). s.sales) (fold_push sales_after no_sales steps step)

sold_at_most : (s : SalesValue) (step : StepValue) → length (sales_after s step).sales ≤ length s.sales + 1
unfolding sales_after
sold_at_most s step = omega (arith, length-append s.sales (option_to_list (sale_of s.unpaid step)), one_at_most (sale_of s.unpaid step))

few_sales : (s : SalesValue) (steps : List StepValue) → length (fold sales_after s steps).sales ≤ length s.sales + length steps
few_sales s [] = omega arith
few_sales s (step ∷ steps) = omega (arith, few_sales (sales_after s step) steps, sold_at_most s step)

-- There are no more sales than steps.
pub count_at_most : (sums : Sums) (steps : List StepValue) → AddsUp sums (sales_in steps) → sums.all.count ≤ length steps
count_at_most sums steps a =
    omega (arith, a.all.count, count_by-le-length (λ (s : Sale). is_in part.All s) (sales_in steps), few_sales no_sales steps)

-- If this is the sale that the step made, then the sums with it add up the sales with the step.
pub counted : (sums : Sums) (steps : List StepValue) (step : StepValue) (sale : Option Sale) → sale_of [] step ≡ sale → IfSome sale InRange → HasRoom sums
    → AddsUp sums (sales_in steps) → AddsUp (with_some sums sale) (sales_in (steps ++ step ∷ []))
counted sums steps step sale is fits room a =
    let us : List Ended = (fold sales_after no_sales steps).unpaid in
    let one = adds_step sums (sales_in steps) us step room a (subst (λ (o : Option Sale). IfSome o InRange) (sym is) fits) in
    subst (λ (ss : List Sale). AddsUp (with_some sums sale) ss) (sym (one_step steps step))
    (subst (λ (o : Option Sale). AddsUp (with_some sums o) (sales_in steps ++ option_to_list (sale_of us step))) is one)

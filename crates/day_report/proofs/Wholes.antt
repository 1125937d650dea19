-- The sums of all points, and of all tills, come to the sum of all sales.
use Rattle.std.proofs.Common.{◌≡◌, ◌<◌, ◌≤◌, ℕ, suc, ◌+◌, List, [], ◌∷◌, length, All, refl, sym, ap, ◌∙◌, arith}
use Rattle.std.specs.Prelude.{if◌then◌else◌, ◌==◌, slice_index_or, sum_by}
use Rattle.std.specs.List.{range_with_len}
use Rattle.std.proofs.lemmas.List.Elements.{All-weaker}
use Rattle.std.proofs.lemmas.List.Sums.{sum_by-cons}
use Rattle.day_report.specs.Laws.{PartsComeToTheWhole}
use Rattle.day_report.specs.Sums.{no_sum}
use Rattle.day_report.specs.declared.sales.Sale.{Sale}
use Rattle.day_report.specs.declared.sales.Sum.{Sum}
use Rattle.day_report.proofs.SiteSales.{KeyFits, all-keys}

by_each : {X : Type 0} (g : X → ℕ) (f : ℕ → ℕ) (d : X) (a : ℕ) (xs : List X) → ((k : ℕ) → k < length xs → g (slice_index_or xs k d) ≡ f (a + k))
    → sum_by g xs ≡ sum_by f (range_with_len a (length xs))
by_each g f d a [] each = refl
by_each g f d a (x ∷ xs) each =
    let here : g x ≡ f a = each 0 (omega arith) ∙ ap f (omega arith) in
    let rest = by_each g f d (a + 1) xs (λ k below. each (suc k) (omega (arith, below)) ∙ ap f (omega arith)) in
    sum_by-cons g x xs ∙ (λ i. here i + rest i) ∙ sym (sum_by-cons f a (range_with_len (a + 1) (length xs)))

come_by : (key worth : Sale → ℕ) (g : Sum → ℕ) (n : ℕ) (parts : List Sum) (sales : List Sale) → length parts ≡ n → All (KeyFits key 1 n) sales
    → ((k : ℕ) → k < length parts → g (slice_index_or parts k no_sum) ≡ sum_by (λ (s : Sale). if key s == k + 1 then worth s else 0) sales)
    → sum_by g parts ≡ sum_by worth sales
come_by key worth g n parts sales long fits each =
    let f : ℕ → ℕ = λ k. sum_by (λ (s : Sale). if key s == k then worth s else 0) sales in
    by_each g f no_sum 1 parts (λ k below. each k below ∙ ap f (omega arith))
    ∙ ap (λ m. sum_by f (range_with_len 1 m)) long
    ∙ all-keys key worth 1 n sales fits

pub parts-come : PartsComeToTheWhole
parts-come sums sales a = (
  λ fits.
      let key : Sale → ℕ = λ s. s.point in
      let in_keys : All (KeyFits key 1 32) sales = All-weaker (λ (s : Sale). (1 ≤ s.point) × (s.point ≤ 32)) (KeyFits key 1 32) (λ s f. (f.0, omega (arith, f.1))) sales fits in
      record {
        count = come_by key (λ s. 1) (λ s. s.count) 32 sums.points sales a.points.long in_keys (λ k below. (a.points.each k no_sum below).count) ∙ sym a.all.count;
        cents = come_by key (λ s. s.amount) (λ s. s.cents) 32 sums.points sales a.points.long in_keys (λ k below. (a.points.each k no_sum below).cents)
            ∙ sym a.all.cents;
        centilitres = come_by key (λ s. s.volume) (λ s. s.centilitres) 32 sums.points sales a.points.long in_keys
            (λ k below. (a.points.each k no_sum below).centilitres) ∙ sym a.all.centilitres;
      },
  λ fits.
      let key : Sale → ℕ = λ s. s.till in
      let in_keys : All (KeyFits key 1 64) sales = All-weaker (λ (s : Sale). (1 ≤ s.till) × (s.till ≤ 64)) (KeyFits key 1 64) (λ s f. (f.0, omega (arith, f.1))) sales fits in
      record {
        count = come_by key (λ s. 1) (λ s. s.count) 64 sums.tills sales a.tills.long in_keys (λ k below. (a.tills.each k no_sum below).count) ∙ sym a.all.count;
        cents = come_by key (λ s. s.amount) (λ s. s.cents) 64 sums.tills sales a.tills.long in_keys (λ k below. (a.tills.each k no_sum below).cents)
            ∙ sym a.all.cents;
        centilitres = come_by key (λ s. s.volume) (λ s. s.centilitres) 64 sums.tills sales a.tills.long in_keys
            (λ k below. (a.tills.each k no_sum below).centilitres) ∙ sym a.all.centilitres;
      },
)

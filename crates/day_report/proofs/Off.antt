-- Which sales are off, with one sale more.
use Rattle.std.proofs.Common.{◌≡◌, ◌⊎◌, ◌<◌, ◌≤◌, ◌^◌, inl, inr, ℕ, zero, suc, ◌+◌, Bool, true, false, List, [], ◌∷◌, ◌++◌, length, map, take, refl, sym, ap, ◌∙◌, arith}
use Rattle.std.specs.Prelude.{◌-◌, cond, filter, if◌then◌else◌, min, replicate, slice_set}
use Rattle.std.proofs.Math.Nat.{min-eq_left, min-eq_right}
use Rattle.std.proofs.lemmas.Bool.{cases_lt}
use Rattle.std.proofs.lemmas.List.{append-nil, length-map, length_push, map-append, take-append-le, take-replicate, take-take, take_all}
use Rattle.std.proofs.lemmas.List.Elements.{filter-append}
use Rattle.std.proofs.lemmas.List.Sums.{length-filter, sum_by-le-sum_by}
use Rattle.day_report.specs.Sales.{is_off, off_entries}
use Rattle.day_report.specs.Sums.{CountsOff, with_off}
use Rattle.day_report.specs.Totals.{count_in}
use Rattle.day_report.specs.declared.sales.Sale.{Sale}
use Rattle.day_report.specs.declared.sales.SalesPart.TheVariants as part
use Rattle.day_report.specs.declared.sums.OffSales.{OffSales}

-- In a list of k numbers, of which the first are ns and the others 0, the next number takes the place of the first 0, if
-- there is one.
written : (ns : List ℕ) (k m n : ℕ) → k ≤ m → slice_set (take k (ns ++ replicate m 0)) (length ns) n ≡ take k ((ns ++ n ∷ []) ++ replicate m 0)
written [] zero m n le = refl
written (x ∷ ns) zero m n le = refl
written [] (suc k) zero n le = absurd (omega (arith, le))
written [] (suc k) (suc m) n le =
    ap (λ (xs : List ℕ). n ∷ xs) (take-replicate k m 0 (omega (arith, le)) ∙ sym (take-replicate k (suc m) 0 (omega (arith, le))))
written (x ∷ ns) (suc k) m n le = ap (λ (xs : List ℕ). x ∷ xs) (written ns k m n (omega (arith, le)))

-- Of m numbers, of which the first are ns and the others zs, the first ones that are among ns.
front_of : (ns zs : List ℕ) (m k : ℕ) → k ≤ length ns → k ≤ m → length ns ≤ k ⊎ m ≤ k → take k (take m (ns ++ zs)) ≡ take m ns
front_of ns zs m k within low (inl all) =
    take-take k m (ns ++ zs) low ∙ take-append-le k ns zs within ∙ take_all k ns all ∙ sym (take_all m ns (omega (arith, low, all)))
front_of ns zs m k within low (inr most) =
    take-take k m (ns ++ zs) low ∙ take-append-le k ns zs within ∙ ap (λ n. take n ns) (omega (arith, low, most))

at_least : (n m k : ℕ) → k ≡ min n m → (k ≤ n) × (k ≤ m) × (n ≤ k ⊎ m ≤ k)
at_least n m k is = elim (cases_lt n m) [
  | inl less ↦ let same : k ≡ n = is ∙ min-eq_left (omega (arith, less)) in (omega (arith, same), omega (arith, same, less), inl (omega (arith, same)))
  | inr more ↦ let same : k ≡ m = is ∙ min-eq_right more in (omega (arith, same, more), omega (arith, same), inr (omega (arith, same)))
]

pub first_of : (off : OffSales) (sales : List Sale) (k : ℕ) → CountsOff off sales → k ≡ min off.count 8 → take k off.entries ≡ take 8 (off_entries sales)
first_of off sales k o is =
    let ns = off_entries sales in
    let least = at_least (length ns) 8 k (is ∙ ap (λ n. min n 8) o.count) in
    ap (take k) o.entries ∙ front_of ns (replicate 8 0) 8 k least.0 least.1 least.2

one_or_none : (b : Bool) → (if b then 1 else 0) ≤ 1
one_or_none true = omega arith
one_or_none false = omega arith

-- No more sales are off than there are.
pub off_at_most : (sales : List Sale) → length (off_entries sales) ≤ count_in part.All sales
off_at_most sales =
    let count = length-map (filter is_off sales) (λ (s : Sale). s.number) ∙ length-filter is_off sales in
    omega (arith, count, sum_by-le-sum_by (λ (s : Sale). if is_off s then 1 else 0) (λ (s : Sale). 1) sales (λ s. one_or_none (is_off s)))

module _ (off : OffSales) (sales : List Sale) (sale : Sale) (room : off.count + 1 < 2 ^ 64) (o : CountsOff off sales) where
  entries_by : (b : Bool) → is_off sale ≡ b
      → off_entries (sales ++ sale ∷ []) ≡ off_entries sales ++ map (λ (s : Sale). s.number) (cond b (sale ∷ []) [])
  entries_by b is =
      ap (map (λ (s : Sale). s.number)) (filter-append is_off sales (sale ∷ []))
      ∙ map-append (λ (s : Sale). s.number) (filter is_off sales) (filter is_off (sale ∷ []))
      ∙ (λ i. off_entries sales ++ map (λ (s : Sale). s.number) (cond (is i) (sale ∷ []) []))

  off_by_case : (b : Bool) → is_off sale ≡ b → CountsOff
      (if b then record { count = min (off.count + 1) (2 ^ 64 - 1); entries = slice_set off.entries off.count sale.number } else off) (sales ++ sale ∷ [])
  off_by_case false is =
      let same : off_entries (sales ++ sale ∷ []) ≡ off_entries sales = entries_by false is ∙ append-nil (off_entries sales) in
      record {
        count = o.count ∙ ap length (sym same);
        entries = o.entries ∙ ap (λ ns. take 8 (ns ++ replicate 8 0)) (sym same);
      }
  off_by_case true is =
      let ns = off_entries sales in
      let more : off_entries (sales ++ sale ∷ []) ≡ ns ++ sale.number ∷ [] = entries_by true is in
      record {
        count = min-eq_left (omega (arith, room)) ∙ ap (λ n. n + 1) o.count ∙ sym (ap length more ∙ length_push ns sale.number);
        entries = (λ i. slice_set (o.entries i) (o.count i) sale.number)
            ∙ written ns 8 8 sale.number (omega arith)
            ∙ ap (λ xs. take 8 (xs ++ replicate 8 0)) (sym more);
      }

  pub off_more : CountsOff (with_off off sale) (sales ++ sale ∷ [])
  off_more = off_by_case (is_off sale) refl

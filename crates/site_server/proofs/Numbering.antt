-- If n passes have the numbers 1, 2, 3 and so on, then each number from 1 to n is the number of exactly one of them.
use Rattle.std.proofs.Common.{◌≡◌, ℕ, ◌+◌, ◌<◌, ◌≤◌, List, [], ◌∷◌, length, map, slice_index_or, Bool, true, false, refl, sym, ◌∙◌, ap, subst, arith, rules}
use Rattle.std.proofs.Common.{zero, suc}
use Rattle.std.specs.Prelude.{count_by, cond, ◌==◌}
use Rattle.std.proofs.lemmas.Bool.{eqb-true, eqb-false}
use Rattle.std.proofs.lemmas.List.{length-map}
use Rattle.std.proofs.lemmas.List.Recursion.{is_count_by}
use Rattle.site_lock.specs.Passes.{PassView}
use Rattle.site_lock.specs.Merge.{AreAll}
use Rattle.site_server.specs.Plans.{Plan}
use Rattle.site_server.specs.Ending.{HaveWorked}

-- `Numbers before list`: the elements of the list are before + 1, before + 2 and so on
abbrev Numbers : ℕ → List ℕ → Type 0
Numbers before [] = Unit {0}
Numbers before (n ∷ ns) = (n ≡ before + 1) × Numbers (before + 1) ns

-- `count j list`: how often the number j is in the list
abbrev count : ℕ → List ℕ → ℕ
count j [] = 0
count j (n ∷ ns) = cond (n == j) (1 + count j ns) (count j ns)

one_more : (n j rest : ℕ) (b : Bool) → (n == j) ≡ b → (n ≡ j → rest ≡ 0) → ((n ≡ j → ⊥) → rest ≡ 1) → cond b (1 + rest) rest ≡ 1
one_more n j rest true e is isnt = omega (arith, is (eqb-true n j e))
one_more n j rest false e is isnt = omega (arith, isnt (eqb-false n j e))

none_more : (n j rest : ℕ) (b : Bool) → (n == j) ≡ b → j < n → rest ≡ 0 → cond b (1 + rest) rest ≡ 0
none_more n j rest true e low none = absurd (let is = eqb-true n j e in omega arith)
none_more n j rest false e low none = none

none_below : (before : ℕ) (ns : List ℕ) (j : ℕ) → Numbers before ns → j ≤ before → count j ns ≡ 0
none_below before [] j h low = refl
none_below before (n ∷ ns) j h low =
    none_more n j (count j ns) (n == j) refl (let is = h.0 in omega arith) (none_below (before + 1) ns j h.1 (omega arith))

later : (n before j : ℕ) → n ≡ before + 1 → before < j → (n ≡ j → ⊥) → before + 1 < j
later n before j is low e = search (rules, arith)

once : (before : ℕ) (ns : List ℕ) (j : ℕ) → Numbers before ns → before < j → j ≤ before + length ns → count j ns ≡ 1
once before [] j h low high = absurd (omega arith)
once before (n ∷ ns) j h low high =
    one_more n j (count j ns) (n == j) refl
    (λ e. none_below (before + 1) ns j h.1 (let is = h.0 in omega arith))
    (λ e. once (before + 1) ns j h.1 (later n before j h.0 low e) (omega arith))

abbrev tally : ℕ → List PassView → ℕ
tally j [] = 0
tally j (p ∷ ps) = cond (p.id == j) (1 + tally j ps) (tally j ps)

tally_is : (ps : List PassView) (j : ℕ) → tally j ps ≡ count j (map (λ (p : PassView). p.id) ps)
tally_is [] j = refl
tally_is (p ∷ ps) j = ap (λ k. cond (p.id == j) (1 + k) k) (tally_is ps j)

counted : (ps : List PassView) (j : ℕ) → count_by (λ (p : PassView). p.id == j) ps ≡ tally j ps
counted ps j = sym (is_count_by (tally j) (λ (p : PassView). p.id == j) refl (λ p qs. refl) ps)

numbers_of : (before : ℕ) (ps : List PassView) → ((k : ℕ) (d : PassView) → k < length ps → (slice_index_or ps k d).id ≡ before + k + 1)
    → Numbers before (map (λ (p : PassView). p.id) ps)
numbers_of before [] h = tt
numbers_of before (p ∷ ps) h = (
  (let first = h 0 p (omega arith) in omega arith),
  numbers_of (before + 1) ps (λ k d lt. let next = h (suc k) d (omega arith) in omega arith),
)

pub all_numbered : (ps : List PassView) (n : ℕ) → length ps ≡ n → ((k : ℕ) (d : PassView) → k < length ps → (slice_index_or ps k d).id ≡ k + 1) → AreAll n ps
all_numbered ps n is h = (
  is,
  λ k lt. counted ps (k + 1) ∙ tally_is ps (k + 1)
      ∙ once 0 (map (λ (p : PassView). p.id) ps) (k + 1) (numbers_of 0 ps (λ j d l. h j d l ∙ omega arith)) (omega arith)
      (omega (arith, length-map ps (λ (p : PassView). p.id))),
)

module _ (plan : Plan) where
  first_of : (done : List (PassView × ℕ)) (k : ℕ) (d : PassView) → slice_index_or (map (λ (x : PassView × ℕ). x.0) done) k d ≡ (slice_index_or done k (d, 0)).0
  first_of [] k d = refl
  first_of (x ∷ xs) zero d = refl
  first_of (x ∷ xs) (suc k) d = first_of xs k d

  pub all_worked : (ps : List PassView) (n clean : ℕ) → length ps ≡ n → HaveWorked plan ps clean → AreAll n ps
  all_worked ps n clean is h = all_numbered ps n is (λ k d lt.
      let P : List PassView → Type 0 = λ l. (slice_index_or l k d).id ≡ k + 1 in
      subst P (sym h.passes_are) (ap (λ (p : PassView). p.id) (first_of h.done k d)
      ∙ (h.each k (d, 0) (omega (arith, lt, ap length h.passes_are, length-map h.done (λ (x : PassView × ℕ). x.0)))).0))

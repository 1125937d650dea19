-- Lemmas on sets of places that are represented by words: bit i of word k stands for place 64 k + i. OR with a mask
-- adds places to the set, AND with the inverted mask removes them, and AND with the mask tests them.
use Rattle.std.proofs.Common.{◌≡◌, ◌≢◌, ℕ, zero, suc, ◌+◌, ◌-◌, ◌*◌, ◌/◌, ◌%◌, ◌^◌, ◌<◌, ◌≤◌, ◌⊎◌, ◌↔◌, List, [], ◌∷◌, ◌++◌, Bool, true, false, refl, sym, ap}
use Rattle.std.proofs.Common.{◌∙◌, subst, inl, inr, arith, length, replicate, bit_and, bit_or, min, max}
use Rattle.std.specs.Prelude.{◌==◌, slice_index_or, slice_set}
use Rattle.std.specs.Int.{bit_at, bit_not, w64}
use Rattle.std.specs.List.{AllByRecursion}
use Rattle.std.proofs.lemmas.Bool.{cases_lt, cases_eq, eqb-true, eq-eqb}
use Rattle.std.proofs.lemmas.List.{get_or-set_other, get_or-set_same, length-set}
use Rattle.std.proofs.lemmas.Nat.{or_lt, and_le_l, and_le_r, pow-add, pow_below, pow_pos}
use Rattle.std.proofs.lemmas.Nat.Bits.{bit_at_lowest, bit_at-suc, bit_at-zero, bit_at-lt, bit_at_and, bit_at_or, bit_at_above, bit_at_cat_low}
use Rattle.std.proofs.lemmas.Nat.Bits.{bit_at_mask_inside, bit_at_not, same_from_bits_below}
use Rattle.verifier.specs.Places.{Has, Within, bits_of, places_of, AreWords, IsMarked}

bit_true : (word : ℕ) → ((word % 2 == 1) ≡ true) ↔ (bit_at word 0 ≡ 1)
bit_true word = (λ e. bit_at_lowest word ∙ eqb-true (word % 2) 1 e, λ e. eq-eqb (word % 2) 1 (sym (bit_at_lowest word) ∙ e))

bits_low : (n word p : ℕ) (rest : List Bool) → p < n → Has (bits_of n word ++ rest) p ↔ (bit_at word p ≡ 1)
unfolding bits_of
bits_low zero word p rest l = absurd (omega (arith, l))
bits_low (suc n) word zero rest l = bit_true word
bits_low (suc n) word (suc p) rest l =
    let half = bits_low n (word / 2) p rest (omega (arith, l)) in
    (λ h. bit_at-suc word p ∙ half.0 h, λ e. half.1 (sym (bit_at-suc word p) ∙ e))

bits_high : (n word p : ℕ) (rest : List Bool) → n ≤ p → slice_index_or (bits_of n word ++ rest) p false ≡ slice_index_or rest (p - n) false
unfolding bits_of
bits_high zero word p rest l = ap (λ k. slice_index_or rest k false) (omega arith)
bits_high (suc n) word zero rest l = absurd (omega (arith, l))
bits_high (suc n) word (suc p) rest l = bits_high n (word / 2) p rest (omega (arith, l)) ∙ ap (λ k. slice_index_or rest k false) (omega arith)

-- the set that the words represent has place p exactly if the bit of p in the words is 1 (`IsMarked`)
pub marked_is : (words : List ℕ) (p : ℕ) → Has (places_of words) p ↔ IsMarked words p
unfolding places_of
marked_is [] p = (λ h. absurd (cc), λ e. absurd (let z = bit_at-zero (p % 64) in cc))
marked_is (word ∷ words) p = elim (cases_lt p 64) [
  | inl low ↦
      let place : p / 64 ≡ 0 = omega (arith, low) in
      let bit : p % 64 ≡ p = omega (arith, low) in
      let is = bits_low 64 word p (places_of words) low in
      let same : bit_at (slice_index_or (word ∷ words) (p / 64) 0) (p % 64) ≡ bit_at word p =
      ap (λ k. bit_at (slice_index_or (word ∷ words) k 0) (p % 64)) place ∙ ap (bit_at word) bit in
      (λ h. same ∙ is.0 h, λ e. is.1 (sym same ∙ e))
  | inr high ↦
      let place : p / 64 ≡ suc ((p - 64) / 64) = omega (arith, high) in
      let bit : p % 64 ≡ (p - 64) % 64 = omega (arith, high) in
      let is = marked_is words (p - 64) in
      let set = bits_of 64 word ++ places_of words in
      let there : slice_index_or set p false ≡ slice_index_or (places_of words) (p - 64) false = bits_high 64 word p (places_of words) high in
      let same : bit_at (slice_index_or (word ∷ words) (p / 64) 0) (p % 64) ≡ bit_at (slice_index_or words ((p - 64) / 64) 0) ((p - 64) % 64) =
      ap (λ k. bit_at (slice_index_or (word ∷ words) k 0) (p % 64)) place ∙ ap (bit_at (slice_index_or words ((p - 64) / 64) 0)) bit in
      (λ h. same ∙ is.0 (sym there ∙ h), λ e. there ∙ is.1 (sym same ∙ e))
]

-- ---- these lemmas say which bits are 1 in a mask, in words that are all 0, and in the OR and the AND of two words

power_le : (lo hi : ℕ) → lo ≤ hi → 2 ^ lo ≤ 2 ^ hi
power_le lo hi l = elim (cases_eq lo hi) [
  | inl e ↦ let same = ap (λ k. 2 ^ k) e in omega (arith, same)
  | inr n ↦ let below = pow_below lo hi (omega (arith, l, n)) in omega (arith, below)
]

less_one : (x y : ℕ) → 0 < x → x * y - y ≡ (x - 1) * y + 0
less_one zero y l = absurd (omega (arith, l))
less_one (suc x) y l = grind arith

mask_low : (lo hi i : ℕ) → lo ≤ hi → i < lo → bit_at (2 ^ hi - 2 ^ lo) i ≡ 0
mask_low lo hi i l below =
    ap (λ n. bit_at (n - 2 ^ lo) i) (ap (λ k. 2 ^ k) (omega (arith, l)) ∙ pow-add 2 (hi - lo) lo)
    ∙ ap (λ n. bit_at n i) (less_one (2 ^ (hi - lo)) (2 ^ lo) (pow_pos (hi - lo)))
    ∙ bit_at_cat_low (2 ^ (hi - lo) - 1) lo 0 i below
    ∙ bit_at-zero i

mask_high : (lo hi i : ℕ) → lo ≤ hi → hi ≤ i → bit_at (2 ^ hi - 2 ^ lo) i ≡ 0
mask_high lo hi i l above = let some = pow_pos lo in let most = power_le lo hi l in bit_at_above (2 ^ hi - 2 ^ lo) hi i (omega (arith, some, most)) above

-- if low is 2 ^ lo - 1 and high is 2 ^ hi - 1, with lo ≤ hi, then low ≤ high, and high - low is 2 ^ hi - 2 ^ lo
pub mask_of_low : (lo hi low high : ℕ) → lo ≤ hi → high ≡ 2 ^ hi - 1 → low ≡ 2 ^ lo - 1 → (low ≤ high) × (high - low ≡ 2 ^ hi - 2 ^ lo)
mask_of_low lo hi low high l h e = let some = pow_pos lo in let most = power_le lo hi l in (omega (arith, h, e, some, most), omega (arith, h, e, some, most))

never_one : (n : ℕ) → n ≡ 0 → n ≡ 1 → ⊥
never_one n z e = cc

-- if lo ≤ hi, then in 2 ^ hi - 2 ^ lo the bits lo to hi - 1 are 1, and all others are 0
pub mask_is : (lo hi i : ℕ) → lo ≤ hi → (bit_at (2 ^ hi - 2 ^ lo) i ≡ 1) ↔ ((lo ≤ i) × (i < hi))
mask_is lo hi i l =
    let low : bit_at (2 ^ hi - 2 ^ lo) i ≡ 1 → lo ≤ i = λ e. elim (cases_lt i lo) [ inl b ↦ absurd (never_one _ (mask_low lo hi i l b) e) | inr b ↦ b ] in
    let high : bit_at (2 ^ hi - 2 ^ lo) i ≡ 1 → i < hi = λ e. elim (cases_lt i hi) [ inl b ↦ b | inr b ↦ absurd (never_one _ (mask_high lo hi i l b) e) ] in
    (λ e. (low e, high e), λ h. bit_at_mask_inside lo hi i h.0 h.1)

above_one : (a b : ℕ) → a < 2 → b < 2 → (max a b ≡ 1) ↔ ((a ≡ 1) ⊎ (b ≡ 1))
above_one zero b la lb = (λ e. inr (omega (arith, e)), λ h. elim h [ inl e ↦ absurd (omega (arith, e)) | inr e ↦ omega (arith, e) ])
above_one (suc a) b la lb = (λ e. inl (omega (arith, la)), λ h. omega (arith, la, lb))

below_one : (a b : ℕ) → a < 2 → b < 2 → (min a b ≡ 1) ↔ ((a ≡ 1) × (b ≡ 1))
below_one a b la lb = (λ e. (omega (arith, e, la, lb), omega (arith, e, la, lb)), λ h. let x = h.0 in let y = h.1 in omega (arith, x, y))

abbrev no_words : ℕ → List ℕ
no_words n = replicate n 0

zero_word : (n k : ℕ) → slice_index_or (no_words n) k 0 ≡ zero
zero_word zero k = refl
zero_word (suc n) zero = refl
zero_word (suc n) (suc k) = zero_word n k

-- words that are all 0 represent the empty set
pub no_place : (n p : ℕ) → Has (places_of (no_words n)) p → ⊥
no_place n p h = never_one _ (ap (λ word. bit_at word (p % 64)) (zero_word n (p / 64)) ∙ bit_at-zero (p % 64)) ((marked_is (no_words n) p).0 h)

or_is : (a b i : ℕ) → (bit_at (bit_or a b) i ≡ 1) ↔ ((bit_at a i ≡ 1) ⊎ (bit_at b i ≡ 1))
or_is a b i =
    let is = above_one (bit_at a i) (bit_at b i) (bit_at-lt a i) (bit_at-lt b i) in
    (λ e. is.0 (sym (bit_at_or a b i) ∙ e), λ h. bit_at_or a b i ∙ is.1 h)

and_is : (a b i : ℕ) → (bit_at (bit_and a b) i ≡ 1) ↔ ((bit_at a i ≡ 1) × (bit_at b i ≡ 1))
and_is a b i =
    let is = below_one (bit_at a i) (bit_at b i) (bit_at-lt a i) (bit_at-lt b i) in
    (λ e. is.0 (sym (bit_at_and a b i) ∙ e), λ h. bit_at_and a b i ∙ is.1 h)

-- ---- if word k becomes v, the bits of v say which places of this word are in the set, and no other place changes

module _ (words : List ℕ) (k v : ℕ) where
  pub word_set : (p : ℕ) → p / 64 ≡ k → k < length words → IsMarked (slice_set words k v) p ↔ (bit_at v (p % 64) ≡ 1)
  word_set p here l =
      let same : bit_at (slice_index_or (slice_set words k v) (p / 64) 0) (p % 64) ≡ bit_at v (p % 64) =
      ap (λ j. bit_at (slice_index_or (slice_set words k v) j 0) (p % 64)) here ∙ ap (λ w. bit_at w (p % 64)) (get_or-set_same words k v 0 l) in
      (λ e. sym same ∙ e, λ e. same ∙ e)

  pub word_kept : (p : ℕ) → p / 64 ≢ k → IsMarked (slice_set words k v) p ↔ IsMarked words p
  word_kept p other =
      let same : bit_at (slice_index_or (slice_set words k v) (p / 64) 0) (p % 64) ≡ bit_at (slice_index_or words (p / 64) 0) (p % 64) =
      ap (λ w. bit_at w (p % 64)) (get_or-set_other words k (p / 64) v 0 other) in
      (λ e. sym same ∙ e, λ e. same ∙ e)

small_set : (words : List ℕ) (k v : ℕ) → v < 2 ^ 64 → AllByRecursion (λ word. word < 2 ^ 64) words
    → AllByRecursion (λ word. word < 2 ^ 64) (slice_set words k v)
small_set [] k v l all = all
small_set (word ∷ words) zero v l all = (l, all.1)
small_set (word ∷ words) (suc k) v l all = (all.0, small_set words k v l all.1)

small_at : (words : List ℕ) (k : ℕ) → AllByRecursion (λ word. word < 2 ^ 64) words → slice_index_or words k 0 < 2 ^ 64
small_at [] k all = omega arith
small_at (word ∷ words) zero all = all.0
small_at (word ∷ words) (suc k) all = small_at words k all.1

pub words_or : (words : List ℕ) (k mask : ℕ) → mask < 2 ^ 64 → AreWords words → AreWords (slice_set words k (bit_or (slice_index_or words k 0) mask))
words_or words k mask l is = record {
  many = length-set words k _ ∙ is.many;
  small = small_set words k _ (or_lt 64 (slice_index_or words k 0) mask (small_at words k is.small) l) is.small;
}

pub words_and : (words : List ℕ) (k other : ℕ) → AreWords words → AreWords (slice_set words k (bit_and (slice_index_or words k 0) other))
words_and words k other is =
    let most = and_le_l (slice_index_or words k 0) other in
    let below = small_at words k is.small in
    record { many = length-set words k _ ∙ is.many; small = small_set words k _ (omega (arith, most, below)) is.small }

at_word : (words : List ℕ) (p k : ℕ) → p / 64 ≡ k → IsMarked words p ↔ (bit_at (slice_index_or words k 0) (p % 64) ≡ 1)
at_word words p k here =
    let same : bit_at (slice_index_or words (p / 64) 0) (p % 64) ≡ bit_at (slice_index_or words k 0) (p % 64) =
    ap (λ j. bit_at (slice_index_or words j 0) (p % 64)) here in
    (λ e. sym same ∙ e, λ e. same ∙ e)

-- for each i below 64, bit i of word k's mask is 1 exactly if place 64 k + i is one of the `len` places from `at` on
abbrev pub IsMask : ℕ → ℕ → ℕ → ℕ → Type 0
IsMask mask k at len = (i : ℕ) → i < 64 → (bit_at mask i ≡ 1) ↔ Within at len (64 * k + i)

mask_at : (mask k at len p : ℕ) → IsMask mask k at len → p / 64 ≡ k → (bit_at mask (p % 64) ≡ 1) ↔ Within at len p
mask_at mask k at len p is here =
    let it = is (p % 64) (omega arith) in
    let from : 64 * k + p % 64 ≡ p = omega (arith, here) in
    (λ e. subst (Within at len) from (it.0 e), λ w. it.1 (subst (Within at len) (sym from) w))

-- The loop that adds the `len` places from `at` on to the set `old` has come to word k. A place is marked in the words
-- exactly if it is in `old`, or is one of these `len` places and below 64 k.
abbrev pub IsTaken : List ℕ → List Bool → ℕ → ℕ → ℕ → Type 0
IsTaken words old at len k = (p : ℕ) → IsMarked words p ↔ (Has old p ⊎ (Within at len p × (p < 64 * k)))

pub taken_more : (words : List ℕ) (old : List Bool) (at len k mask : ℕ) → k < length words → IsMask mask k at len → IsTaken words old at len k
    → IsTaken (slice_set words k (bit_or (slice_index_or words k 0) mask)) old at len (k + 1)
taken_more words old at len k mask l is taken p = elim (cases_eq (p / 64) k) [
  | inl here ↦
      let both = or_is (slice_index_or words k 0) mask (p % 64) in
      let set = word_set words k (bit_or (slice_index_or words k 0) mask) p here l in
      let was = at_word words p k here in
      let run = mask_at mask k at len p is here in
      let old_or_run : (bit_at (slice_index_or words k 0) (p % 64) ≡ 1) ⊎ (bit_at mask (p % 64) ≡ 1) → Has old p ⊎ (Within at len p × (p < 64 * (k + 1))) =
      λ h. elim h [
        | inl e ↦ elim ((taken p).0 (was.1 e)) [ inl o ↦ inl o | inr w ↦ inr (w.0, omega (arith, here)) ]
        | inr e ↦ inr (run.0 e, omega (arith, here))
      ] in
      (λ e. old_or_run (both.0 (set.0 e)), λ h. set.1 (both.1 (elim h [ inl o ↦ inl (was.0 ((taken p).1 (inl o))) | inr w ↦ inr (run.1 w.0) ])))
  | inr other ↦
      let kept = word_kept words k (bit_or (slice_index_or words k 0) mask) p other in (
        λ e. elim ((taken p).0 (kept.0 e)) [ inl o ↦ inl o | inr w ↦ inr (w.0, let b = w.1 in omega (arith, b)) ],
        λ h. kept.1 ((taken p).1 (elim h [ inl o ↦ inl o | inr w ↦ inr (w.0, let b = w.1 in omega (arith, b, other)) ])),
      )
]

pub taken_none : (words : List ℕ) (old : List Bool) (at len : ℕ) → places_of words ≡ old → IsTaken words old at len (at / 64)
taken_none words old at len e p =
    let is = marked_is words p in (
      λ m. inl (subst (λ set. Has set p) e (is.1 m)),
      λ h. is.0 (subst (λ set. Has set p) (sym e) (elim h [ inl o ↦ o | inr w ↦ absurd (let a = w.0.0 in let b = w.1 in omega (arith, a, b)) ])),
    )

pub taken_all : (words : List ℕ) (old : List Bool) (at len k : ℕ) → at + len ≤ 64 * k → IsTaken words old at len k → (p : ℕ)
    → Has (places_of words) p ↔ (Has old p ⊎ Within at len p)
taken_all words old at len k l taken p =
    let is = marked_is words p in (
      λ h. elim ((taken p).0 (is.0 h)) [ inl o ↦ inl o | inr w ↦ inr w.0 ],
      λ h. is.1 ((taken p).1 (elim h [ inl o ↦ inl o | inr w ↦ inr (w, let b = w.1 in omega (arith, b, l)) ])),
    )

-- ---- the loop that removes from a set the `len` places that begin at `at` removes these places and no others

none_left : (b : ℕ) → b < 2 → (1 - b ≡ 1) ↔ ¬ (b ≡ 1)
none_left b l = (λ e h. omega (arith, e, h), λ h. elim (cases_eq b 1) [ inl e ↦ absurd (h e) | inr n ↦ omega (arith, l, n) ])

without_is : (a mask i : ℕ) → mask < 2 ^ 64 → i < 64 → (bit_at (bit_and a (bit_not w64 mask)) i ≡ 1) ↔ ((bit_at a i ≡ 1) × ¬ (bit_at mask i ≡ 1))
without_is a mask i small l =
    let both = and_is a (bit_not w64 mask) i in
    let other = bit_at_not w64 mask i small l in
    let none = none_left (bit_at mask i) (bit_at-lt mask i) in
    (λ e. let h = both.0 e in (h.0, none.0 (sym other ∙ h.1)), λ h. both.1 (h.0, other ∙ none.1 h.1))

-- The loop that removes the `len` places from `at` on from the set `old` has come to word k. A place is marked in the
-- words exactly if it is in `old` and, if it is one of these `len` places, isn't below 64 k.
abbrev pub IsFreed : List ℕ → List Bool → ℕ → ℕ → ℕ → Type 0
IsFreed words old at len k = (p : ℕ) → IsMarked words p ↔ (Has old p × (Within at len p → 64 * k ≤ p))

pub freed_none : (words : List ℕ) (old : List Bool) (at len : ℕ) → places_of words ≡ old → IsFreed words old at len (at / 64)
freed_none words old at len e p =
    let is = marked_is words p in
    (λ m. (subst (λ set. Has set p) e (is.1 m), λ w. let a = w.0 in omega (arith, a)), λ h. is.0 (subst (λ set. Has set p) (sym e) h.0))

pub freed_more : (words : List ℕ) (old : List Bool) (at len k mask : ℕ) → k < length words → mask < 2 ^ 64 → IsMask mask k at len → IsFreed words old at len k
    → IsFreed (slice_set words k (bit_and (slice_index_or words k 0) (bit_not w64 mask))) old at len (k + 1)
freed_more words old at len k mask l small is freed p = elim (cases_eq (p / 64) k) [
  | inl here ↦
      let without = without_is (slice_index_or words k 0) mask (p % 64) small (omega arith) in
      let set = word_set words k (bit_and (slice_index_or words k 0) (bit_not w64 mask)) p here l in
      let was = at_word words p k here in
      let run = mask_at mask k at len p is here in (
        λ e. let h = without.0 (set.0 e) in (((freed p).0 (was.1 h.0)).0, λ w. absurd (h.1 (run.1 w))),
        λ h. set.1 (without.1 (was.0 ((freed p).1 (h.0, λ w. omega (arith, here))), λ m. let b = h.1 (run.0 m) in omega (arith, b, here))),
      )
  | inr apart ↦
      let kept = word_kept words k (bit_and (slice_index_or words k 0) (bit_not w64 mask)) p apart in (
        λ e. let h = (freed p).0 (kept.0 e) in (h.0, λ w. let b = h.1 w in omega (arith, b, apart)),
        λ h. kept.1 ((freed p).1 (h.0, λ w. let b = h.1 w in omega (arith, b))),
      )
]

pub freed_all : (words : List ℕ) (old : List Bool) (at len k : ℕ) → at + len ≤ 64 * k → IsFreed words old at len k → (p : ℕ)
    → Has (places_of words) p ↔ (Has old p × ¬ (Within at len p))
freed_all words old at len k l freed p =
    let is = marked_is words p in (
      λ h. let x = (freed p).0 (is.0 h) in (x.0, λ w. let a = x.1 w in let b = w.1 in omega (arith, a, b, l)),
      λ h. is.1 ((freed p).1 (h.0, λ w. absurd (h.1 w))),
    )

-- ---- the loop over the words of two sets leaves exactly the places that are in both

-- The loop that intersects the set `old` with the set in the words `others` has come to word k. A place is marked in
-- `words` exactly if it is in `old` and, if it is below 64 k, also marked in `others`.
abbrev pub IsMet : List ℕ → List Bool → List ℕ → ℕ → Type 0
IsMet words old others k = (p : ℕ) → IsMarked words p ↔ (Has old p × (p < 64 * k → IsMarked others p))

pub met_none : (words : List ℕ) (old : List Bool) (others : List ℕ) → places_of words ≡ old → IsMet words old others 0
met_none words old others e p =
    let is = marked_is words p in
    (λ m. (subst (λ set. Has set p) e (is.1 m), λ l. absurd (omega (arith, l))), λ h. is.0 (subst (λ set. Has set p) (sym e) h.0))

pub met_more : (words : List ℕ) (old : List Bool) (others : List ℕ) (k : ℕ) → k < length words → IsMet words old others k
    → IsMet (slice_set words k (bit_and (slice_index_or words k 0) (slice_index_or others k 0))) old others (k + 1)
met_more words old others k l met p = elim (cases_eq (p / 64) k) [
  | inl here ↦
      let both = and_is (slice_index_or words k 0) (slice_index_or others k 0) (p % 64) in
      let set = word_set words k (bit_and (slice_index_or words k 0) (slice_index_or others k 0)) p here l in
      let was = at_word words p k here in
      let other = at_word others p k here in (
        λ e. let h = both.0 (set.0 e) in (((met p).0 (was.1 h.0)).0, λ b. other.1 h.1),
        λ h. set.1 (both.1 (was.0 ((met p).1 (h.0, λ b. absurd (omega (arith, b, here)))), other.0 (h.1 (omega (arith, here))))),
      )
  | inr apart ↦
      let kept = word_kept words k (bit_and (slice_index_or words k 0) (slice_index_or others k 0)) p apart in (
        λ e. let h = (met p).0 (kept.0 e) in (h.0, λ b. h.1 (omega (arith, b, apart))),
        λ h. kept.1 ((met p).1 (h.0, λ b. h.1 (omega (arith, b)))),
      )
]

no_word : (others : List ℕ) (k : ℕ) → length others ≤ k → slice_index_or others k 0 ≡ 0
no_word [] k l = refl
no_word (word ∷ others) zero l = absurd (omega (arith, l))
no_word (word ∷ others) (suc k) l = no_word others k (omega (arith, l))

past_all : (words : List ℕ) (p : ℕ) → length words ≤ 8 → 512 ≤ p → IsMarked words p → ⊥
past_all words p l b m = let z = ap (λ w. bit_at w (p % 64)) (no_word words (p / 64) (omega (arith, l, b))) ∙ bit_at-zero (p % 64) in absurd (cc)

pub met_all : (words : List ℕ) (old other : List Bool) (others : List ℕ) (k : ℕ) → length words ≡ 8 → 8 ≤ k → places_of others ≡ other
    → IsMet words old others k → (p : ℕ) → Has (places_of words) p ↔ (Has old p × Has other p)
met_all words old other others k many l e met p =
    let is = marked_is words p in
    let there = marked_is others p in (
      λ h. (
        ((met p).0 (is.0 h)).0,
        subst (λ set. Has set p) e
            (there.1 (((met p).0 (is.0 h)).1
            (elim (cases_lt p 512) [ inl b ↦ omega (arith, b, l) | inr b ↦ absurd (past_all words p (omega (arith, many)) b (is.0 h)) ]))),
      ),
      λ h. is.1 ((met p).1 (h.0, λ b. there.0 (subst (λ set. Has set p) (sym e) h.1))),
    )

-- ---- the loop that tests `len` places from `at` on finds whether all of them are in the set

-- of the `len` places from `at` on, each one below 64 k is marked in the words
abbrev pub IsHeld : List ℕ → ℕ → ℕ → ℕ → Type 0
IsHeld words at len k = (p : ℕ) → Within at len p → p < 64 * k → IsMarked words p

pub held_more : (words : List ℕ) (at len k mask : ℕ) → IsMask mask k at len → bit_and (slice_index_or words k 0) mask ≡ mask → IsHeld words at len k
    → IsHeld words at len (k + 1)
held_more words at len k mask is all held p w l = elim (cases_eq (p / 64) k) [
  | inl here ↦ (at_word words p k here).1
      ((and_is (slice_index_or words k 0) mask (p % 64)).0 (ap (λ m. bit_at m (p % 64)) all ∙ (mask_at mask k at len p is here).1 w)).0
  | inr other ↦ held p w (omega (arith, l, other))
]

-- Let `mask` be the mask of word k for the `len` places from `at` on (`IsMask`). If all of these places are in the set,
-- then each bit that is 1 in `mask` is also 1 in word k.
pub not_held : (words : List ℕ) (at len k mask : ℕ) → k < 8 → mask < 2 ^ 64 → IsMask mask k at len → ((p : ℕ) → Within at len p → Has (places_of words) p)
    → bit_and (slice_index_or words k 0) mask ≡ mask
not_held words at len k mask small below is all =
    let word = slice_index_or words k 0 in
    let most = and_le_r word mask in
    same_from_bits_below 64 (bit_and word mask) mask (omega (arith, most, below)) below (λ i l. elim (cases_eq (bit_at mask i) 1) [
      | inl set ↦
          let place : (64 * k + i) / 64 ≡ k = omega (arith, l) in
          let bit : (64 * k + i) % 64 ≡ i = omega (arith, l) in
          let held = (at_word words (64 * k + i) k place).0 ((marked_is words (64 * k + i)).0 (all (64 * k + i) ((is i l).0 set))) in
          (and_is word mask i).1 (sym (ap (bit_at word) bit) ∙ held, set) ∙ sym set
      | inr unset ↦ bit_at_and word mask i ∙ (let m = bit_at-lt mask i in omega (arith, m, unset))
    ])

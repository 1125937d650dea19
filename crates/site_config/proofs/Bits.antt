-- Lemmas on setting bit i of a number: this bit becomes 1, and the other bits stay as they are. If a door is for some
-- points only, these points are kept as the bits of a number.
use Rattle.std.proofs.Common.{◌≡◌, ◌≢◌, ℕ, zero, suc, ◌+◌, ◌-◌, ◌*◌, ◌/◌, ◌%◌, ◌^◌, ◌<◌, ◌≤◌, ◌==◌, ◌||◌, nat_lt, Bool, true, false, cond, refl, sym, subst, ap, ◌∙◌, arith}
use Rattle.std.specs.Prelude.{bit_or}
use Rattle.std.proofs.lemmas.Nat.{or_shr, or_mod, pow_below, pow-add, shl-shr, shr_below, mul-mod_first, mod_below}
use Rattle.std.proofs.lemmas.Bool.{ltb-true, ltb-false, eqb-true, eqb-false}

one_times : (x : ℕ) → x ≡ 1 * x
one_times x = omega arith

none_and : (j : ℕ) → 0 + j ≡ j
none_and j = omega arith

none_times : (x : ℕ) → 0 * x ≡ 0
none_times x = omega arith

-- bit i of 2^i is 1
same_bit : (i : ℕ) → 2 ^ i / 2 ^ i % 2 ≡ 1
same_bit i = ap (λ x. x / 2 ^ i % 2) (one_times (2 ^ i)) ∙ ap (λ x. x % 2) (shl-shr 1 i)

low_bit : (i j : ℕ) → i < j → 2 ^ i / 2 ^ j % 2 ≡ 0
low_bit i j lt =
    let small : 2 ^ i / 2 ^ j < 1 = shr_below (2 ^ i) 0 j (rw (none_and j) (pow_below i j lt)) in
    let none : 2 ^ i / 2 ^ j ≡ 0 = omega (arith, small) in
    ap (λ x. x % 2) none

high_bit : (d j : ℕ) → 2 ^ (1 + d + j) / 2 ^ j % 2 ≡ 0
high_bit d j =
    ap (λ x. x / 2 ^ j % 2) (pow-add 2 (1 + d) j) ∙ ap (λ x. x % 2) (shl-shr (2 ^ (1 + d)) j) ∙ ap (λ x. x % 2) (pow-add 2 1 d)
    ∙ sym (mul-mod_first 2 (2 ^ d) 2) ∙ ap (λ x. x % 2) (none_times (2 ^ d))

apart_bit : (b : Bool) (i j : ℕ) → nat_lt i j ≡ b → i ≢ j → 2 ^ i / 2 ^ j % 2 ≡ 0
apart_bit true i j t other = low_bit i j (ltb-true i j t)
apart_bit false i j t other =
    let up : j ≤ i = ltb-false i j t in
    let k : 1 + (i - j - 1) + j ≡ i = omega (arith, up, other) in
    subst (λ x. 2 ^ x / 2 ^ j % 2 ≡ 0) k (high_bit (i - j - 1) j)

by_place : (c : Bool) (i j : ℕ) → (i == j) ≡ c → 2 ^ i / 2 ^ j % 2 ≡ cond c 1 0
by_place true i j e = let same : i ≡ j = eqb-true i j e in rw same (same_bit j)
by_place false i j e = apart_bit (nat_lt i j) i j refl (eqb-false i j e)

with_bit : (m : ℕ) (c : Bool) → m < 2 → (bit_or m (cond c 1 0) == 1) ≡ ((m == 1) || c)
with_bit zero true lt = refl
with_bit zero false lt = refl
with_bit (suc zero) true lt = refl
with_bit (suc zero) false lt = refl
with_bit (suc (suc m)) c lt = absurd (omega (arith, lt))

-- After bit i of b is set, bit j is 1 exactly if it was 1 before or j is i.
pub bit_more : (b i j : ℕ) → (bit_or b (2 ^ i) / 2 ^ j % 2 == 1) ≡ ((b / 2 ^ j % 2 == 1) || (i == j))
bit_more b i j =
    let m : ℕ = b / 2 ^ j % 2 in
    let small : m < 2 = mod_below (b / 2 ^ j) 2 (omega arith) in
    ap (λ x. x % 2 == 1) (or_shr b (2 ^ i) j) ∙ ap (λ x. x == 1) (or_mod (b / 2 ^ j) (2 ^ i / 2 ^ j) 1)
    ∙ ap (λ x. bit_or m x == 1) (by_place (i == j) i j refl) ∙ with_bit m (i == j) small

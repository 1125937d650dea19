-- Promises: the words that represent a set can be computed from the set. So equal sets are represented by equal words.
use Rattle.std.specs.Prelude.{◌≡◌, ℕ, zero, suc, ◌+◌, ◌*◌, ◌/◌, ◌%◌, ◌^◌, ◌<◌, ◌==◌, cond, List, [], ◌∷◌, ◌++◌, Bool, drop, length}
use Rattle.std.specs.List.{AllByRecursion}
use Rattle.std.proofs.Common.{refl, sym, ap, ◌∙◌, subst, add-one}
use Rattle.std.proofs.lemmas.Nat.{div-add-mod', mod_below, shr_below, pow_pos}
use Rattle.std.proofs.Math.Arith.{lt-one}
use Rattle.std.proofs.Math.Nat.{le-pred_of_lt, not-suc-le-zero}
use Rattle.verifier.specs.Places.{bits_of, places_of, number_of, words_of}

bit_back : (m : ℕ) → m < 2 → cond (m == 1) 1 0 ≡ m
bit_back zero l = refl
bit_back (suc zero) l = refl
bit_back (suc (suc m)) l = absurd (not-suc-le-zero (le-pred_of_lt (le-pred_of_lt l)))

half_below : (n word : ℕ) → word < 2 ^ suc n → word / 2 < 2 ^ n
half_below n word l = shr_below word n 1 (subst (λ k. word < 2 ^ k) (sym (add-one n)) l)

number_back : (n word : ℕ) (rest : List Bool) → word < 2 ^ n → number_of n (bits_of n word ++ rest) ≡ word
unfolding number_of bits_of
number_back zero word rest l = sym (lt-one l)
number_back (suc n) word rest l =
    ap (λ k. k * 2 + cond (word % 2 == 1) 1 0) (number_back n (word / 2) rest (half_below n word l))
    ∙ ap (λ k. word / 2 * 2 + k) (bit_back (word % 2) (mod_below word 2 (pow_pos 1)))
    ∙ div-add-mod' word 2

dropped : (n word : ℕ) (rest : List Bool) → drop n (bits_of n word ++ rest) ≡ rest
unfolding bits_of
dropped zero word rest = refl
dropped (suc n) word rest = dropped n (word / 2) rest

pub words_back : (words : List ℕ) → AllByRecursion (λ word. word < 2 ^ 64) words → words_of (length words) (places_of words) ≡ words
unfolding words_of places_of
words_back [] all = refl
words_back (word ∷ words) all =
    ap (λ k. k ∷ words_of (length words) (drop 64 (bits_of 64 word ++ places_of words))) (number_back 64 word (places_of words) all.0)
    ∙ ap (λ set. word ∷ words_of (length words) set) (dropped 64 word (places_of words))
    ∙ ap (λ ws. word ∷ ws) (words_back words all.1)

pub words_kept : (words : List ℕ) → length words ≡ 8 → AllByRecursion (λ word. word < 2 ^ 64) words → words_of 8 (places_of words) ≡ words
words_kept words many small = ap (λ n. words_of n (places_of words)) (sym many) ∙ words_back words small

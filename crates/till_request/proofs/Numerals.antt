-- Reading the digits of a word one by one gives the number that the word spells.
use Rattle.std.proofs.Common.{◌≡◌, ◌⊎◌, inl, inr, ℕ, ◌+◌, ◌*◌, ◌<◌, ◌≤◌, ◌^◌, List, length, take, get_or, Bool, true, false, ◌&&◌}
use Rattle.std.proofs.Common.{rules, refl, sym, ◌∙◌, ap, arith, nat_lt, lit≤}
use Rattle.std.specs.List.{list_all}
use Rattle.std.specs.Char.{digit_value, is_ascii_digit}
use Rattle.std.specs.Str.Parse.{digits_value}
use Rattle.std.proofs.lemmas.Int.Digits.{digits_value_more}
use Rattle.std.proofs.lemmas.List.Folds.{list_all_at, list_all_more}
use Rattle.std.proofs.lemmas.Str.Parse.{IsNumeralModel, digits_value-take-le, numerals_by_value}
use Rattle.std.proofs.lemmas.Grind.{common_steps}

pub own : IsNumeralModel (λ ds. list_all is_ascii_digit ds ≡ true) (digits_value 10)
own = numerals_by_value _ (search rules)

both : (b c : Bool) → b ≡ true → c ≡ true → (b && c) ≡ true
both b c h k = rw (h, k)

and_false : (b c : Bool) → c ≡ false → (b && c) ≡ false
and_false true c h = h
and_false false c h = refl

not_below : (m n : ℕ) → ¬ (m < n) → nat_lt m n ≡ false
not_below m n h = search (rules, common_steps)

-- if the first i bytes of a word are digits that spell the number `v`, and the next byte is a digit, then the first
-- i + 1 bytes are digits that spell the number `m`, which must be v * 10 plus the value of that next digit
pub digits_more : (w : List ℕ) (i v m : ℕ) → i < length w → list_all is_ascii_digit (take i w) ≡ true → v ≡ digits_value 10 (take i w)
    → is_ascii_digit (get_or w i 0) ≡ true → m ≡ v * 10 + digit_value (get_or w i 0)
    → (list_all is_ascii_digit (take (i + 1) w) ≡ true) × (m ≡ digits_value 10 (take (i + 1) w))
digits_more w i v m lt digits value digit more = (
  list_all_more is_ascii_digit w i 0 lt ∙ both _ _ digits digit,
  more ∙ ap (λ n. n * 10 + digit_value (get_or w i 0)) value ∙ sym (digits_value_more 10 w i lt),
)

-- if a byte of a word isn't a digit, or the bytes up to and including it spell 2^64 or more, then the word isn't the
-- digits of a number below 2^64
pub no_value : (w : List ℕ) (i v : ℕ) → i < length w → v ≡ digits_value 10 (take i w)
    → (is_ascii_digit (get_or w i 0) ≡ false) ⊎ (2 ^ 64 ≤ v * 10 + digit_value (get_or w i 0))
    → (list_all is_ascii_digit w && nat_lt (digits_value 10 w) (2 ^ 64)) ≡ false
no_value w i v lt value (inl no_digit) = ap (λ b. b && nat_lt (digits_value 10 w) (2 ^ 64)) (list_all_at is_ascii_digit w i 0 lt no_digit)
no_value w i v lt value (inr large) =
    let here : v * 10 + digit_value (get_or w i 0) ≡ digits_value 10 (take (i + 1) w) =
    ap (λ n. n * 10 + digit_value (get_or w i 0)) value ∙ sym (digits_value_more 10 w i lt) in
    let grows : digits_value 10 (take (i + 1) w) ≤ digits_value 10 w = digits_value-take-le 10 w (i + 1) (lit≤ tt) in
    let not_below' : nat_lt (digits_value 10 w) (2 ^ 64) ≡ false = not_below _ _ (omega arith) in
    and_false _ _ not_below'

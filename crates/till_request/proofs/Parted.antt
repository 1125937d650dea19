-- Cutting a text at its first separator, again and again, gives the same parts as splitting it at each separator.
use Rattle.std.proofs.Common.{◌≡◌, ℕ, ◌+◌, ◌<◌, ◌≤◌, List, [], ◌∷◌, length, take, drop, Bool, true, false, cond, ltb}
use Rattle.std.proofs.Common.{Some, None, refl, sym, ap, subst, arith, ◌-◌, ◌∙◌, ◌≢◌, ◌⊎◌, inl, inr, get_or, length-drop, append_assoc}
use Rattle.std.proofs.lemmas.Grind.{common_steps}
use Rattle.std.specs.List.{slice_split, position, position_or_len}
use Rattle.std.proofs.lemmas.List.Splits.{slice_split_first, length-slice_split}
use Rattle.std.proofs.lemmas.List.{drop-drop, get_or-drop, map-append}
use Rattle.std.proofs.lemmas.List.Sums.{position_or_len_is}
use Rattle.std.proofs.lemmas.Bool.{eq-eqb, ne_eqb}
use Rattle.std.proofs.lemmas.Bool.Decides.{eqb_tells}
use Rattle.std.proofs.Common.{Bor, map, ◌++◌, eqb, length-append}
use borrow.Author.Tests.{ltb-true, ltb-false, eqb-true}

by_place : {n : ℕ} {m : ℕ} (b : Bool) → ltb n m ≡ b → (at : ℕ) → cond b (Some n) None ≡ Some at → (n < m) × (n ≡ at)
by_place true t at e = (ltb-true _ _ t, cc)
by_place false t at e = absurd (cc)

pub cut_first : (p : ℕ → Bool) (xs : List ℕ) (at : ℕ) → position p xs ≡ Some at
    → (at < length xs) × (slice_split p xs ≡ take at xs ∷ slice_split p (drop (at + 1) xs))
cut_first p xs at e =
    let found = by_place (ltb (position_or_len p xs) (length xs)) refl at e in
    let P : ℕ → Type 0 = λ n. (n < length xs) × (slice_split p xs ≡ take n xs ∷ slice_split p (drop (n + 1) xs)) in
    subst P found.1 (found.0, slice_split_first p xs 0 found.0)

by_first : (p : ℕ → Bool) (x : ℕ) (xs : List ℕ) (b : Bool) → p x ≡ b → (length xs ≤ position_or_len p xs → slice_split p xs ≡ xs ∷ [])
    → length (x ∷ xs) ≤ position_or_len p (x ∷ xs) → slice_split p (x ∷ xs) ≡ (x ∷ xs) ∷ []
by_first p x xs true t more h = absurd (let z : position_or_len p (x ∷ xs) ≡ 0 = rw t refl in omega arith)
by_first p x xs false t more h =
    let z : position_or_len p (x ∷ xs) ≡ 1 + position_or_len p xs = rw t refl in
    let same : slice_split p xs ≡ xs ∷ [] = more (omega arith) in
    rw (t, same) refl

none_before : (p : ℕ → Bool) (xs : List ℕ) → length xs ≤ position_or_len p xs → slice_split p xs ≡ xs ∷ []
none_before p [] h = refl
none_before p (x ∷ xs) h = by_first p x xs (p x) refl (none_before p xs) h

by_no_place : {n : ℕ} {m : ℕ} (b : Bool) → ltb n m ≡ b → cond b (Some n) None ≡ None → m ≤ n
by_no_place true t e = absurd (cc)
by_no_place false t e = ltb-false _ _ t

pub cut_nowhere : (p : ℕ → Bool) (xs : List ℕ) → position p xs ≡ None → slice_split p xs ≡ xs ∷ []
cut_nowhere p xs e = none_before p xs (by_no_place (ltb (position_or_len p xs) (length xs)) refl e)

-- after its first n bytes a text has `length xs - n` further bytes, so taking that many of these takes them all
pub rest_behind : (xs : List ℕ) (n : ℕ) → take (length xs - n) (drop n xs) ≡ drop n xs
rest_behind xs n = grind (arith, common_steps)

-- if a text is n parts and then `rest`, which isn't split yet, the text has more than n parts, since even an empty
-- `rest` has one part
pub parts_and_more : (p : ℕ → Bool) (xs rest : List ℕ) (parts : List (Bor (List ℕ))) (n : ℕ) → map (λ w. w.now) parts ++ slice_split p rest ≡ slice_split p xs
    → eqb (length parts) n ≡ true → n < length (slice_split p xs)
parts_and_more p xs rest parts n all full =
    let count : length (map (λ w. w.now) parts ++ slice_split p rest) ≡ length (slice_split p xs) = ap length all in
    let same : length parts ≡ n = eqb-true _ _ full in
    let mapped : length (map (λ w. w.now) parts) ≡ length parts = grind (arith, common_steps) in
    omega (arith, length-append (map (λ w. w.now) parts) (slice_split p rest), length-slice_split p rest)

-- none of the bytes from place `start` up to but not including place `at` is the separator
abbrev pub NoneFrom : ℕ → List ℕ → ℕ → ℕ → Type 0
NoneFrom sep xs start at = (k : ℕ) → start ≤ k → k < at → get_or xs k 0 ≢ sep

none_ahead : (sep : ℕ) (xs : List ℕ) (start at : ℕ) → start ≤ at → NoneFrom sep xs start at
    → (k : ℕ) → k < at - start → eqb (get_or (drop start xs) k 0) sep ≡ false
none_ahead sep xs start at l none k h =
    ne_eqb _ _ (λ e. none (start + k) (omega arith) (omega (arith, l, h)) (sym (get_or-drop start xs k 0) ∙ e))

-- The bytes from place `start` on are split at the separators. If the first separator among them is at place `at`,
-- their first part is the bytes from `start` up to but not including `at`, and their other parts are the parts of the
-- bytes after `at`.
part_up_to : (sep : ℕ) (xs : List ℕ) (start at : ℕ) → start ≤ at → at < length xs → NoneFrom sep xs start at → get_or xs at 0 ≡ sep
    → slice_split (λ b. eqb b sep) (drop start xs) ≡ take (at - start) (drop start xs) ∷ slice_split (λ b. eqb b sep) (drop (at + 1) xs)
part_up_to sep xs start at l h none found =
    let p : ℕ → Bool = λ b. eqb b sep in
    let many : length (drop start xs) ≡ length xs - start = length-drop start xs in
    let there : start + (at - start) ≡ at = omega (arith, l) in
    let place : position_or_len p (drop start xs) ≡ at - start =
    position_or_len_is p (drop start xs) (at - start) 0 (omega (arith, many, h)) (none_ahead sep xs start at l none)
    (λ _. eq-eqb _ _ (get_or-drop start xs (at - start) 0 ∙ ap (λ i. get_or xs i 0) there ∙ found)) in
    let behind : drop (at - start + 1) (drop start xs) ≡ drop (at + 1) xs =
    drop-drop (at - start + 1) start xs ∙ ap (λ n. drop n xs) (omega (arith, l)) in
    let P : ℕ → Type 0 = λ n. slice_split p (drop start xs) ≡ take n (drop start xs) ∷ slice_split p (drop (n + 1) (drop start xs)) in
    subst P place (slice_split_first p (drop start xs) 0 (omega (arith, place, many, h, l)))
    ∙ ap (λ t. take (at - start) (drop start xs) ∷ slice_split p t) behind

-- if none of the bytes from place `start` to the end is the separator, then splitting these bytes gives them as a
-- single part
part_to_the_end : (sep : ℕ) (xs : List ℕ) (start at : ℕ) → start ≤ at → at ≡ length xs → NoneFrom sep xs start at
    → slice_split (λ b. eqb b sep) (drop start xs) ≡ drop start xs ∷ []
part_to_the_end sep xs start at l e none =
    let p : ℕ → Bool = λ b. eqb b sep in
    let many : length (drop start xs) ≡ length xs - start = length-drop start xs in
    let place : position_or_len p (drop start xs) ≡ at - start =
    position_or_len_is p (drop start xs) (at - start) 0 (omega (arith, many, e)) (none_ahead sep xs start at l none)
    (λ low. absurd (omega (arith, low, many, e))) in
    none_before p (drop start xs) (omega (arith, place, many, e))

pushed : (parts more : List (Bor (List ℕ))) (part : Bor (List ℕ)) → more ≡ parts ++ part ∷ []
    → map (λ w. w.now) more ≡ map (λ w. w.now) parts ++ part.now ∷ []
pushed parts more part e = ap (λ t. map (λ w. w.now) t) e ∙ map-append (λ w. w.now) parts (part ∷ [])

-- One step of splitting a text from left to right. If `parts`, followed by the parts of the bytes from `start` on, are
-- `all`, and the next separator is at place `at`, then `more`, followed by the parts of the bytes after this separator,
-- is `all` too. `more` must be `parts` followed by `part`, the bytes from `start` up to but not including the
-- separator.
pub part_more : (sep : ℕ) (all : List (List ℕ)) (xs : List ℕ) (start at : ℕ) (parts more : List (Bor (List ℕ))) (part : Bor (List ℕ))
    → map (λ w. w.now) parts ++ slice_split (λ b. eqb b sep) (drop start xs) ≡ all → more ≡ parts ++ part ∷ []
    → part.now ≡ take (at - start) (drop start xs) → start ≤ at → at < length xs → NoneFrom sep xs start at → get_or xs at 0 ≡ sep
    → map (λ w. w.now) more ++ slice_split (λ b. eqb b sep) (drop (at + 1) xs) ≡ all
part_more sep all xs start at parts more part so e is l h none found =
    let p : ℕ → Bool = λ b. eqb b sep in
    ap (λ t. t ++ slice_split p (drop (at + 1) xs)) (pushed parts more part e)
    ∙ append_assoc (map (λ w. w.now) parts) (part.now ∷ []) (slice_split p (drop (at + 1) xs))
    ∙ ap (λ t. map (λ w. w.now) parts ++ t) (ap (λ t. t ∷ slice_split p (drop (at + 1) xs)) is ∙ sym (part_up_to sep xs start at l h none found)) ∙ so

-- The last step of splitting a text from left to right. If `parts`, followed by the parts of the bytes from `start` on,
-- are `all`, and none of these bytes is the separator, then `more` is `all`. `more` must be `parts` followed by `part`,
-- the bytes from `start` on.
pub part_last : (sep : ℕ) (all : List (List ℕ)) (xs : List ℕ) (start at : ℕ) (parts more : List (Bor (List ℕ))) (part : Bor (List ℕ))
    → map (λ w. w.now) parts ++ slice_split (λ b. eqb b sep) (drop start xs) ≡ all → more ≡ parts ++ part ∷ []
    → part.now ≡ drop start xs → start ≤ at → at ≡ length xs → NoneFrom sep xs start at
    → map (λ w. w.now) more ≡ all
part_last sep all xs start at parts more part so e is l h none =
    pushed parts more part e
    ∙ ap (λ t. map (λ w. w.now) parts ++ t) (ap (λ t. t ∷ []) is ∙ sym (part_to_the_end sep xs start at l h none)) ∙ so

-- if none of the bytes from place `start` up to but not including place `at` is the separator, nor the byte at place
-- `at`, then none of the bytes from `start` up to and including `at` is the separator
pub none_further : (sep : ℕ) (xs : List ℕ) (start at : ℕ) → NoneFrom sep xs start at → get_or xs at 0 ≢ sep → NoneFrom sep xs start (at + 1)
none_further sep xs start at none f k low high = by_last (eqb_tells k at) where
  by_last : ((eqb k at ≡ true) × (k ≡ at)) ⊎ ((eqb k at ≡ false) × (k ≢ at)) → get_or xs k 0 ≢ sep
  by_last (inl t) = subst (λ i. get_or xs i 0 ≢ sep) (sym t.1) f
  by_last (inr t) = none k low (omega (arith, high, t.1))

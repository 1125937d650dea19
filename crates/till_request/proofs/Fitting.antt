-- The words of a line can only have a form with as many parts as there are words.
use Rattle.std.proofs.Common.{◌≡◌, ◌≢◌, ◌≤◌, Bool, false, ◌&&◌, cond, eqb, ℕ, List, [], ◌∷◌, length, true, refl, ◌∙◌, sym, ap, arith, map, Bor, get_or}
use Rattle.std.proofs.Common.{Some, None, find, lit≤}
use Rattle.std.proofs.lemmas.Bool.{eq-eqb}
use Rattle.std.proofs.lemmas.Bool.{and_parts}
use Rattle.std.proofs.lemmas.Grind.{common_steps}
use Rattle.till_request.specs.declared.act.Role.{Role}
use Rattle.till_request.specs.declared.form.Form.{Form}
use Rattle.till_request.specs.declared.form.Form.TheVariants as forms
use Rattle.till_request.specs.declared.form.Part.{Part}
use Rattle.till_request.specs.Grammar.{template, part_fits, fits, suits, allows, sender, all_forms}

-- if words fit a form's parts, there are as many words as parts
pub fits_count : (ps : List Part) (ws : List (List ℕ)) → fits ps ws ≡ true → length ps ≡ length ws
fits_count [] [] h = refl
fits_count [] (w ∷ ws) h = absurd (cc)
fits_count (p ∷ ps) [] h = absurd (cc)
fits_count (p ∷ ps) (w ∷ ws) h = let k : length ps ≡ length ws = fits_count ps ws (and_parts (part_fits p w) (fits ps ws) h).1 in omega arith

pub suited_count : (role : Role) (form : Form) (ws : List (Bor (List ℕ))) → suits role (map (λ w. w.now) ws) form ≡ true → length ws ≡ length (template form)
suited_count role form ws h =
    let now : List (List ℕ) = map (λ w. w.now) ws in
    let many : length now ≡ length ws = grind (arith, common_steps) in
    sym many ∙ sym (fits_count (template form) now (and_parts (allows role (sender form)) (fits (template form) now) h).1)

pub not_true : (b : Bool) → (b ≡ true → ⊥) → b ≡ false
not_true true h = absurd (h refl)
not_true false h = refl

-- the elements of a list for which `may` is true
abbrev pub only : {X : Type 0} → (X → Bool) → List X → List X
only may [] = []
only may (x ∷ xs) = cond (may x) (x ∷ only may xs) (only may xs)

find_by : {X : Type 0} (p may : X → Bool) (x : X) (xs : List X) (b : Bool) → may x ≡ b → ((x : X) → may x ≡ false → p x ≡ false)
    → find p xs ≡ find p (only may xs) → find p (x ∷ xs) ≡ find p (cond b (x ∷ only may xs) (only may xs))
find_by p may x xs true e h more = ap (λ r. cond (p x) (Some x) r) more
find_by p may x xs false e h more = rw (h x e) more

find_only : {X : Type 0} (p may : X → Bool) (xs : List X) → ((x : X) → may x ≡ false → p x ≡ false) → find p xs ≡ find p (only may xs)
find_only p may [] h = refl
find_only p may (x ∷ xs) h = find_by p may x xs (may x) refl h (find_only p may xs h)

true_false : (b : Bool) → b ≡ true → b ≡ false → ⊥
true_false b h k = cc

-- searching all forms gives the same as searching only the forms with as many parts as there are words
pub by_count : (role : Role) (ws : List (Bor (List ℕ))) (n : ℕ) → length ws ≡ n
    → find (suits role (map (λ w. w.now) ws)) all_forms
    ≡ find (suits role (map (λ w. w.now) ws)) (only (λ form. eqb (length (template form)) n) all_forms)
by_count role ws n many =
    find_only (suits role (map (λ w. w.now) ws)) (λ form. eqb (length (template form)) n) all_forms
    (λ form other. not_true (suits role (map (λ w. w.now) ws) form) (λ h.
    true_false (eqb (length (template form)) n) (eq-eqb _ _ (sym (suited_count role form ws h) ∙ many)) other))

pub between : (form : Form) → (3 ≤ length (template form)) × (length (template form) ≤ 5)
between (forms.Amount verb) = (lit≤ tt, lit≤ tt)
between (forms.Point verb) = (lit≤ tt, lit≤ tt)
between (forms.Transaction verb) = (lit≤ tt, lit≤ tt)
between (forms.Report verb) = (lit≤ tt, lit≤ tt)
between forms.Up = (lit≤ tt, lit≤ tt)
between forms.Flow = (lit≤ tt, lit≤ tt)
between (forms.Load layout) = (lit≤ tt, lit≤ tt)

pub find_none : {X : Type 0} (p : X → Bool) (xs : List X) → ((x : X) → p x ≡ false) → find p xs ≡ None
find_none p [] h = refl
find_none p (x ∷ xs) h = rw (h x) (find_none p xs h)

pub other_count : (role : Role) (ws : List (Bor (List ℕ))) → length ws ≢ 3 → length ws ≢ 4 → length ws ≢ 5
    → find (suits role (map (λ w. w.now) ws)) all_forms ≡ None
other_count role ws a b c =
    find_none (suits role (map (λ w. w.now) ws)) all_forms (λ form. not_true (suits role (map (λ w. w.now) ws) form) (λ h.
    let count : length ws ≡ length (template form) = suited_count role form ws h in
    omega (arith, count, between form, a, b, c)))

-- if a slice has three words, they are those at its indices 0, 1 and 2
pub in_three : (ws : List (Bor (List ℕ))) (d : Bor (List ℕ)) → length ws ≡ 3
    → map (λ w. w.now) ws ≡ (get_or ws 0 d).now ∷ (get_or ws 1 d).now ∷ (get_or ws 2 d).now ∷ []
in_three (a ∷ b ∷ c ∷ []) d e = refl
in_three ws d e = absurd (omega (arith, e))

pub in_four : (ws : List (Bor (List ℕ))) (d : Bor (List ℕ)) → length ws ≡ 4
    → map (λ w. w.now) ws ≡ (get_or ws 0 d).now ∷ (get_or ws 1 d).now ∷ (get_or ws 2 d).now ∷ (get_or ws 3 d).now ∷ []
in_four (a ∷ b ∷ c ∷ v ∷ []) d e = refl
in_four ws d e = absurd (omega (arith, e))

pub in_five : (ws : List (Bor (List ℕ))) (d : Bor (List ℕ)) → length ws ≡ 5
    → map (λ w. w.now) ws ≡ (get_or ws 0 d).now ∷ (get_or ws 1 d).now ∷ (get_or ws 2 d).now ∷ (get_or ws 3 d).now ∷ (get_or ws 4 d).now ∷ []
in_five (a ∷ b ∷ c ∷ v ∷ w ∷ []) d e = refl
in_five ws d e = absurd (omega (arith, e))

-- moving the third of four tests to the front doesn't change whether all of them hold
pub third_first : (a b c d : Bool) → (a && (b && (c && d))) ≡ (c && (a && (b && d)))
third_first true true c d = refl
third_first true false true d = refl
third_first true false false d = refl
third_first false b true d = refl
third_first false b false d = refl

pub third_last : (a b c : Bool) → (a && (b && c)) ≡ (c && (a && b))
third_last true true true = refl
third_last true true false = refl
third_last true false true = refl
third_last true false false = refl
third_last false b true = refl
third_last false b false = refl

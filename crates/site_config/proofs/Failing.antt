-- A list is read item by item. If reading an item fails with a flaw other than `OutOfMemory`, then reading the whole
-- list fails with this flaw. If an item is read without a flaw, then reading the whole list has the same result as
-- keeping what this item was read as, and going on with the later items.
use Rattle.std.proofs.Common.{◌≡◌, ◌≢◌, ℕ, ◌+◌, ℤ, List, [], ◌∷◌, ◌++◌, Result, Ok, Err, refl, sym, ap, append_assoc, ◌∙◌}
use Rattle.site_config.specs.declared.flaw.Place.{Place}
use Rattle.site_config.specs.declared.flaw.ConfigFlaw.{ConfigFlaw}
use Rattle.site_config.specs.declared.flaw.ConfigFlaw.TheVariants.{OutOfMemory}
use Rattle.site_config.specs.Document.{◌>>=◌, each_of, with_front}
use Rattle.site_config.specs.Doors.{with_point, with_points}

fails_on : {A B : Type 0} (flaw : ConfigFlaw) (r : Result A ConfigFlaw) (g : A → Result B ConfigFlaw) → r ≡ Err flaw → (r >>= g) ≡ Err flaw
fails_on flaw r g e = rw e

-- `zs` are the items of a list that aren't read yet, and `front` is what the earlier items were read as. If reading the
-- first item of `zs` fails with a flaw other than `OutOfMemory`, then reading the whole list fails with this flaw.
pub fails_front : {A B : Type 0} (one : ℕ → A → Result B ConfigFlaw) (place : ℕ) (flaw : ConfigFlaw) (front : List B) (zs : List A) (z : A) (rest : List A)
    (whole : Result (List B) ConfigFlaw) → with_front front (each_of one place zs) ≡ whole → zs ≡ z ∷ rest → (flaw ≢ OutOfMemory → one place z ≡ Err flaw)
    → flaw ≢ OutOfMemory → whole ≡ Err flaw
fails_front one place flaw front zs z rest whole read split e n =
    rw (sym read, split) (fails_on flaw (each_of one place (z ∷ rest)) (λ xs. Ok (front ++ xs))
    (fails_on flaw (one place z) (λ y. each_of one (place + 1) rest >>= (λ ys. Ok (y ∷ ys))) (e n)))

pushed : {B : Type 0} (front : List B) (y : B) (rest : Result (List B) ConfigFlaw)
    → with_front (front ++ y ∷ []) rest ≡ with_front front (rest >>= (λ ys. Ok (y ∷ ys)))
pushed front y (Ok ys) = ap Ok (append_assoc front (y ∷ []) ys)
pushed front y (Err e) = refl

-- `zs` are the items of a list that aren't read yet, and `front` is what the earlier items were read as. If the first
-- item of `zs` is read as `y`, then reading `rest`, the items after it, and appending what they were read as to `front`
-- and `y` has the same result as reading the whole list.
pub read_front : {A B : Type 0} (one : ℕ → A → Result B ConfigFlaw) (place : ℕ) (front : List B) (zs : List A) (z : A) (rest : List A) (y : B)
    (whole : Result (List B) ConfigFlaw) → with_front front (each_of one place zs) ≡ whole → zs ≡ z ∷ rest → one place z ≡ Ok y
    → with_front (front ++ y ∷ []) (each_of one (place + 1) rest) ≡ whole
read_front {B = B} one place front zs z rest y whole read split e =
    pushed front y (each_of one (place + 1) rest)
    ∙ ap (λ (r : Result B ConfigFlaw). with_front front (r >>= (λ x. each_of one (place + 1) rest >>= (λ ys. Ok (x ∷ ys))))) (sym e)
    ∙ ap (λ xs. with_front front (each_of one place xs)) (sym split)
    ∙ read

-- The points of a list are added to a set one by one. `bits` is the set so far, and `z` is the next point. If adding
-- `z` fails with a flaw other than `OutOfMemory`, then adding all points of the list fails with this flaw.
pub fails_points : (list : Place) (place points bits : ℕ) (flaw : ConfigFlaw) (zs : List ℤ) (z : ℤ) (rest : List ℤ) (whole : Result ℕ ConfigFlaw)
    → with_points list place points bits zs ≡ whole → zs ≡ z ∷ rest → (flaw ≢ OutOfMemory → with_point list place points bits z ≡ Err flaw)
    → flaw ≢ OutOfMemory → whole ≡ Err flaw
fails_points list place points bits flaw zs z rest whole read split e n =
    rw (sym read, split) (fails_on flaw (with_point list place points bits z) (λ more. with_points list (place + 1) points more rest) (e n))

-- One more line behind those of the first rows.
use Rattle.std.proofs.Common.{◌≡◌, ℕ, ◌+◌, ◌<◌, List, [], ◌∷◌, ◌++◌, map, take, length, get_or, Option, ap, ◌∙◌, sym, subst, add-one}
use Rattle.std.specs.List.{concat}
use Rattle.std.specs.Io.KnownBytes.{Appends}
use Rattle.std.proofs.KnownBytes.{Appends-trans}
use Rattle.std.proofs.lemmas.List.{append-nil, map_push}
use Rattle.std.proofs.lemmas.List.Folds.{concat-append}
use Rattle.std.proofs.Math.Seq.{take-suc}

-- If a writer has the texts of the first items, and then that of the next, it has those of one item more.
pub one-more : {A : Type 0} (text : A → List ℕ) (items : List A) (i : ℕ) (d : A) (a b c : Option (List ℕ)) → i < length items
    → Appends a b (concat (map text (take i items))) → Appends b c (text (get_or items i d)) → Appends a c (concat (map text (take (i + 1) items)))
one-more text items i d a b c inside before one =
    let x = get_or items i d in
    let longer : take (i + 1) items ≡ take i items ++ x ∷ [] = ap (λ n. take n items) (add-one i) ∙ take-suc items i d inside in
    let all : concat (map text (take (i + 1) items)) ≡ concat (map text (take i items)) ++ text x =
    ap (λ xs. concat (map text xs)) longer
    ∙ ap concat (map_push text (take i items) x) ∙ concat-append (map text (take i items)) (text x ∷ [])
    ∙ ap (λ l. concat (map text (take i items)) ++ l) (append-nil (text x)) in
    subst (Appends a c) (sym all) (Appends-trans a b c _ _ before one)

-- The same, where the next item is known as `x`.
pub one-more-item : {A : Type 0} (text : A → List ℕ) (items : List A) (i : ℕ) (x : A) (a b c : Option (List ℕ)) → i < length items
    → x ≡ get_or items i x → Appends a b (concat (map text (take i items))) → Appends b c (text x)
    → Appends a c (concat (map text (take (i + 1) items)))
one-more-item text items i x a b c inside is before one = one-more text items i x a b c inside before (subst (λ y. Appends b c (text y)) is one)

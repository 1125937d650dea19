-- What is appended to known bytes in two steps.
use Rattle.std.proofs.Common.{◌≡◌, ℕ, suc, List, [], ◌∷◌, ◌++◌, map, Option, Some, None, ap, ◌∙◌, sym, subst, arith}
use Rattle.std.specs.List.{concat}
use Rattle.std.specs.Io.KnownBytes.{Appends, Keeps, append_known}
use Rattle.std.proofs.KnownBytes.{Appends-kept, Appends-trans}
use Rattle.std.proofs.lemmas.List.{append-nil, map_push}
use Rattle.std.proofs.lemmas.List.Folds.{concat-append}
use Rattle.day_export.specs.Text.{AppendsFirst}

-- If b is `a ++ held ++ bs`, and the buffer `held` is empty, then b is `a ++ bs`.
pub from-empty : (a b : Option (List ℕ)) (held bs : List ℕ) → held ≡ [] → Appends (append_known a held) b bs → Appends a b bs
from-empty None b held bs e p = tt
from-empty (Some xs) None held bs e p = p
from-empty (Some xs) (Some ys) held bs e p = p ∙ ap (λ l. l ++ bs) (ap (λ h. xs ++ h) e ∙ append-nil xs)

-- If b is a followed by the texts of these items, and c is b followed by the text of x, then c is a followed by the texts
-- of the items and of x.
pub more : {A : Type 0} (text : A → List ℕ) (items : List A) (x : A) (a b c : Option (List ℕ)) → Appends a b (concat (map text items)) → Appends b c (text x)
    → Appends a c (concat (map text (items ++ x ∷ [])))
more text items x a b c before one =
    let all : concat (map text (items ++ x ∷ [])) ≡ concat (map text items) ++ text x =
    ap concat (map_push text items x) ∙ concat-append (map text items) (text x ∷ []) ∙ ap (λ l. concat (map text items) ++ l) (append-nil (text x)) in
    subst (Appends a c) (sym all) (Appends-trans a b c _ _ before one)

-- If the header is appended, and then the first of these texts, the first of the header and these texts are appended.
pub behind_header : (a b c d : Option (List ℕ)) (header : List ℕ) (texts : List (List ℕ)) → Appends a b header → AppendsFirst b c texts → Keeps c d
    → AppendsFirst a d (header ∷ texts)
behind_header a b c d header texts head first kept =
    (suc first.0, omega (arith, first.1), Appends-kept a c d _ (Appends-trans a b c header _ head first.2) kept)

-- If the writer `given` is handed back as `after`, what is appended to it is appended to `after`.
pub handed_back : {W : Type 0} (contents : W → Option (List ℕ)) (old : Option (List ℕ)) (texts : List (List ℕ)) (given after : W) → given ≡ after
    → AppendsFirst old (contents given) texts → AppendsFirst old (contents after) texts
handed_back contents old texts given after is first = subst (λ w. AppendsFirst old (contents w) texts) is first

-- What holds of the bytes that an opened file gives holds of the folder's file.
use Rattle.std.proofs.Common.{◌≡◌, ℕ, List, Option, Some, None, option_map, rules, subst}

given : (known file : Option (List ℕ)) (P : Option (List ℕ) → Type 0) → Some known ≡ option_map (λ text. Some text) file
    → ((text : List ℕ) → known ≡ Some text → P (Some text)) → P file
given known None P is holds = search rules
given known (Some text) P is holds = holds text (search rules)

pub opened : {R : Type 0} (remaining : R → Option (List ℕ)) (source : R) (found : Option R) (file : Option (List ℕ)) (P : Option (List ℕ) → Type 0)
    → found ≡ Some source → option_map remaining found ≡ option_map (λ text. Some text) file
    → ((text : List ℕ) → remaining source ≡ Some text → P (Some text)) → P file
opened remaining source found file P some is holds =
    given (remaining source) file P (subst (λ f. option_map remaining f ≡ option_map (λ text. Some text) file) some is) holds

-- The code and the definitions find the same key of a table: the first one that doesn't pass a test.
use Rattle.std.proofs.Common.{◌≡◌, ℕ, List, [], ◌∷◌, Bool, true, false, not, String, Global, BTreeMap, Option, Some, option_map, string_bytes, cond, refl, ap, ◌∙◌}
use Rattle.std.specs.List.{find}
use Rattle.std.specs.BTreeMap.{keys}
use Rattle.std.specs.Map.{keys_of}
use Rattle.toml.specs.declared.value.Value.{Value}
use Rattle.toml.specs.View.{table_view, members_view}
use Rattle.site_config.specs.Typed.{other_key}

first_by : (b : Bool) (k : String Global) (y : Option (List ℕ)) (found : Option (String Global)) → option_map string_bytes found ≡ y
    → option_map string_bytes (cond (not b) (Some k) found) ≡ cond b y (Some (string_bytes k))
first_by true k y found h = h
first_by false k y found h = refl

entries_other : (test : List ℕ → Bool) (es : List (String Global × Value))
    → option_map string_bytes (find (λ k. not (test (string_bytes k))) (keys_of es)) ≡ other_key test (members_view es)
entries_other test [] = refl
entries_other test (e ∷ es) = first_by (test (string_bytes e.0)) e.0 _ _ (entries_other test es)

pub other_of_keys : (test : List ℕ → Bool) (m : BTreeMap (String Global) Value) (found : Option (String Global))
    → found ≡ find (λ k. not (test (string_bytes k))) (keys m) → option_map string_bytes found ≡ other_key test (table_view m)
other_of_keys test m found is = ap (option_map string_bytes) is ∙ entries_other test m.entries

-- The rows of a look grow by those of one number more; and the slots' rows are those of the rules in force.
use Rattle.std.proofs.Common.{◌≡◌, ℕ, ◌+◌, ◌-◌, ◌≤◌, length, map, get_or, List, [], ◌∷◌, ◌++◌, Option, Some, None, refl, sym, ap, ◌∙◌, append-nil}
use Rattle.std.specs.List.{cons_option, filter_map, flat_map, range_with_len}
use Rattle.std.proofs.lemmas.Grind.{flat_map-append}
use Rattle.std.proofs.lemmas.List.{map-id}
use Rattle.std.proofs.lemmas.List.Elements.{filter_map-append}
use Rattle.std.proofs.lemmas.List.FromFn.{map-range_with_len_more}
use Rattle.std.specs.Prelude.{option_map, option_to_list}
use Rattle.decision_journal.specs.declared.entries.Entry.{Entry}
use Rattle.site_core.specs.Limits.{ConfigValue}
use Rattle.site_core.specs.SightRooms.{slot_row}
use Rattle.site_core.specs.Sights.{rule_row, unpaid_at, unpaid_row}
use Rattle.site_core.specs.State.{SiteState}
use Rattle.fuelling_point.specs.Table.{PointState}
use Rattle.site_core.specs.SiteInvariant.{Agrees}
use Rattle.site_core.specs.SlotsValue.{SlotsValue, Version}
use Rattle.site_core.proofs.Points.{at_number-read}

one_more : (a n j : ℕ) → a + n ≡ j → range_with_len a (n + 1) ≡ range_with_len a n ++ j ∷ []
one_more a n j e =
    sym (map-id (range_with_len a (n + 1)))
    ∙ map-range_with_len_more (λ k. k) a n j e
    ∙ ap (λ l. l ++ j ∷ []) (map-id (range_with_len a n))

pub flat_more : {A : Type 0} (f : ℕ → List A) (a n j : ℕ) → a + n ≡ j
    → flat_map f (range_with_len a (n + 1)) ≡ flat_map f (range_with_len a n) ++ f j
flat_more f a n j e =
    ap (flat_map f) (one_more a n j e)
    ∙ flat_map-append f (range_with_len a n) (j ∷ [])
    ∙ ap (λ l. flat_map f (range_with_len a n) ++ l) (append-nil (f j))

alone : {A : Type 0} (o : Option A) → cons_option o [] ≡ option_to_list o
alone None = refl
alone (Some x) = refl

pub filter_more : {A : Type 0} (f : ℕ → Option A) (a n j : ℕ) → a + n ≡ j
    → filter_map f (range_with_len a (n + 1)) ≡ filter_map f (range_with_len a n) ++ option_to_list (f j)
filter_more f a n j e =
    ap (filter_map f) (one_more a n j e)
    ∙ filter_map-append f (range_with_len a n) (j ∷ [])
    ∙ ap (λ l. filter_map f (range_with_len a n) ++ l) (alone (f j))

-- Slots that agree with a history have the rows of its rules in force.
pub rules_agree : (config : ConfigValue) (slots : SlotsValue) (past : List Entry) → Agrees config slots past
    → filter_map (slot_row slots) (range_with_len 0 16) ≡ filter_map (rule_row config past) (range_with_len 0 16)
rules_agree config slots past a =
    sym (λ i. filter_map (λ (slot : ℕ). option_map (λ (v : Version). slot ∷ v.number ∷ a.since slot i ∷ []) (a.in_force slot i)) (range_with_len 0 16))

-- The rows of a point that there is are those of its unpaid transactions.
pub unpaid_of : (s : SiteState) (n : ℕ) (p : PointState) → 1 ≤ n → n ≤ length s.points → p ≡ get_or s.points (n - 1) p
    → unpaid_at s n ≡ map (unpaid_row n) p.unpaid
unpaid_of s n p one le is =
    ap (λ (o : Option PointState). elim o as (λ _. List (List ℕ)) [ None ↦ [] | Some q ↦ map (unpaid_row n) q.unpaid ])
    (at_number-read s.points n p one le is)

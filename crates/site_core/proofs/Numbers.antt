-- No two slots have versions with the same number, and this stays true when a version is loaded.
use Rattle.std.proofs.Common.{◌≡◌, ℕ, zero, suc, ◌+◌, ◌<◌, ◌≤◌, List, [], ◌∷◌, map, set, get_or, Option, Some, None, true, false}
use Rattle.std.proofs.Common.{refl, sym, ◌∙◌, subst, arith, Bool}
use Rattle.std.specs.Prelude.{◌==◌, ◌↔◌, IsTrue, if◌then◌else◌, slice_index_or, length, All}
use Rattle.std.specs.List.{range_with_len, IsDistinct}
use Rattle.std.proofs.lemmas.Bool.Decides.{nat_tests}
use Rattle.bpf_model.specs.Program.{ProgramText}
use Rattle.decision_journal.specs.declared.entries.Entry.{Entry}
use Rattle.site_core.specs.Slots.{IsRule}
use Rattle.site_core.specs.SlotsValue.{Version}
use Rattle.site_core.specs.Opening.{OpeningValue, IsOpening, IsNewNumber, HaveOwnNumbers}
use Rattle.site_core.specs.Limits.{ConfigValue, IsConfig}
use Rattle.site_core.specs.History.{in_force, loaded, opening_rule, versions, versions_before}

-- ---- if no two slots have versions with the same number, this stays true when a version with a new number comes in

pub own_head : (v : Version) (rest : List (Option Version)) → HaveOwnNumbers (Some v ∷ rest) → IsNewNumber rest v.number
unfolding IsDistinct
own_head v rest h = h.0

pub own_tail : (v : Version) (rest : List (Option Version)) → HaveOwnNumbers (Some v ∷ rest) → HaveOwnNumbers rest
unfolding IsDistinct
own_tail v rest h = h.1

pub own_cons : (v : Version) (rest : List (Option Version)) → IsNewNumber rest v.number → HaveOwnNumbers rest → HaveOwnNumbers (Some v ∷ rest)
unfolding IsDistinct
own_cons v rest new h = (new, h)

pub own_none : HaveOwnNumbers []
unfolding IsDistinct
own_none = tt

-- What `have_own_numbers` must return for the slots `rules`:
-- - `own_end`: true, if there are no slots.
-- - `own_both`: the same as for the later slots, if the first slot has a version whose number no later slot has.
-- - `own_not`: false, if the first slot has a version whose number a later slot has too.
pub own_end : (rules : List (Option Version)) → rules ≡ [] → IsTrue true ↔ HaveOwnNumbers rules
own_end rules is = (λ _. subst HaveOwnNumbers (sym is) own_none, λ _. refl)

pub own_both : (v : Version) (rest rules : List (Option Version)) (b : Bool) → rules ≡ Some v ∷ rest → IsNewNumber rest v.number
    → IsTrue b ↔ HaveOwnNumbers rest → IsTrue b ↔ HaveOwnNumbers rules
own_both v rest rules b is new h =
    (λ yes. subst HaveOwnNumbers (sym is) (own_cons v rest new (h.0 yes)), λ own. h.1 (own_tail v rest (subst HaveOwnNumbers is own)))

pub own_not : (v : Version) (rest rules : List (Option Version)) (b : Bool) → rules ≡ Some v ∷ rest → b ≡ false → IsTrue b ↔ IsNewNumber rest v.number
    → IsTrue b ↔ HaveOwnNumbers rules
own_not v rest rules b is off h =
    (λ yes. absurd (let e : true ≡ false = sym yes ∙ off in cc), λ own. h.1 (own_head v rest (subst HaveOwnNumbers is own)))

pub flipped : (a b : ℕ) → (a == b) ≡ false → (b == a) ≡ false
flipped a b h = grind (arith, nat_tests, h)

new_set : (rules : List (Option Version)) (slot : ℕ) (v : Version) (n : ℕ) → IsNewNumber rules n → (n == v.number) ≡ false → IsNewNumber (set rules slot (Some v)) n
new_set [] zero v n h e = h
new_set [] (suc k) v n h e = h
new_set (None ∷ rest) zero v n h e = (e, h)
new_set (Some w ∷ rest) zero v n h e = (e, h.1)
new_set (None ∷ rest) (suc k) v n h e = new_set rest k v n h e
new_set (Some w ∷ rest) (suc k) v n h e = (h.0, new_set rest k v n h.1 e)

-- If no two slots have versions with the same number, then this stays true when a version with a new number is put into
-- a slot.
pub own_set : (rules : List (Option Version)) (slot : ℕ) (v : Version) → HaveOwnNumbers rules → IsNewNumber rules v.number
    → HaveOwnNumbers (set rules slot (Some v))
own_set [] zero v h new = h
own_set [] (suc k) v h new = h
own_set (None ∷ rest) zero v h new = own_cons v rest new h
own_set (Some w ∷ rest) zero v h new = own_cons v rest new.1 (own_tail w rest h)
own_set (None ∷ rest) (suc k) v h new = own_set rest k v h new
own_set (Some w ∷ rest) (suc k) v h new =
    own_cons w (set rest k (Some v)) (new_set rest k v w.number (own_head w rest h) (flipped v.number w.number new.0))
    (own_set rest k v (own_tail w rest h) new.1)

-- ---- if no two slots have versions with the same number, any two slots `Differ`, and conversely

-- The two slots don't have versions with the same number.
abbrev pub Differ : Option Version → Option Version → Type 0
Differ None y = Unit {0}
Differ (Some v) None = Unit {0}
Differ (Some v) (Some w) = (v.number == w.number) ≡ false

new_more : (v : Version) (y : Option Version) (rules : List (Option Version)) → Differ (Some v) y → IsNewNumber rules v.number → IsNewNumber (y ∷ rules) v.number
new_more v None rules d h = h
new_more v (Some w) rules d h = (d, h)

new_range : (f : ℕ → Option Version) (v : Version) (a n : ℕ) → ((j : ℕ) → a ≤ j → Differ (Some v) (f j)) → IsNewNumber (map f (range_with_len a n)) v.number
new_range f v a zero h = tt
new_range f v a (suc n) h =
    new_more v (f a) (map f (range_with_len (a + 1) n)) (h a (omega arith)) (new_range f v (a + 1) n (λ j le. h j (omega arith)))

own_more : (x : Option Version) (rules : List (Option Version)) → ((v : Version) → x ≡ Some v → IsNewNumber rules v.number) → HaveOwnNumbers rules
    → HaveOwnNumbers (x ∷ rules)
own_more None rules new h = h
own_more (Some v) rules new h = own_cons v rules (new v refl) h

own_range : (f : ℕ → Option Version) (a n : ℕ) → ((i j : ℕ) → i < j → Differ (f i) (f j)) → HaveOwnNumbers (map f (range_with_len a n))
own_range f a zero h = own_none
own_range f a (suc n) h =
    own_more (f a) (map f (range_with_len (a + 1) n))
    (λ v is. new_range f v (a + 1) n (λ j le. subst (λ x. Differ x (f j)) is (h a j (omega arith)))) (own_range f (a + 1) n h)

new_at : (v : Version) (rules : List (Option Version)) (j : ℕ) → IsNewNumber rules v.number → Differ (Some v) (get_or rules j None)
new_at v [] j h = tt
new_at v (None ∷ rest) zero h = tt
new_at v (Some w ∷ rest) zero h = h.0
new_at v (None ∷ rest) (suc j) h = new_at v rest j h
new_at v (Some w ∷ rest) (suc j) h = new_at v rest j h.1

own_at : (rules : List (Option Version)) (i j : ℕ) → i < j → HaveOwnNumbers rules → Differ (get_or rules i None) (get_or rules j None)
own_at [] i j lt h = tt
own_at (x ∷ rest) i zero lt h = absurd (omega (arith, lt))
own_at (None ∷ rest) zero (suc j) lt h = tt
own_at (Some v ∷ rest) zero (suc j) lt h = new_at v rest j (own_head v rest h)
own_at (None ∷ rest) (suc i) (suc j) lt h = own_at rest i j (omega (arith, lt)) h
own_at (Some v ∷ rest) (suc i) (suc j) lt h = own_at rest i j (omega (arith, lt)) (own_tail v rest h)

-- ---- the versions in force in different slots have different numbers

-- The slot is empty, or the number of its version is at most n.
abbrev pub IsUpTo : ℕ → Option Version → Type 0
IsUpTo n None = Unit {0}
IsUpTo n (Some v) = v.number ≤ n

up_to-more : (n : ℕ) (x : Option Version) → IsUpTo n x → IsUpTo (n + 1) x
up_to-more n None h = tt
up_to-more n (Some v) h = omega (arith, h)

-- The version in force in a slot after a load. If b is true, the load is into this slot: the version is the loaded
-- program with the number n + 1. Otherwise it is the older version.
abbrev pub taken : Bool → ℕ → ProgramText → Option Version → Option Version
taken b n program older = if b then Some (record { number = n + 1; program = program }) else older

taken-up_to : (b : Bool) (n : ℕ) (program : ProgramText) (x : Option Version) → IsUpTo n x → IsUpTo (n + 1) (taken b n program x)
taken-up_to true n program x h = omega arith
taken-up_to false n program x h = up_to-more n x h

above : (n k : ℕ) → k ≤ n → (n + 1 == k) ≡ false
above n k h = grind (arith, nat_tests, h)

new-first : (n : ℕ) (program : ProgramText) (x : Option Version) → IsUpTo n x → Differ (Some (record { number = n + 1; program = program })) x
new-first n program None h = tt
new-first n program (Some v) h = above n v.number h

new-last : (n : ℕ) (program : ProgramText) (x : Option Version) → IsUpTo n x → Differ x (Some (record { number = n + 1; program = program }))
new-last n program None h = tt
new-last n program (Some v) h = flipped (n + 1) v.number (above n v.number h)

taken-differ : (a b : Bool) (n : ℕ) (program : ProgramText) (x y : Option Version) → (a ≡ true → b ≡ true → ⊥) → IsUpTo n x → IsUpTo n y → Differ x y
    → Differ (taken a n program x) (taken b n program y)
taken-differ true true n program x y apart up on d = absurd (apart refl refl)
taken-differ true false n program x y apart up on d = new-first n program y on
taken-differ false true n program x y apart up on d = new-last n program x up
taken-differ false false n program x y apart up on d = d

-- The version in force in a slot after one more entry. Before this entry n versions were loaded. If the entry loaded a
-- program into this slot, the version is this program with the number n + 1. Otherwise it is the older version.
abbrev pub newest : ℕ → ℕ → Option Version → Option (ℕ × ProgramText) → Option Version
newest slot n older None = older
newest slot n older (Some l) = taken (l.0 == slot) n l.1 older

abbrev pub counted : ℕ → Option (ℕ × ProgramText) → ℕ
counted n None = n
counted n (Some l) = n + 1

newest-up_to : (slot before n : ℕ) (older : Option Version) (l : Option (ℕ × ProgramText)) → IsUpTo (before + n) older
    → IsUpTo (before + counted n l) (newest slot (before + n) older l)
newest-up_to slot before n older None h = h
newest-up_to slot before n older (Some l) h =
    let more : before + n + 1 ≡ before + (n + 1) = omega arith in
    subst (λ k. IsUpTo k (newest slot (before + n) older (Some l))) more (taken-up_to (l.0 == slot) (before + n) l.1 older h)

one-slot : (s i j : ℕ) → i < j → (s == i) ≡ true → (s == j) ≡ true → ⊥
one-slot s i j lt a b = grind (arith, nat_tests, lt, a, b)

newest-differ : (i j n : ℕ) (x y : Option Version) (l : Option (ℕ × ProgramText)) → i < j → IsUpTo n x → IsUpTo n y → Differ x y
    → Differ (newest i n x l) (newest j n y l)
newest-differ i j n x y None lt up on d = d
newest-differ i j n x y (Some l) lt up on d = taken-differ (l.0 == i) (l.0 == j) n l.1 x y (one-slot l.0 i j lt) up on d

rule-up_to : (n : ℕ) (rule : Option Version) → IsRule n rule → IsUpTo n rule
rule-up_to n None h = tt
rule-up_to n (Some v) h = h.1

-- Let each slot of a list be empty, or have a version that can be one of the first n (`IsRule n`). Then at each place,
-- also past the list's end, there is no version, or one whose number is at most n (`IsUpTo n`).
at_or_none : (n : ℕ) (rules : List (Option Version)) (slot : ℕ) → All (IsRule n) rules → IsUpTo n (get_or rules slot None)
at_or_none n [] slot all = tt
at_or_none n (x ∷ rest) zero all = rule-up_to n x (all 0 None (omega arith))
at_or_none n (x ∷ rest) (suc k) all = at_or_none n rest k (λ j d lt. all (suc j) d (omega (arith, lt)))

opening-up_to : (o : Option OpeningValue) (count : ℕ) (slot : ℕ) → ((x : OpeningValue) → o ≡ Some x → IsOpening count x)
    → IsUpTo (elim o as (λ _. ℕ) [ None ↦ 0 | Some x ↦ x.versions ]) (elim o as (λ _. Option Version) [ None ↦ None | Some x ↦ slice_index_or x.rules slot None ])
opening-up_to None count slot good = tt
opening-up_to (Some x) count slot good = at_or_none x.versions x.rules slot (good x refl).rules

opening-differ : (o : Option OpeningValue) (count : ℕ) (i j : ℕ) → i < j → ((x : OpeningValue) → o ≡ Some x → IsOpening count x)
    → Differ (elim o as (λ _. Option Version) [ None ↦ None | Some x ↦ slice_index_or x.rules i None ])
    (elim o as (λ _. Option Version) [ None ↦ None | Some x ↦ slice_index_or x.rules j None ])
opening-differ None count i j lt good = tt
opening-differ (Some x) count i j lt good = own_at x.rules i j lt (good x refl).distinct

-- The number of a version in force is at most the count of all versions.
pub in_force-up_to : (config : ConfigValue) → IsConfig config → (slot : ℕ) (past : List Entry)
    → IsUpTo (versions_before config + versions past) (in_force config slot past)
in_force-up_to config good slot [] =
    let first : versions_before config ≡ versions_before config + 0 = omega arith in
    subst (λ n. IsUpTo n (opening_rule config slot)) first (opening-up_to config.opening (length config.points) slot good.opening)
in_force-up_to config good slot (e ∷ past) =
    newest-up_to slot (versions_before config) (versions past) (in_force config slot past) (loaded e.act e.reply) (in_force-up_to config good slot past)

-- The versions in force in two different slots don't have the same number.
pub in_force-differ : (config : ConfigValue) → IsConfig config → (i j : ℕ) → i < j → (past : List Entry)
    → Differ (in_force config i past) (in_force config j past)
in_force-differ config good i j lt [] = opening-differ config.opening (length config.points) i j lt good.opening
in_force-differ config good i j lt (e ∷ past) =
    newest-differ i j (versions_before config + versions past) (in_force config i past) (in_force config j past) (loaded e.act e.reply) lt
    (in_force-up_to config good i past) (in_force-up_to config good j past) (in_force-differ config good i j lt past)

-- No two of the 16 slots that a site leaves for the next day have versions with the same number.
pub own_in_force : (config : ConfigValue) → IsConfig config → (past : List Entry) → HaveOwnNumbers (map (λ slot. in_force config slot past) (range_with_len 0 16))
own_in_force config good past = own_range (λ slot. in_force config slot past) 0 16 (λ i j lt. in_force-differ config good i j lt past)

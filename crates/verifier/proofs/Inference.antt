-- If two facts are the same, as `IsSame` defines, then an instruction has the same effect or the same flaw whichever of
-- the two is known before it, and the joins of the two with another fact are the same.
use Rattle.std.proofs.Common.{◌≡◌, ℕ, zero, suc, ◌-◌, ◌⊎◌, ◌↔◌, List, [], ◌∷◌, Option, Some, None, Bool, true, false, refl, sym, ap, ◌∙◌, subst, inl, inr}
use Rattle.std.proofs.Common.{arith, length}
use Rattle.std.specs.Prelude.{Result, Ok, Err, ℤ, ◌==◌, ◌&&◌, cond, drop, slice_index_or}
use Rattle.std.proofs.lemmas.Bool.{and_parts, and_from}
use Rattle.std.proofs.lemmas.List.{ext_get_or}
use Rattle.bpf_model.specs.declared.instruction.Inst.{Inst}
use Rattle.bpf_model.specs.declared.instruction.Unit.{Unit as ProgramUnit}
use Rattle.bpf_model.specs.declared.instruction.Form.{Form}
use Rattle.bpf_model.specs.declared.instruction.Form.TheVariants.{Load, LoadSigned}
use Rattle.bpf_model.specs.Reading.{bytes_in}
use Rattle.bpf_model.specs.Machine.{shifted}
use Rattle.verifier.specs.Places.{Has, Within}
use Rattle.verifier.specs.declared.types.LoadOptions.{LoadOptions}
use Rattle.bpf_model.specs.declared.context.Layout.{Layout}
use Rattle.verifier.specs.declared.types.RegType.{RegType}
use Rattle.verifier.specs.declared.types.RegType.TheVariants.{Unset, Num, Const, Ctx, Stk}
use Rattle.verifier.specs.declared.types.Fact.{Fact}
use Rattle.verifier.specs.Effects.{Effect}
use Rattle.verifier.specs.declared.types.Flaw.{Flaw}
use Rattle.verifier.specs.declared.types.Flaw.TheVariants.{FallsOff, UnsetBytes}
use Rattle.verifier.specs.Rules.{type_at, join_type, all_in, load_type, number_set, lowest, set_type, reload_type, reload_or, spill_of, is_unset, effect, falls_off}
use Rattle.verifier.specs.Rules.{checked_effect}
use Rattle.verifier.specs.Facts.{HasAfter, IsAfter, IsEntry}
use Rattle.verifier.specs.Inference.{successor_units, common, marked, cleared, join_types, join_spills, respilled, set_after, join_fact, entry_fact, fact_after}
use Rattle.verifier.specs.Inference.{instruction_at, ruled, flaw_in, flaw_of, flaw_under, taken_in, arrived, arrived_all, passed_by, passed_from, passed}
use Rattle.verifier.specs.Operations.{upper_of}
use Rattle.verifier.specs.Passing.{IsSame, AreSame}

-- ---- these lemmas say which places are in the sets that `common`, `marked`, `cleared` and `set_after` give

pub common_has : (a b : List Bool) (p : ℕ) → Has (common a b) p ↔ (Has a p × Has b p)
common_has [] b p = (λ h. absurd (cc), λ h. h.0)
common_has (x ∷ a) [] p = (λ h. absurd (cc), λ h. h.1)
common_has (x ∷ a) (y ∷ b) zero = (λ h. and_parts x y h, λ h. and_from x y h.0 h.1)
common_has (x ∷ a) (y ∷ b) (suc p) = common_has a b p

dropped : (set : List Bool) (p : ℕ) → slice_index_or (drop 1 set) p false ≡ slice_index_or set (suc p) false
dropped [] zero = refl
dropped [] (suc p) = refl
dropped (b ∷ set) p = refl

past_one : (b : Bool) (xs : List Bool) (set : List Bool) (at len p : ℕ) → (Has xs p ↔ (Has (drop 1 set) p ⊎ Within at len p))
    → Has (b ∷ xs) (suc p) ↔ (Has set (suc p) ⊎ Within (suc at) len (suc p))
past_one b xs set at len p h = (
  λ has. elim (h.0 has) [ inl old ↦ inl (sym (dropped set p) ∙ old) | inr w ↦ inr (omega (arith, w.0), omega (arith, w.1)) ],
  λ e. elim e [ inl old ↦ h.1 (inl (dropped set p ∙ old)) | inr w ↦ h.1 (inr (omega (arith, w.0), omega (arith, w.1))) ],
)

past_none : (xs : List Bool) (set : List Bool) (len p : ℕ) → (Has xs p ↔ (Has (drop 1 set) p ⊎ Within 0 len p))
    → Has (true ∷ xs) (suc p) ↔ (Has set (suc p) ⊎ Within 0 (suc len) (suc p))
past_none xs set len p h = (
  λ has. elim (h.0 has) [ inl old ↦ inl (sym (dropped set p) ∙ old) | inr w ↦ inr (omega arith, omega (arith, w.1)) ],
  λ e. elim e [ inl old ↦ h.1 (inl (dropped set p ∙ old)) | inr w ↦ h.1 (inr (omega arith, omega (arith, w.1))) ],
)

lowest_has : (set : List Bool) (xs : List Bool) (at len : ℕ) → Has (slice_index_or set 0 false ∷ xs) zero ↔ (Has set zero ⊎ Within (suc at) len zero)
lowest_has set xs at len = (λ has. inl has, λ e. elim e [ inl old ↦ old | inr w ↦ absurd (omega (arith, w.0)) ])

pub marked_has : (at len : ℕ) (set : List Bool) (p : ℕ) → Has (marked at len set) p ↔ (Has set p ⊎ Within at len p)
marked_has zero zero set p = (λ has. inl has, λ e. elim e [ inl old ↦ old | inr w ↦ absurd (omega (arith, w.1)) ])
marked_has zero (suc len) set zero = (λ has. inr (omega arith, omega arith), λ e. refl)
marked_has zero (suc len) set (suc p) = past_none (marked zero len (drop 1 set)) set len p (marked_has zero len (drop 1 set) p)
marked_has (suc at) len set zero = lowest_has set (marked at len (drop 1 set)) at len
marked_has (suc at) len set (suc p) = past_one (slice_index_or set 0 false) (marked at len (drop 1 set)) set at len p (marked_has at len (drop 1 set) p)

apart_one : (b : Bool) (xs : List Bool) (set : List Bool) (at len p : ℕ) → (Has xs p ↔ (Has (drop 1 set) p × ¬ (Within at len p)))
    → Has (b ∷ xs) (suc p) ↔ (Has set (suc p) × ¬ (Within (suc at) len (suc p)))
apart_one b xs set at len p h = (
  λ has. let x = h.0 has in (sym (dropped set p) ∙ x.0, λ w. x.1 (omega (arith, w.0), omega (arith, w.1))),
  λ e. h.1 (dropped set p ∙ e.0, λ w. e.1 (omega (arith, w.0), omega (arith, w.1))),
)

apart_none : (xs : List Bool) (set : List Bool) (len p : ℕ) → (Has xs p ↔ (Has (drop 1 set) p × ¬ (Within 0 len p)))
    → Has (false ∷ xs) (suc p) ↔ (Has set (suc p) × ¬ (Within 0 (suc len) (suc p)))
apart_none xs set len p h = (
  λ has. let x = h.0 has in (sym (dropped set p) ∙ x.0, λ w. x.1 (omega arith, omega (arith, w.1))),
  λ e. h.1 (dropped set p ∙ e.0, λ w. e.1 (omega arith, omega (arith, w.1))),
)

pub cleared_has : (at len : ℕ) (set : List Bool) (p : ℕ) → Has (cleared at len set) p ↔ (Has set p × ¬ (Within at len p))
cleared_has zero zero set p = (λ has. (has, λ w. omega (arith, w.1)), λ e. e.0)
cleared_has zero (suc len) set zero = (λ has. absurd (cc), λ e. absurd (e.1 (omega arith, omega arith)))
cleared_has zero (suc len) set (suc p) = apart_none (cleared zero len (drop 1 set)) set len p (cleared_has zero len (drop 1 set) p)
cleared_has (suc at) len set zero = (λ has. (has, λ w. omega (arith, w.0)), λ e. e.0)
cleared_has (suc at) len set (suc p) = apart_one (slice_index_or set 0 false) (cleared at len (drop 1 set)) set at len p (cleared_has at len (drop 1 set) p)

-- `HasAfter` is true of a place p exactly if p is in the set to which the `len` places from `at` on were added (if b is
-- true) or from which they were removed (if b is false)
after_if : (b : Bool) (at len : ℕ) (set : List Bool) (p : ℕ) → Has (cond b (marked at len set) (cleared at len set)) p ↔ HasAfter b set at len p
after_if true at len set p = marked_has at len set p
after_if false at len set p = cleared_has at len set p

pub after_has : (e : Effect) (set : List Bool) (p : ℕ) → Has (set_after e set) p ↔ HasAfter (is_unset e.spilled) set e.at e.len p
after_has e set p = after_if (is_unset e.spilled) e.at e.len set p

has_after_same : (b : Bool) (at len p : ℕ) (x y : List Bool) → (Has x p ↔ Has y p) → HasAfter b x at len p → HasAfter b y at len p
has_after_same true at len p x y f h = elim h [ inl old ↦ inl (f.0 old) | inr w ↦ inr w ]
has_after_same false at len p x y f h = (f.0 h.0, h.1)

-- ---- the type of a register in the join of two lists of types is the join of its types in both

nothing_joined : (t : RegType) → join_type t Unset ≡ Unset
nothing_joined Unset = refl
nothing_joined Num = refl
nothing_joined (Const c) = refl
nothing_joined (Ctx k) = refl
nothing_joined (Stk k) = refl

pub type_at-joined : (a b : List RegType) (r : ℕ) → type_at (join_types a b) r ≡ join_type (type_at a r) (type_at b r)
type_at-joined [] b r = refl
type_at-joined (x ∷ a) [] r = sym (nothing_joined (type_at (x ∷ a) r))
type_at-joined (x ∷ a) (y ∷ b) zero = refl
type_at-joined (x ∷ a) (y ∷ b) (suc r) = type_at-joined a b r

length-joined : (a b : List RegType) → length a ≡ length b → length (join_types a b) ≡ length b
length-joined [] [] e = refl
length-joined [] (y ∷ b) e = absurd (omega (arith, e))
length-joined (x ∷ a) [] e = absurd (omega (arith, e))
length-joined (x ∷ a) (y ∷ b) e = ap suc (length-joined a b (omega (arith, e)))

pub joined_types : (a b j : List RegType) → length a ≡ length b → length j ≡ length b → ((r : ℕ) → type_at j r ≡ join_type (type_at a r) (type_at b r))
    → j ≡ join_types a b
joined_types a b j la lj e =
    ext_get_or Unset j (join_types a b) (lj ∙ sym (length-joined a b la)) (λ r l. e r ∙ sym (type_at-joined a b r))

-- ---- if two facts are the same (`IsSame`), so are their joins with the same fact, and the facts after the same effect

pub IsSame-refl : (a : Fact) → IsSame a a
IsSame-refl a = record { types = refl; places = λ p. (λ h. h, λ h. h); spills = refl }

pub IsSame-trans : (a b c : Fact) → IsSame a b → IsSame b c → IsSame a c
IsSame-trans a b c f g =
    record {
      types = f.types ∙ g.types;
      places = λ p. (λ h. (g.places p).0 ((f.places p).0 h), λ h. (f.places p).1 ((g.places p).1 h));
      spills = f.spills ∙ g.spills;
    }

pub AreSame-refl : (a : Option Fact) → AreSame a a
AreSame-refl None = tt
AreSame-refl (Some a) = IsSame-refl a

pub AreSame-trans : (a b c : Option Fact) → AreSame a b → AreSame b c → AreSame a c
AreSame-trans None None None f g = tt
AreSame-trans None None (Some c) f g = absurd g
AreSame-trans None (Some b) c f g = absurd f
AreSame-trans (Some a) None c f g = absurd f
AreSame-trans (Some a) (Some b) None f g = absurd g
AreSame-trans (Some a) (Some b) (Some c) f g = IsSame-trans a b c f g

join_same : (a b c d : Fact) → IsSame a b → IsSame c d → IsSame (join_fact a c) (join_fact b d)
join_same a b c d f g =
    record {
      types = ap (λ t. join_types t c.types) f.types ∙ ap (join_types b.types) g.types;
      places =
          λ p. (
            λ h. let both = (common_has a.stack c.stack p).0 h in (common_has b.stack d.stack p).1 ((f.places p).0 both.0, (g.places p).0 both.1),
            λ h. let both = (common_has b.stack d.stack p).0 h in (common_has a.stack c.stack p).1 ((f.places p).1 both.0, (g.places p).1 both.1),
          );
      spills = ap (λ n. join_spills n c.spills) f.spills ∙ ap (join_spills b.spills) g.spills;
    }

taken_same : (a b : Option Fact) (c d : Fact) → AreSame a b → IsSame c d → IsSame (taken_in a c) (taken_in b d)
taken_same None None c d f g = g
taken_same None (Some b) c d f g = absurd f
taken_same (Some a) None c d f g = absurd f
taken_same (Some a) (Some b) c d f g = join_same a b c d f g

arrived_by : (t : Bool) (a b : Option Fact) (c d : Fact) → AreSame a b → IsSame c d → AreSame (cond t (Some (taken_in a c)) a) (cond t (Some (taken_in b d)) b)
arrived_by true a b c d f g = taken_same a b c d f g
arrived_by false a b c d f g = f

pub arrived_same : (q to : ℕ) (a b : Option Fact) (c d : Fact) → AreSame a b → IsSame c d → AreSame (arrived q c to a) (arrived q d to b)
arrived_same q to a b c d f g = arrived_by (q == to) a b c d f g

pub arrived_all_same : (q : ℕ) (tos : List ℕ) (a b : Option Fact) (c d : Fact) → AreSame a b → IsSame c d
    → AreSame (arrived_all q c tos a) (arrived_all q d tos b)
arrived_all_same q [] a b c d f g = f
arrived_all_same q (to ∷ tos) a b c d f g = arrived_all_same q tos (arrived q c to a) (arrived q d to b) c d (arrived_same q to a b c d f g) g

pub after_same : (a b : Fact) (e : Effect) → IsSame a b → IsSame (fact_after a e) (fact_after b e)
after_same a b e f =
    record {
      types = refl;
      places =
          λ p. (
            λ h. (after_has e b.stack p).1 (has_after_same (is_unset e.spilled) e.at e.len p a.stack b.stack (f.places p) ((after_has e a.stack p).0 h)),
            λ h. (after_has e a.stack p).1 (has_after_same (is_unset e.spilled) e.at e.len p b.stack a.stack ((f.places p).1, (f.places p).0)
                ((after_has e b.stack p).0 h)),
          );
      spills = ap (respilled (spill_of e.spilled) e.at e.len 0) f.spills;
    }

-- if `after` is the fact after an instruction with effect e, before which `fact` is known (`IsAfter`), then it is the
-- same as the fact that `fact_after` gives
pub same_after : (fact : Fact) (e : Effect) (after : Fact) → IsAfter fact e after → IsSame after (fact_after fact e)
same_after fact e after is =
    record {
      types = is.types;
      places = λ p. (λ h. (after_has e fact.stack p).1 ((is.places p).0 h), λ h. (is.places p).1 ((after_has e fact.stack p).0 h));
      spills = is.spills;
    }

pub after_is : (fact : Fact) (e : Effect) → IsAfter fact e (fact_after fact e)
after_is fact e = record { types = refl; places = λ p. after_has e fact.stack p; spills = refl }

pub same_entry : (fact : Fact) → IsEntry fact → IsSame fact entry_fact
same_entry fact is = record { types = is.types; places = λ p. (λ h. absurd (is.places p h), λ h. absurd (cc)); spills = is.spills }

pub entry_is : IsEntry entry_fact
entry_is = record { types = refl; places = λ p h. absurd (cc); spills = refl }

pub same_join : (a b j : Fact) → length a.types ≡ length b.types → length j.types ≡ length b.types
    → ((r : ℕ) → type_at j.types r ≡ join_type (type_at a.types r) (type_at b.types r)) → ((p : ℕ) → Has j.stack p ↔ (Has a.stack p × Has b.stack p))
    → j.spills ≡ join_spills a.spills b.spills → IsSame j (join_fact a b)
same_join a b j la lj e h n =
    record {
      types = joined_types a.types b.types j.types la lj e;
      places = λ p. (λ has. (common_has a.stack b.stack p).1 ((h p).0 has), λ has. (h p).1 ((common_has a.stack b.stack p).0 has));
      spills = n;
    }

-- ---- the typing rules give the same effect or flaw for two facts that are the same (`IsSame`)

same_bit : (a b : Bool) → ((a ≡ true) ↔ (b ≡ true)) → a ≡ b
same_bit true true h = refl
same_bit false false h = refl
same_bit true false h = absurd (let e = h.0 refl in cc)
same_bit false true h = absurd (let e = h.1 refl in cc)

all_in_same : (a b : List Bool) → ((p : ℕ) → Has a p ↔ Has b p) → (at n : ℕ) → all_in a at n ≡ all_in b at n
all_in_same a b h at zero = refl
all_in_same a b h at (suc n) =
    ap (λ t. t && all_in a (suc at) n) (same_bit (slice_index_or a at false) (slice_index_or b at false) (h at))
    ∙ ap (λ t. slice_index_or b at false && t) (all_in_same a b h (suc at) n)

number_same : (a b : List Bool) → ((p : ℕ) → Has a p ↔ Has b p) → (size : ℕ) (o : Option ℕ) → number_set a size o ≡ number_set b size o
number_same a b h size None = refl
number_same a b h size (Some at) = ap (λ t. cond t (Ok Num) (Err UnsetBytes)) (all_in_same a b h at size)

load_same : (layout : Layout) (a b : List Bool) → ((p : ℕ) → Has a p ↔ Has b p) → (base : RegType) (i : Inst) (size : ℕ)
    → load_type layout a base i size ≡ load_type layout b base i size
load_same layout a b h Unset i size = refl
load_same layout a b h Num i size = refl
load_same layout a b h (Const c) i size = refl
load_same layout a b h (Ctx k) i size = refl
load_same layout a b h (Stk k) i size = number_same a b h size (shifted (lowest k) i.offset (512 - size))

set_same : (options : LoadOptions) (types : List RegType) (a b : List Bool) (spills : List ℕ) → ((p : ℕ) → Has a p ↔ Has b p) → (i : Inst) (upper : ℤ) (form : Form)
    → effect options (record { types = types; stack = a; spills = spills }) i upper form ≡ effect options (record {
      types = types;
      stack = b;
      spills = spills;
    }) i upper form
set_same options types a b spills h i upper (Load size) = ap (λ r. set_type types i.dst (reload_or (reload_type spills (type_at types i.src) i (bytes_in size)) r))
    (load_same options.layout a b h (type_at types i.src) i (bytes_in size))
set_same options types a b spills h i upper (LoadSigned size) = ap (set_type types i.dst) (load_same options.layout a b h (type_at types i.src) i (bytes_in size))
set_same options types a b spills h i upper form = refl

effect_same : (options : LoadOptions) (a b : Fact) → IsSame a b → (i : Inst) (upper : ℤ) (form : Form) → effect options a i upper form ≡ effect options b i upper form
effect_same options a b f i upper form =
    set_same options a.types a.stack b.stack a.spills f.places i upper form
    ∙ ap (λ types. effect options (record { types = types; stack = b.stack; spills = a.spills }) i upper form) f.types
    ∙ ap (λ spills. effect options (record { types = b.types; stack = b.stack; spills = spills }) i upper form) f.spills

pub judged_same : (count pc : ℕ) (options : LoadOptions) (a b : Fact) → IsSame a b → (i : Inst) (upper : ℤ) (form : Form)
    → checked_effect count pc options a i upper form ≡ checked_effect count pc options b i upper form
judged_same count pc options a b f i upper form = ap (λ r. cond (falls_off count pc form) (Err FallsOff) r) (effect_same options a b f i upper form)

-- ---- the verifier's pass does the same at a unit for two facts that are the same (`IsSame`)

passed_by_same : (q : ℕ) (a b : Fact) (r : Result Effect Flaw) (tos : Option (List ℕ)) (x y : Option Fact) → IsSame a b → AreSame x y
    → AreSame (passed_by q a r tos x) (passed_by q b r tos y)
passed_by_same q a b (Err flaw) tos x y f g = g
passed_by_same q a b (Ok e) None x y f g = g
passed_by_same q a b (Ok e) (Some tos) x y f g = arrived_all_same q tos x y (fact_after a e) (fact_after b e) g (after_same a b e f)

module _ (us : List ProgramUnit) (options : LoadOptions) (pc : ℕ) where
  ruled_same : (a b : Fact) → IsSame a b → (x : Inst × Form) → ruled us options pc a x ≡ ruled us options pc b x
  ruled_same a b f x = judged_same (length us) pc options a b f x.0 (upper_of us pc) x.1

  passed_from_same : (a b : Fact) (o : Option (Inst × Form)) (q : ℕ) (x y : Option Fact) → IsSame a b → AreSame x y
      → AreSame (passed_from us options pc a o q x) (passed_from us options pc b o q y)
  passed_from_same a b None q x y f g = g
  passed_from_same a b (Some i) q x y f g =
      subst (λ r. AreSame (passed_by q a (ruled us options pc a i) (successor_units pc i.0 i.1) x) (passed_by q b r (successor_units pc i.0 i.1) y)) (ruled_same a b f i)
      (passed_by_same q a b (ruled us options pc a i) (successor_units pc i.0 i.1) x y f g)

  pub passed_same : (a b : Option Fact) (q : ℕ) (x y : Option Fact) → AreSame a b → AreSame x y → AreSame (passed us options pc a q x) (passed us options pc b q y)
  passed_same None None q x y f g = g
  passed_same None (Some b) q x y f g = absurd f
  passed_same (Some a) None q x y f g = absurd f
  passed_same (Some a) (Some b) q x y f g = passed_from_same a b (instruction_at us pc) q x y f g

  flaw_of_same : (a b : Fact) (o : Option (Inst × Form)) → IsSame a b → flaw_of us options pc a o ≡ flaw_of us options pc b o
  flaw_of_same a b None f = refl
  flaw_of_same a b (Some i) f = ap (flaw_in pc) (ruled_same a b f i)

  pub flaw_same : (a b : Option Fact) → AreSame a b → flaw_under us options pc a ≡ flaw_under us options pc b
  flaw_same None None f = refl
  flaw_same None (Some b) f = absurd f
  flaw_same (Some a) None f = absurd f
  flaw_same (Some a) (Some b) f = flaw_of_same a b (instruction_at us pc) f

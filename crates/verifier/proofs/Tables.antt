-- The order of facts: a fact is below another if each state that fits it also fits the other (`IsBelow`). Each of two
-- facts is below their join. The code joins the register types of two facts register by register.
use Rattle.std.proofs.Common.{◌≡◌, ◌≢◌, ℕ, ◌+◌, ◌<◌, ◌≤◌, List, Bool, true, false, refl, sym, ap, ◌∙◌, subst, inl, inr, arith, length}
use Rattle.std.specs.Prelude.{◌==◌, ◌*◌, cond, slice_set, slice_index}
use Rattle.std.specs.Ordering.{int_eq}
use Rattle.std.proofs.lemmas.Bool.{cases_lt, cases_eq, eqb-true}
use Rattle.std.proofs.lemmas.Bool.Decides.{Decides-int_eq}
use Rattle.std.proofs.lemmas.List.{get_or-set_other, get_or-set_same, get_or_past}
use Rattle.bpf_model.specs.declared.machine.Value.{Value}
use Rattle.bpf_model.specs.declared.machine.Value.TheVariants.{Unset, Number, Context, Stack}
use Rattle.bpf_model.specs.declared.machine.Cell.{Cell}
use Rattle.bpf_model.specs.Machine.{register}
use Rattle.verifier.specs.Places.{Has}
use Rattle.verifier.specs.declared.types.RegType.{RegType}
use Rattle.verifier.specs.declared.types.RegType.TheVariants.{Unset as Anything, Num, Const, Ctx, Stk}
use Rattle.verifier.specs.declared.types.Fact.{Fact}
use Rattle.verifier.specs.Rules.{type_at, join_type, spilled_type}
use Rattle.verifier.specs.Facts.{FitsType, FitsSpill, IsBelow}
use Rattle.verifier.specs.Inference.{join_spills}
use Rattle.verifier.proofs.Keeping.{joined_spill, no_spill_fits}

-- ---- `IsBelow` is reflexive and transitive; each value that fits one of two types also fits their join

pub IsBelow-refl : (a : Fact) → IsBelow a a
IsBelow-refl a = record { weakens = λ s f. f }

pub IsBelow-trans : (a b c : Fact) → IsBelow a b → IsBelow b c → IsBelow a c
IsBelow-trans a b c f g = record { weakens = λ s h. g.weakens s (f.weakens s h) }

const_left : (b : Bool) (c : ℕ) (v : Value) → FitsType (Const c) v → FitsType (cond b (Const c) Num) v
const_left true c v h = h
const_left false c (Number n) h = tt
const_left false c Unset h = absurd h
const_left false c (Context n) h = absurd h
const_left false c (Stack n) h = absurd h

kept_left : (b : Bool) (t : RegType) (v : Value) → FitsType t v → FitsType (cond b t Anything) v
kept_left true t v h = h
kept_left false t v h = tt

number_above : (c : ℕ) (v : Value) → FitsType (Const c) v → FitsType Num v
number_above c (Number n) h = tt
number_above c Unset h = absurd h
number_above c (Context n) h = absurd h
number_above c (Stack n) h = absurd h

pub join_left : (a b : RegType) (v : Value) → FitsType a v → FitsType (join_type a b) v
join_left Num Num v h = h
join_left Num (Const d) v h = h
join_left (Const c) Num v h = number_above c v h
join_left (Const c) (Const d) v h = const_left (c == d) c v h
join_left (Ctx k) (Ctx m) v h = kept_left (k == m) (Ctx k) v h
join_left (Stk k) (Stk m) v h = kept_left (int_eq k m) (Stk k) v h
join_left a b v h = tt

const_right : (b : Bool) (c d : ℕ) (v : Value) → (b ≡ true → c ≡ d) → FitsType (Const d) v → FitsType (cond b (Const c) Num) v
const_right true c d v e h = subst (λ x. FitsType (Const x) v) (sym (e refl)) h
const_right false c d v e h = number_above d v h

kept_right : (b : Bool) (t u : RegType) (v : Value) → (b ≡ true → t ≡ u) → FitsType u v → FitsType (cond b t Anything) v
kept_right true t u v e h = subst (λ x. FitsType x v) (sym (e refl)) h
kept_right false t u v e h = tt

pub join_right : (a b : RegType) (v : Value) → FitsType b v → FitsType (join_type a b) v
join_right Num Num v h = h
join_right Num (Const d) v h = number_above d v h
join_right (Const c) Num v h = h
join_right (Const c) (Const d) v h = const_right (c == d) c d v (eqb-true c d) h
join_right (Ctx k) (Ctx m) v h = kept_right (k == m) (Ctx k) (Ctx m) v (λ e. ap Ctx (eqb-true k m e)) h
join_right (Stk k) (Stk m) v h = kept_right (int_eq k m) (Stk k) (Stk m) v (λ e. ap Stk ((Decides-int_eq k m).0 e)) h
join_right a b v h = tt

-- if spill k of the first of two facts fits the stack, then spill k of their join fits it too
spills_left : (a b j : List ℕ) (stack : List Cell) (k : ℕ) → j ≡ join_spills a b → FitsSpill (spilled_type (slice_index a k)) stack (8 * k)
    → FitsSpill (spilled_type (slice_index j k)) stack (8 * k)
spills_left a b j stack k e h =
    subst (λ ns. FitsSpill (spilled_type (slice_index ns k)) stack (8 * k)) (sym e) (elim (joined_spill a b k) [
      | inl same ↦ subst (λ m. FitsSpill (spilled_type m) stack (8 * k)) (sym same.0) h
      | inr none ↦ no_spill_fits (slice_index (join_spills a b) k) stack (8 * k) none
    ])

spills_right : (a b j : List ℕ) (stack : List Cell) (k : ℕ) → j ≡ join_spills a b → FitsSpill (spilled_type (slice_index b k)) stack (8 * k)
    → FitsSpill (spilled_type (slice_index j k)) stack (8 * k)
spills_right a b j stack k e h =
    subst (λ ns. FitsSpill (spilled_type (slice_index ns k)) stack (8 * k)) (sym e) (elim (joined_spill a b k) [
      | inl same ↦ subst (λ m. FitsSpill (spilled_type m) stack (8 * k)) (sym same.1) h
      | inr none ↦ no_spill_fits (slice_index (join_spills a b) k) stack (8 * k) none
    ])

-- each state that fits fact `a` also fits fact j, if the register types and the spills of j are the joins of those of
-- `a` and b, and no stack byte is set in j that isn't set in `a`
pub below_left : (a b j : Fact) → ((r : ℕ) → type_at j.types r ≡ join_type (type_at a.types r) (type_at b.types r)) → ((p : ℕ) → Has j.stack p → Has a.stack p)
    → j.spills ≡ join_spills a.spills b.spills → IsBelow a j
below_left a b j e h n =
    record {
      weakens =
          λ s f. record {
            registers = λ r. subst
                (λ t. FitsType t (register s.registers r)) (sym (e r))
                (join_left (type_at a.types r) (type_at b.types r) (register s.registers r) (f.registers r));
            many = f.many;
            stack = record { bytes = λ p has. f.stack.bytes p (h p has) };
            long = f.long;
            spills = λ k. spills_left a.spills b.spills j.spills s.stack k n (f.spills k);
          };
    }

pub below_right : (a b j : Fact) → ((r : ℕ) → type_at j.types r ≡ join_type (type_at a.types r) (type_at b.types r)) → ((p : ℕ) → Has j.stack p → Has b.stack p)
    → j.spills ≡ join_spills a.spills b.spills → IsBelow b j
below_right a b j e h n =
    record {
      weakens =
          λ s f. record {
            registers = λ r. subst
                (λ t. FitsType t (register s.registers r)) (sym (e r))
                (join_right (type_at a.types r) (type_at b.types r) (register s.registers r) (f.registers r));
            many = f.many;
            stack = record { bytes = λ p has. f.stack.bytes p (h p has) };
            long = f.long;
            spills = λ k. spills_right a.spills b.spills j.spills s.stack k n (f.spills k);
          };
    }

-- One step of the loop that joins the types of `a` and `b`. If in `ts` the types of the registers below r are joined,
-- then those of the registers below r + 1 are joined after the type of register r was set to the join of its types in
-- `a` and `b`.
pub join_step : (ts a b : List RegType) (r : ℕ) (v : RegType) → r < length ts → v ≡ join_type (type_at a r) (type_at b r)
    → ((k : ℕ) → k < r → type_at ts k ≡ join_type (type_at a k) (type_at b k)) → (k : ℕ) → k < r + 1
    → type_at (slice_set ts r v) k ≡ join_type (type_at a k) (type_at b k)
join_step ts a b r v l e below k h =
    elim (cases_eq k r) [
      | inl at ↦ subst (λ q. type_at (slice_set ts r v) q ≡ join_type (type_at a q) (type_at b q)) (sym at) (get_or-set_same ts r v Anything l ∙ e)
      | inr other ↦ get_or-set_other ts r k v Anything other ∙ below k (omega arith)
    ]

pub others_step : (ts a : List RegType) (r : ℕ) (v : RegType) → ((k : ℕ) → r ≤ k → type_at ts k ≡ type_at a k) → (k : ℕ) → r + 1 ≤ k
    → type_at (slice_set ts r v) k ≡ type_at a k
others_step ts a r v above k h = let other : k ≢ r = omega arith in get_or-set_other ts r k v Anything other ∙ above k (omega arith)

pub joined_all : (a b j : List RegType) (n : ℕ) → length a ≡ 11 → length b ≡ 11 → length j ≡ 11 → 11 ≤ n
    → ((k : ℕ) → k < n → type_at j k ≡ join_type (type_at a k) (type_at b k)) → (k : ℕ) → type_at j k ≡ join_type (type_at a k) (type_at b k)
joined_all a b j n la lb lj le h k =
    elim (cases_lt k n) [
      | inl l ↦ h k l
      | inr g ↦ let pa : length a ≤ k = omega arith in let pb : length b ≤ k = omega arith in let pj : length j ≤ k = omega arith in get_or_past j k Anything pj
          ∙ sym (ap (λ t. join_type t (type_at b k)) (get_or_past a k Anything pa) ∙ ap (join_type Anything) (get_or_past b k Anything pb))
    ]

-- Lemmas on the first jump with a fault, and on where jumps go if none has a fault.
use Rattle.std.proofs.Common.{◌≡◌, ℕ, zero, suc, ◌+◌, ◌<◌, ◌≤◌, ◌⊎◌, List, [], ◌∷◌, Option, Some, None, refl, sym, ap, ◌∙◌, subst, inl, inr, arith, add-one}
use Rattle.std.proofs.Common.{length}
use Rattle.std.specs.Prelude.{slice_get, ℤ, pos, negsuc, IfSome}
use Rattle.std.proofs.lemmas.Bool.{cases_lt}
use Rattle.std.proofs.lemmas.Bool.Decides.{nat_tests}
use Rattle.bpf_model.specs.declared.instruction.Unit.{Unit as ProgramUnit}
use Rattle.bpf_model.specs.declared.instruction.Unit.TheVariants.{First, Second}
use Rattle.bpf_model.specs.declared.instruction.JumpFault.{JumpFault}
use Rattle.bpf_model.specs.declared.instruction.JumpFault.TheVariants.{Backward, Out, IntoWide}
use Rattle.bpf_model.specs.Machine.{and_then, shifted}
use Rattle.bpf_model.specs.Flow.{distance_at, distance_fault, landing_fault, jump_fault, or_first, flow_fault_below, flow_fault, target, IsAhead, GoesForward}
use Rattle.verifier.specs.FlowFaults.{IsFirstFlowFault, numbered}

below_suc : (p m : ℕ) → p < suc m → (p ≡ m) ⊎ (p < m)
below_suc p m h = elim (cases_lt p m) [ inl l ↦ inr l | inr g ↦ inl (omega arith) ]

-- if no jump before unit pc has a fault, and the jump at unit pc has the fault f, then for each n above pc, f at pc is
-- the first fault among the first n units
pub fault_stays : (us : List ProgramUnit) (pc n : ℕ) (f : JumpFault) → pc < n → flow_fault_below us pc ≡ None → jump_fault us pc ≡ Some f
    → flow_fault_below us n ≡ Some (pc, f)
fault_stays us pc zero f lt a b = absurd (omega arith)
fault_stays us pc (suc m) f lt a b =
    elim (below_suc pc m lt) [
      | inl e ↦ subst (λ k. or_first (flow_fault_below us k) k (jump_fault us k) ≡ Some (pc, f)) e (ap (λ o. or_first o pc (jump_fault us pc)) a
          ∙ ap (or_first None pc) b)
      | inr h ↦ ap (λ o. or_first o m (jump_fault us m)) (fault_stays us pc m f h a b)
    ]

pub sound_more : (us : List ProgramUnit) (pc : ℕ) → flow_fault_below us pc ≡ None → jump_fault us pc ≡ None → flow_fault_below us (pc + 1) ≡ None
sound_more us pc a b = rw (add-one pc) (ap (λ o. or_first o pc (jump_fault us pc)) a ∙ ap (or_first None pc) b)

pub shown : (us : List ProgramUnit) (pc : ℕ) (f : JumpFault) → flow_fault us ≡ Some (pc, f) → IsFirstFlowFault us (numbered f pc)
shown us pc Backward h = h
shown us pc Out h = h
shown us pc IntoWide h = h

or_none : (o : Option (ℕ × JumpFault)) (m : ℕ) (f : Option JumpFault) → or_first o m f ≡ None → (o ≡ None) × (f ≡ None)
or_none None m None e = (refl, refl)
or_none None m (Some f) e = absurd (cc)
or_none (Some x) m f e = absurd (cc)

no_fault : (us : List ProgramUnit) (n pc : ℕ) → pc < n → flow_fault_below us n ≡ None → jump_fault us pc ≡ None
no_fault us zero pc lt e = absurd (omega arith)
no_fault us (suc m) pc lt e =
    let h = or_none (flow_fault_below us m) m (jump_fault us m) e in
    elim (below_suc pc m lt) [ inl same ↦ subst (λ k. jump_fault us k ≡ None) (sym same) h.1 | inr l ↦ no_fault us m pc l h.0 ]

get_inside : {A : Type 0} (xs : List A) (k : ℕ) (x : A) → slice_get xs k ≡ Some x → k < length xs
get_inside [] k x e = absurd (cc)
get_inside (y ∷ ys) zero x e = omega arith
get_inside (y ∷ ys) (suc k) x e = let h = get_inside ys k x e in omega arith

distance_inside : (us : List ProgramUnit) (pc : ℕ) (o : Option ProgramUnit) (z : ℤ) → slice_get us pc ≡ o → distance_at us pc ≡ Some z → pc < length us
distance_inside us pc None z e d = absurd (cc)
distance_inside us pc (Some u) z e d = get_inside us pc u e

-- if `landing_fault` finds nothing wrong with a jump to unit `to`, then an instruction begins at unit `to`
lands : (us : List ProgramUnit) (to : ℕ) (o : Option ProgramUnit) → slice_get us to ≡ o → landing_fault o ≡ None → (i : _) × (slice_get us to ≡ Some (First i))
lands us to None e h = absurd (cc)
lands us to (Some (First i)) e h = (i, e)
lands us to (Some (Second v)) e h = absurd (cc)

reaches : (k n : ℕ) → k + n ≤ 512 → shifted k (pos n) 512 ≡ Some (k + n)
reaches k n l = grind (arith, nat_tests)

goes : (us : List ProgramUnit) (pc : ℕ) (z : ℤ) → length us ≤ 512 → distance_fault us pc (Some z) ≡ None
    → (to : ℕ) × (shifted (pc + 1) z 512 ≡ Some to) × IsAhead us pc to
goes us pc (negsuc n) small e = absurd (cc)
goes us pc (pos n) small e =
    let at = lands us (pc + 1 + n) (slice_get us (pc + 1 + n)) refl e in
    let inside : pc + 1 + n < length us = get_inside us (pc + 1 + n) (First at.0) at.1 in
    (pc + 1 + n, reaches (pc + 1) n (omega arith), record { ahead = omega arith; inside = inside; first = at })

-- if there are at most 512 units, and no jump has a fault, each jump goes forward to the first unit of an instruction
pub goes_forward : (us : List ProgramUnit) → length us ≤ 512 → flow_fault us ≡ None → GoesForward us
goes_forward us small e =
    record {
      jumps =
          λ pc z d. let inside = distance_inside us pc (slice_get us pc) z refl d in
          goes us pc z small (ap (distance_fault us pc) (sym d) ∙ no_fault us (length us) pc inside e);
    }

some_same : (a b : ℕ) → Some a ≡ Some b → a ≡ b
some_same a b e = cc

target_by : (us : List ProgramUnit) (pc to : ℕ) (o : Option ℤ) → GoesForward us → distance_at us pc ≡ o → and_then o (λ z. shifted (pc + 1) z 512) ≡ Some to
    → IsAhead us pc to
target_by us pc to None h e t = absurd (cc)
target_by us pc to (Some z) h e t =
    let j = h.jumps pc z e in
    subst (IsAhead us pc) (some_same j.0 to (sym j.1 ∙ t)) j.2

-- if all jumps go forward, then the target of the jump at unit pc is a later unit at which an instruction begins
pub target_ahead : (us : List ProgramUnit) (pc : ℕ) (o : Option ℕ) → GoesForward us → o ≡ target us pc → IfSome o (λ to. IsAhead us pc to)
target_ahead us pc None h e = tt
target_ahead us pc (Some to) h e = target_by us pc to (distance_at us pc) h refl (sym e)

-- For the loop of `decode`: as long as no unit has a fault, the units decoded so far are the first units of the bytes.
-- The first fault that the loop finds is the first fault of all units.
use Rattle.std.proofs.Common.{◌≡◌, ℕ, zero, suc, ◌+◌, ◌<◌, ◌≤◌, ◌⊎◌, List, [], ◌∷◌, ◌++◌, Option, Some, None, Bool, true, refl, sym, ap, ◌∙◌, subst, inl, inr, arith, add-one}
use Rattle.std.specs.Prelude.{◌/◌, ◌%◌, length, is_none, not, ◌&&◌}
use Rattle.std.proofs.lemmas.Bool.Decides.{nat_tests}
use Rattle.std.proofs.lemmas.Bool.{cases_lt}
use Rattle.bpf_model.specs.declared.instruction.Unit.{Unit as ProgramUnit}
use Rattle.bpf_model.specs.declared.instruction.UnitFault.{UnitFault}
use Rattle.bpf_model.specs.declared.instruction.UnitFault.TheVariants.{Opcode, Field, Register, HalfWide}
use Rattle.bpf_model.specs.Reading.{unit_fault, fault_below, or_at, unit_at, units_below, begins, opcode_at, is_wide, form_of, has_valid_length, units}
use Rattle.bpf_model.proofs.Reading.{some_where, both_true, none_is, length_of_units, count_of_units}
use Rattle.bpf_model.specs.DecodeFaults.{HasValidFirstUnit, IsFirstFault, IsRefusedFor, numbered}

below_suc : (p m : ℕ) → p < suc m → (p ≡ m) ⊎ (p < m)
below_suc p m h = elim (cases_lt p m) [ inl l ↦ inr l | inr g ↦ inl (omega arith) ]

-- if unit pc is the first with a fault, it is also the first such unit among the first n, for each n above pc
pub fault_stays : (bytes : List ℕ) (pc n : ℕ) (f : UnitFault) → pc < n → fault_below bytes pc ≡ None → unit_fault bytes pc ≡ Some f
    → fault_below bytes n ≡ Some (pc, f)
fault_stays bytes pc zero f lt a b = absurd (omega arith)
fault_stays bytes pc (suc m) f lt a b =
    elim (below_suc pc m lt) [
      | inl e ↦ subst (λ k. or_at (fault_below bytes k) k (unit_fault bytes k) ≡ Some (pc, f)) e
          (ap (λ o. or_at o pc (unit_fault bytes pc)) a ∙ ap (or_at None pc) b)
      | inr h ↦ ap (λ o. or_at o m (unit_fault bytes m)) (fault_stays bytes pc m f h a b)
    ]

pub refused : (bytes : List ℕ) (pc : ℕ) (f : UnitFault) → IsFirstFault bytes pc f → IsRefusedFor bytes (numbered f pc)
refused bytes pc Opcode h = h
refused bytes pc Field h = h
refused bytes pc Register h = h
refused bytes pc HalfWide h = h

pub right_length : (bytes : List ℕ) → length bytes % 8 ≡ 0 → 8 ≤ length bytes → length bytes ≤ 4096 → has_valid_length bytes ≡ true
right_length bytes a b d = grind (arith, nat_tests)

pub units_more : (bytes : List ℕ) (pc : ℕ) (us : List ProgramUnit) → us ≡ units_below bytes pc → us ++ unit_at bytes pc ∷ [] ≡ units_below bytes (pc + 1)
units_more bytes pc us e = rw (add-one pc) (ap (λ l. l ++ unit_at bytes pc ∷ []) e)

pub sound_more : (bytes : List ℕ) (pc : ℕ) → fault_below bytes pc ≡ None → unit_fault bytes pc ≡ None → fault_below bytes (pc + 1) ≡ None
sound_more bytes pc a b = rw (add-one pc) (ap (λ o. or_at o pc (unit_fault bytes pc)) a ∙ ap (or_at None pc) b)

none_here : (pc : ℕ) (o : Option UnitFault) → or_at None pc o ≡ None → o ≡ None
none_here pc None h = refl
none_here pc (Some f) h = absurd (cc)

none_before : (o : Option (ℕ × UnitFault)) (pc : ℕ) (here : Option UnitFault) → or_at o pc here ≡ None → o ≡ None
none_before None pc here h = refl
none_before (Some f) pc here h = absurd (cc)

-- if none of the first n + 1 units has a fault, then the first one has none
pub first_sound : (bytes : List ℕ) (n : ℕ) → fault_below bytes (suc n) ≡ None → unit_fault bytes 0 ≡ None
first_sound bytes zero h = none_here 0 (unit_fault bytes 0) h
first_sound bytes (suc m) h = first_sound bytes m (none_before (fault_below bytes (suc m)) (suc m) (unit_fault bytes (suc m)) h)

pub begins_more : (bytes : List ℕ) (pc : ℕ) (first wide : Bool) → first ≡ begins bytes pc → wide ≡ (first && is_wide (form_of (opcode_at bytes pc)))
    → not wide ≡ begins bytes (pc + 1)
begins_more bytes pc first wide a b = rw (add-one pc) (ap not (b ∙ ap (λ f. f && is_wide (form_of (opcode_at bytes pc))) a))

first_of : (bytes : List ℕ) (n : ℕ) → 0 < n → fault_below bytes n ≡ None → unit_fault bytes 0 ≡ None
first_of bytes zero some h = absurd (omega arith)
first_of bytes (suc m) some h = first_sound bytes m h

-- if bytes are decoded as units, their length is valid and their first unit has no fault
pub begun : (bytes : List ℕ) (us : List ProgramUnit) → units bytes ≡ Some us → HasValidFirstUnit bytes
begun bytes us e =
    let n = length bytes / 8 in
    let right = some_where (has_valid_length bytes && is_none (fault_below bytes n)) (units_below bytes n) us e in
    let both = both_true (has_valid_length bytes) (is_none (fault_below bytes n)) right.0 in
    let some = subst (λ k. 0 < k) (length_of_units bytes us e) (count_of_units bytes us e).0 in
    record { right_length = both.0; first = first_of bytes n some (none_is (fault_below bytes n) both.1) }

pub all_units : (bytes : List ℕ) (us : List ProgramUnit) → has_valid_length bytes ≡ true → fault_below bytes (length bytes / 8) ≡ None
    → us ≡ units_below bytes (length bytes / 8) → units bytes ≡ Some us
all_units bytes us a b e = simp (a, b) (ap Some (sym e))

-- If all jumps go forward to instructions, and a run can't fall off the program's end right after an instruction, then
-- this instruction leads only to later units, and an instruction begins at each of these.
use Rattle.std.proofs.Common.{◌≡◌, ℕ, zero, suc, ◌+◌, ◌<◌, ◌≤◌, List, [], ◌∷◌, Some, Bool, true, false, refl, sym, ap, ◌∙◌, arith, add-one, length}
use Rattle.std.specs.Prelude.{ℤ, ◌&&◌, not, nat_le, cond, slice_get, IsSome, is_some}
use Rattle.std.specs.List.{AllByRecursion}
use Rattle.std.proofs.lemmas.Bool.Decides.{nat_tests}
use Rattle.std.proofs.lemmas.Option.{slice_get_within}
use Rattle.bpf_model.specs.declared.instruction.Inst.{Inst}
use Rattle.bpf_model.specs.declared.instruction.Unit.{Unit as ProgramUnit}
use Rattle.bpf_model.specs.declared.instruction.Unit.TheVariants.{First, Second}
use Rattle.bpf_model.specs.declared.instruction.Form.{Form}
use Rattle.bpf_model.specs.declared.instruction.Form.TheVariants.{Arithmetic, Wide, Load, LoadSigned, StoreImmediate, StoreRegister, Ja, Ja32, Branch}
use Rattle.bpf_model.specs.declared.instruction.Form.TheVariants.{Call, Exit}
use Rattle.bpf_model.specs.Reading.{form_of, units, begins, fields_at, imm_at, opcode_at, is_wide}
use Rattle.bpf_model.specs.Machine.{and_then}
use Rattle.bpf_model.specs.Flow.{IsAhead, GoesForward, distance_at, distance_of, distance_by}
use Rattle.bpf_model.proofs.Reading.{units_at, inst_at, small_registers, count_of_units}
use Rattle.verifier.specs.Rules.{falls_off}
use Rattle.verifier.specs.Inference.{successor_units, option_cons}

first_unit : (b : Bool) (i j : Inst) (v : ℤ) → cond b (First i) (Second v) ≡ First j → (b ≡ true) × (i ≡ j)
first_unit true i j v e = (refl, cc)
first_unit false i j v e = absurd (cc)

get_inside : (us : List ProgramUnit) (pc : ℕ) → pc < length us → (u : ProgramUnit) × (slice_get us pc ≡ Some u)
get_inside [] pc l = absurd (omega arith)
get_inside (u ∷ us) zero l = (u, refl)
get_inside (u ∷ us) (suc pc) l = get_inside us pc (omega arith)

-- Let `us` be the units that the bytes are decoded as, and let unit pc be one of them. If the bytes say that an
-- instruction begins there (`begins`), then unit pc of `us` is the first unit of an instruction.
begins_first : (bytes : List ℕ) (us : List ProgramUnit) (pc : ℕ) → units bytes ≡ Some us → begins bytes pc ≡ true → pc < length us
    → (i : Inst) × (slice_get us pc ≡ Some (First i))
begins_first bytes us pc reads b l =
    let x = get_inside us pc l in
    let u = units_at bytes us pc x.0 reads x.1 in
    let is : First (fields_at bytes pc) ≡ x.0 = sym (ap (λ t. cond t (First (fields_at bytes pc)) (Second (imm_at bytes pc))) b) ∙ u.is in
    (fields_at bytes pc, x.1 ∙ ap Some (sym is))

module _ (bytes : List ℕ) (us : List ProgramUnit) (reads : units bytes ≡ Some us) (pc : ℕ) (i : Inst) (at : slice_get us pc ≡ Some (First i)) where
  here : (begins bytes pc ≡ true) × (fields_at bytes pc ≡ i)
  here = let u = units_at bytes us pc (First i) reads at in first_unit (begins bytes pc) (fields_at bytes pc) i (imm_at bytes pc) u.is

  wide_next : is_wide (form_of (opcode_at bytes pc)) ≡ is_wide (form_of i.opcode)
  wide_next = ap (λ j. is_wide (form_of j.opcode)) here.1

  next_begins : (form : Form) → form_of i.opcode ≡ Some form → is_wide (Some form) ≡ false → begins bytes (pc + 1) ≡ true
  next_begins form is narrow =
      ap (begins bytes) (add-one pc) ∙ ap (λ b. not (b && is_wide (form_of (opcode_at bytes pc)))) here.0 ∙ ap not (wide_next ∙ ap is_wide is ∙ narrow)

  second_begins : form_of i.opcode ≡ Some Wide → begins bytes (pc + 2) ≡ true
  second_begins is =
      let two : pc + 2 ≡ suc (suc pc) = omega arith in
      let inside : begins bytes (suc pc) ≡ false = ap (λ b. not (b && is_wide (form_of (opcode_at bytes pc)))) here.0 ∙ ap not (wide_next ∙ ap is_wide is) in
      ap (begins bytes) two ∙ ap (λ b. not (b && is_wide (form_of (opcode_at bytes (suc pc))))) inside

  goes_next : (form : Form) → form_of i.opcode ≡ Some form → is_wide (Some form) ≡ false → nat_le (length us) (pc + 1) ≡ false → IsAhead us pc (pc + 1)
  goes_next form is narrow more =
      let l : pc + 1 < length us = grind (arith, nat_tests) in
      record { ahead = omega arith; inside = l; first = begins_first bytes us (pc + 1) reads (next_begins form is narrow) l }

  goes_over : form_of i.opcode ≡ Some Wide → nat_le (length us) (pc + 2) ≡ false → IsAhead us pc (pc + 2)
  goes_over is more =
      let l : pc + 2 < length us = grind (arith, nat_tests) in
      record { ahead = omega arith; inside = l; first = begins_first bytes us (pc + 2) reads (second_begins is) l }

  distance_is : (form : Form) (z : ℤ) → form_of i.opcode ≡ Some form → distance_by (Some form) i ≡ Some z → distance_at us pc ≡ Some z
  distance_is form z is h = ap (λ o. and_then o distance_of) at ∙ ap (λ o. distance_by o i) is ∙ h

  -- if all jumps go forward to instructions, and a run doesn't fall off the end of the program right after the
  -- instruction (`falls_off`), then the instruction leads only to later units at which instructions begin
  pub leads_ahead : GoesForward us → (form : Form) → form_of i.opcode ≡ Some form → falls_off (length us) pc form ≡ false
      → (tos : List ℕ) × (successor_units pc i form ≡ Some tos) × AllByRecursion (IsAhead us pc) tos
  leads_ahead f Exit is more = ([], refl, tt)
  leads_ahead f Ja is more =
      let j = f.jumps pc i.offset (distance_is Ja i.offset is refl) in
      (j.0 ∷ [], ap (λ o. option_cons o []) j.1, (j.2, tt))
  leads_ahead f Ja32 is more =
      let j = f.jumps pc i.imm (distance_is Ja32 i.imm is refl) in
      (j.0 ∷ [], ap (λ o. option_cons o []) j.1, (j.2, tt))
  leads_ahead f (Branch c w s) is more =
      let j = f.jumps pc i.offset (distance_is (Branch c w s) i.offset is refl) in
      (j.0 ∷ (pc + 1) ∷ [], ap (λ o. option_cons o ((pc + 1) ∷ [])) j.1, (j.2, (goes_next (Branch c w s) is refl more, tt)))
  leads_ahead f Wide is more = ((pc + 2) ∷ [], refl, (goes_over is more, tt))
  leads_ahead f (Arithmetic op w s) is more = ((pc + 1) ∷ [], refl, (goes_next (Arithmetic op w s) is refl more, tt))
  leads_ahead f (Load size) is more = ((pc + 1) ∷ [], refl, (goes_next (Load size) is refl more, tt))
  leads_ahead f (LoadSigned size) is more = ((pc + 1) ∷ [], refl, (goes_next (LoadSigned size) is refl more, tt))
  leads_ahead f (StoreImmediate size) is more = ((pc + 1) ∷ [], refl, (goes_next (StoreImmediate size) is refl more, tt))
  leads_ahead f (StoreRegister size) is more = ((pc + 1) ∷ [], refl, (goes_next (StoreRegister size) is refl more, tt))
  leads_ahead f Call is more = ((pc + 1) ∷ [], refl, (goes_next Call is refl more, tt))

-- What is true of each instruction of a program: its unit pc is below 512 and inside the program, its registers are 0
-- to 10, and its opcode has a form.
pub record IsThere (us : List ProgramUnit) (pc : ℕ) (i : Inst) : Type 0 where
  pub small : pc < 512
  pub inside : pc < length us
  pub dst : i.dst ≤ 10
  pub src : i.src ≤ 10
  pub form : IsSome (form_of i.opcode)

pub there : (bytes : List ℕ) (us : List ProgramUnit) (pc : ℕ) (i : Inst) → units bytes ≡ Some us → slice_get us pc ≡ Some (First i) → IsThere us pc i
there bytes us pc i reads at =
    let x = inst_at bytes us pc i reads at in
    let r = small_registers bytes pc i x.0 x.1 in
    let l = slice_get_within us pc (First i) at in
    let n = count_of_units bytes us reads in
    record { small = omega (arith, l, n.1); inside = l; dst = r.0; src = r.1; form = ap is_some x.1.form_is }

-- an instruction begins at the first unit
pub first_there : (bytes : List ℕ) (us : List ProgramUnit) → units bytes ≡ Some us → (i : Inst) × (slice_get us 0 ≡ Some (First i))
first_there bytes us reads = let n = count_of_units bytes us reads in begins_first bytes us 0 reads refl n.0

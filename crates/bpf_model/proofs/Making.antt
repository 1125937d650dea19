-- 1 to 512 units are a program (some bytes are decoded as these units) exactly if they are instructions without a
-- fault, each wide load followed by its second unit.
use Rattle.std.proofs.Common.{◌≡◌, ℕ, zero, suc, ◌+◌, ◌*◌, ◌<◌, ◌≤◌, List, [], ◌∷◌, ◌++◌, Option, Some, None, Bool, true, false, refl, sym, ap, ◌∙◌, subst}
use Rattle.std.proofs.Common.{arith, length, drop, append_assoc, w16, w32, FitsSigned}
use Rattle.std.specs.Prelude.{◌/◌, ◌%◌, ◌==◌, ◌&&◌, not, cond, slice_index, ℤ}
use Rattle.std.specs.Int.{cast_signed, cast_unsigned}
use Rattle.std.proofs.Math.Facts.{Fits-of_z, Fits-of_lt, sfits_to_z}
use Rattle.std.proofs.Common.{zero-add}
use Rattle.std.specs.Prelude.{slice_get}
use Rattle.bpf_model.proofs.Reading.{IsUnit, units_at, length_of_units}
use Rattle.std.proofs.lemmas.Int.{to_z-of_z}
use Rattle.std.proofs.lemmas.List.{drop-drop}
use Rattle.std.proofs.lemmas.Bool.Decides.{nat_tests}
use Rattle.byteorder.specs.Endian.{little_bytes, little_number}
use Rattle.bpf_model.specs.declared.instruction.Inst.{Inst}
use Rattle.bpf_model.specs.declared.instruction.Form.{Form}
use Rattle.bpf_model.specs.declared.instruction.Form.TheVariants.{Arithmetic, Wide, Load, LoadSigned, StoreImmediate, StoreRegister, Ja, Ja32, Branch}
use Rattle.bpf_model.specs.declared.instruction.Form.TheVariants.{Call, Exit}
use Rattle.bpf_model.specs.declared.instruction.Unit.{Unit as ProgramUnit}
use Rattle.bpf_model.specs.declared.instruction.Unit.TheVariants.{First, Second}
use Rattle.bpf_model.specs.declared.instruction.UnitFault.{UnitFault}
use Rattle.bpf_model.specs.declared.instruction.UnitFault.TheVariants.{Field, Register as BadRegister}
use Rattle.bpf_model.specs.Reading.{unit_at, units_below, unit_fault, fields_at, imm_at, begins, first_fault, second_fault, form_of, opcode_at, is_last}
use Rattle.bpf_model.specs.Reading.{fault_below, or_at, is_wide, half_wide, has_valid_fields, has_valid_registers}
use Rattle.bpf_model.specs.Encoded.{unit_bytes, encoded}
use Rattle.bpf_model.specs.DecodeFaults.{AreBytes, IsProgram}
use Rattle.bpf_model.specs.Making.{IsInstruction, AreUnits}
use Rattle.bpf_model.proofs.Decoding.{all_units, right_length}
use Rattle.bpf_model.proofs.Encoding.{at_drop}

-- ---- a number below 2^16 or 2^32 is equal to the number that its two or four bytes spell

two_bytes : (n : ℕ) → n < 65536 → n % 256 + 256 * (n / 256 % 256 + 256 * 0) ≡ n
two_bytes n h = omega arith

four_bytes : (n : ℕ) → n < 4294967296 → n % 256 + 256 * (n / 256 % 256 + 256 * (n / 65536 % 256 + 256 * (n / 16777216 % 256 + 256 * 0))) ≡ n
four_bytes n h = omega arith

small_offset : (z : ℤ) → FitsSigned w16 z → cast_unsigned w16 z < 65536
small_offset z h = let f = Fits-of_z {w = w16} {z = z} h in omega (arith, f)

small_imm : (z : ℤ) → FitsSigned w32 z → cast_unsigned w32 z < 4294967296
small_imm z h = let f = Fits-of_z {w = w32} {z = z} h in omega (arith, f)

-- ---- if the fields of a unit fit their bits, its encoded bytes are decoded as the same fields

module _ (bytes : List ℕ) (pc : ℕ) where
  index : (us : List ℕ) (k m : ℕ) → drop (8 * pc) bytes ≡ us → 8 * pc + k ≡ m → slice_index bytes m ≡ slice_index us k
  index us k m h e = sym (at_drop bytes (8 * pc) k m e) ∙ ap (λ l. slice_index l k) h

  later : (us : List ℕ) (n : ℕ) → drop (8 * pc) bytes ≡ us → drop (8 * pc + n) bytes ≡ drop n us
  later us n h = sym (drop-drop n (8 * pc) bytes) ∙ ap (drop n) h

  imm_is : (a b c d : ℕ) (v : ℤ) (rest : List ℕ) → FitsSigned w32 v → drop (8 * pc) bytes ≡ a ∷ b ∷ c ∷ d ∷ (little_bytes 4 (cast_unsigned w32 v) ++ rest)
      → imm_at bytes pc ≡ v
  imm_is a b c d v rest fits h =
      ap (λ l. cast_signed w32 (little_number 4 l)) (later _ 4 h)
      ∙ ap (cast_signed w32) (four_bytes (cast_unsigned w32 v) (small_imm v fits))
      ∙ to_z-of_z w32 v fits

  registers_low : (d s : ℕ) → d < 16 → s < 16 → (d % 16 + 16 * (s % 16)) % 16 ≡ d
  registers_low d s a b = omega arith

  registers_high : (d s : ℕ) → d < 16 → s < 16 → (d % 16 + 16 * (s % 16)) / 16 ≡ s
  registers_high d s a b = omega arith

  fields_is : (i : Inst) (rest : List ℕ) → IsInstruction i → drop (8 * pc) bytes ≡ unit_bytes (First i) ++ rest → fields_at bytes pc ≡ i
  fields_is i rest s h =
      let us = unit_bytes (First i) ++ rest in
      let op : slice_index bytes (8 * pc) ≡ i.opcode = index us 0 (8 * pc) h (omega arith) in
      let regs = index us 1 (8 * pc + 1) h refl in
      let dst : slice_index bytes (8 * pc + 1) % 16 ≡ i.dst = ap (λ x. x % 16) regs ∙ registers_low i.dst i.src s.dst s.src in
      let src : slice_index bytes (8 * pc + 1) / 16 ≡ i.src = ap (λ x. x / 16) regs ∙ registers_high i.dst i.src s.dst s.src in
      let offset : cast_signed w16 (little_number 2 (drop (8 * pc + 2) bytes)) ≡ i.offset =
      ap (λ l. cast_signed w16 (little_number 2 l)) (later us 2 h)
      ∙ ap (cast_signed w16) (two_bytes (cast_unsigned w16 i.offset) (small_offset i.offset s.offset))
      ∙ to_z-of_z w16 i.offset s.offset
      in
      let imm : imm_at bytes pc ≡ i.imm = imm_is _ _ _ _ i.imm rest s.imm h in
      λ j. record { opcode = op j; dst = dst j; src = src j; offset = offset j; imm = imm j }

  zero_bytes : (v : ℤ) (rest : List ℕ) → drop (8 * pc) bytes ≡ unit_bytes (Second v) ++ rest → second_fault bytes pc ≡ None
  zero_bytes v rest h = ap (λ l. cond (little_number 4 l == 0) None (Some Field)) h

-- ---- if units have no fault and each wide load has its second unit, their encoded bytes are decoded as these units

two_tests : (a b : Bool) (o : Option UnitFault) → cond (not a) (Some Field) (cond (not b) (Some BadRegister) o) ≡ None → (a ≡ true) × (b ≡ true) × (o ≡ None)
two_tests true true o e = (refl, refl, e)
two_tests true false o e = absurd (cc)
two_tests false b o e = absurd (cc)

not_half : (form : Form) → is_wide (Some form) ≡ false → half_wide form true ≡ None
not_half (Arithmetic op w s) e = refl
not_half Wide e = absurd (cc)
not_half (Load n) e = refl
not_half (LoadSigned n) e = refl
not_half (StoreImmediate n) e = refl
not_half (StoreRegister n) e = refl
not_half Ja e = refl
not_half Ja32 e = refl
not_half (Branch c w s) e = refl
not_half Call e = refl
not_half Exit e = refl

passes : (a b : Bool) (o : Option UnitFault) → a ≡ true → b ≡ true → o ≡ None → cond (not a) (Some Field) (cond (not b) (Some BadRegister) o) ≡ None
passes true true o e f g = g
passes true false o e f g = absurd (cc)
passes false b o e f g = absurd (cc)

-- if an instruction has no fault where a unit follows, it has none as the last unit either, unless it is a wide load
sound_at : (o : Option Form) (i : Inst) (last : Bool) → first_fault o i false ≡ None → (is_wide o ≡ true → last ≡ false) → first_fault o i last ≡ None
sound_at o i false e w = e
sound_at None i true e w = absurd (cc)
sound_at (Some form) i true e w =
    let h = two_tests (has_valid_fields form i) (has_valid_registers form i) (half_wide form false) e in
    let narrow : is_wide (Some form) ≡ false =
    elim (is_wide (Some form)) as (λ b. (b ≡ true → true ≡ false) → b ≡ false) [ true ↦ (λ f. f refl) | false ↦ (λ f. refl) ] w in
    passes (has_valid_fields form i) (has_valid_registers form i) (half_wide form true) h.0 h.1 (not_half form narrow)

some_next : (us : List ProgramUnit) → AreUnits false us → 0 < length us
some_next [] h = absurd h
some_next (u ∷ us) h = omega arith

more_units : (b : Bool) (us : List ProgramUnit) → b ≡ false → AreUnits b us → 0 < length us
more_units true us e h = absurd (cc)
more_units false us e h = some_next us h

module _ (bytes : List ℕ) (n : ℕ) (whole : length bytes ≡ 8 * n) where
  -- The first pc units of the bytes are decoded as `front`, without a fault. The bytes after them are what the units of
  -- `back` are encoded as. `first` says whether an instruction begins at unit pc.
  record Kept (pc : ℕ) (first : Bool) (front back : List ProgramUnit) : Type 0 where
    rest : drop (8 * pc) bytes ≡ encoded back
    place : begins bytes pc ≡ first
    sound : fault_below bytes pc ≡ None
    read : units_below bytes pc ≡ front

  eight_more : (pc : ℕ) → 8 * suc pc ≡ 8 * pc + 8
  eight_more pc = omega arith

  next_units : (pc : ℕ) (u : ProgramUnit) (us : List ProgramUnit) → drop (8 * pc) bytes ≡ encoded (u ∷ us) → drop (8 * suc pc) bytes ≡ encoded us
  next_units pc (First i) us h = ap (λ k. drop k bytes) (eight_more pc) ∙ later bytes pc (unit_bytes (First i) ++ encoded us) 8 h
  next_units pc (Second v) us h = ap (λ k. drop k bytes) (eight_more pc) ∙ later bytes pc (unit_bytes (Second v) ++ encoded us) 8 h

  one_more : (pc : ℕ) (first next : Bool) (front us : List ProgramUnit) (u : ProgramUnit) → Kept pc first front (u ∷ us) → unit_fault bytes pc ≡ None
      → unit_at bytes pc ≡ u → not (first && is_wide (form_of (opcode_at bytes pc))) ≡ next → Kept (suc pc) next (front ++ u ∷ []) us
  one_more pc first next front us u k sound is wide =
      record {
        rest = next_units pc u us k.rest;
        place = ap (λ b. not (b && is_wide (form_of (opcode_at bytes pc)))) k.place ∙ wide;
        sound = ap (λ o. or_at o pc (unit_fault bytes pc)) k.sound ∙ ap (or_at None pc) sound;
        read = ap (λ l. l ++ unit_at bytes pc ∷ []) k.read ∙ ap (λ x. front ++ x ∷ []) is;
      }

  not_last : (pc : ℕ) → pc + 2 ≤ n → is_last bytes pc ≡ false
  not_last pc l = let e : length bytes / 8 ≡ n = omega (arith, whole) in grind (arith, nat_tests)

  module _ (pc : ℕ) (i : Inst) (front us : List ProgramUnit) (k : Kept pc true front (First i ∷ us)) (s : IsInstruction i) where
    fields : fields_at bytes pc ≡ i
    fields = fields_is bytes pc i (encoded us) s k.rest

    first_sound : (is_wide (form_of i.opcode) ≡ true → is_last bytes pc ≡ false) → unit_fault bytes pc ≡ None
    first_sound w =
        ap (λ b. cond b (first_fault (form_of (opcode_at bytes pc)) (fields_at bytes pc) (is_last bytes pc)) (second_fault bytes pc)) k.place
        ∙ ap (λ (j : Inst). first_fault (form_of j.opcode) j (is_last bytes pc)) fields
        ∙ sound_at (form_of i.opcode) i (is_last bytes pc) s.sound w

    first_read : unit_at bytes pc ≡ First i
    first_read = ap (λ b. cond b (First (fields_at bytes pc)) (Second (imm_at bytes pc))) k.place ∙ ap First fields

    first_next : not (true && is_wide (form_of (opcode_at bytes pc))) ≡ not (is_wide (form_of i.opcode))
    first_next = ap (λ (j : Inst). not (is_wide (form_of j.opcode))) fields

  module _ (pc : ℕ) (v : ℤ) (front us : List ProgramUnit) (k : Kept pc false front (Second v ∷ us)) (fits : FitsSigned w32 v) where
    second_sound : unit_fault bytes pc ≡ None
    second_sound =
        ap (λ b. cond b (first_fault (form_of (opcode_at bytes pc)) (fields_at bytes pc) (is_last bytes pc)) (second_fault bytes pc)) k.place
        ∙ zero_bytes bytes pc v (encoded us) k.rest

    second_read : unit_at bytes pc ≡ Second v
    second_read =
        ap (λ b. cond b (First (fields_at bytes pc)) (Second (imm_at bytes pc))) k.place
        ∙ ap Second (imm_is bytes pc 0 0 0 0 v (encoded us) fits k.rest)

  append_none : (us : List ProgramUnit) → us ++ [] ≡ us
  append_none [] = refl
  append_none (u ∷ us) = ap (λ l. u ∷ l) (append_none us)

  all_kept : (back : List ProgramUnit) (pc : ℕ) (first : Bool) (front : List ProgramUnit) → pc + length back ≡ n → AreUnits first back
      → Kept pc first front back → (fault_below bytes n ≡ None) × (units_below bytes n ≡ front ++ back)
  all_kept [] pc true front l h k =
      let e : pc ≡ n = omega arith in
      (subst (λ m. fault_below bytes m ≡ None) e k.sound, subst (λ m. units_below bytes m ≡ front) e k.read ∙ sym (append_none front))
  all_kept [] pc false front l h k = absurd h
  all_kept (First i ∷ us) pc true front l h k =
      let next = not (is_wide (form_of i.opcode)) in
      let w : is_wide (form_of i.opcode) ≡ true → is_last bytes pc ≡ false = λ e. let more =
      more_units next us (ap not e) h.1 in not_last pc (omega (arith, more)) in
      let r = all_kept us (suc pc) next (front ++ First i ∷ []) (omega arith) h.1
      (one_more pc true next front us (First i) k (first_sound pc i front us k h.0 w) (first_read pc i front us k h.0) (first_next pc i front us k h.0)) in
      (r.0, r.1 ∙ append_assoc front (First i ∷ []) us)
  all_kept (First i ∷ us) pc false front l h k = absurd h
  all_kept (Second v ∷ us) pc true front l h k = absurd h
  all_kept (Second v ∷ us) pc false front l h k =
      let r = all_kept us (suc pc) true (front ++ Second v ∷ []) (omega arith) h.1
      (one_more pc false true front us (Second v) k (second_sound pc v front us k h.0) (second_read pc v front us k h.0) refl) in
      (r.0, r.1 ∙ append_assoc front (Second v ∷ []) us)

-- ---- a list of units is encoded as eight bytes for each unit

length_encoded : (us : List ProgramUnit) → length (encoded us) ≡ 8 * length us
length_encoded [] = refl
length_encoded (First i ∷ us) = let e = length_encoded us in omega (arith, e)
length_encoded (Second v ∷ us) = let e = length_encoded us in omega (arith, e)

both_bytes : (a b : List ℕ) → AreBytes a → AreBytes b → (k : ℕ) → slice_index (a ++ b) k < 256
both_bytes [] b f g k = g k
both_bytes (x ∷ a) b f g zero = f 0
both_bytes (x ∷ a) b f g (suc k) = both_bytes a b (λ j. f (suc j)) g k

low : (n : ℕ) → n % 256 < 256
low n = omega arith

first_bytes : (i : Inst) → IsInstruction i → AreBytes (unit_bytes (First i))
first_bytes i s zero = s.opcode
first_bytes i s (suc zero) = let a = s.dst in let b = s.src in omega arith
first_bytes i s (suc (suc zero)) = low _
first_bytes i s (suc (suc (suc zero))) = low _
first_bytes i s (suc (suc (suc (suc zero)))) = low _
first_bytes i s (suc (suc (suc (suc (suc zero))))) = low _
first_bytes i s (suc (suc (suc (suc (suc (suc zero)))))) = low _
first_bytes i s (suc (suc (suc (suc (suc (suc (suc zero))))))) = low _
first_bytes i s (suc (suc (suc (suc (suc (suc (suc (suc k)))))))) = omega arith

second_bytes : (v : ℤ) → AreBytes (unit_bytes (Second v))
second_bytes v zero = omega arith
second_bytes v (suc zero) = omega arith
second_bytes v (suc (suc zero)) = omega arith
second_bytes v (suc (suc (suc zero))) = omega arith
second_bytes v (suc (suc (suc (suc zero)))) = low _
second_bytes v (suc (suc (suc (suc (suc zero))))) = low _
second_bytes v (suc (suc (suc (suc (suc (suc zero)))))) = low _
second_bytes v (suc (suc (suc (suc (suc (suc (suc zero))))))) = low _
second_bytes v (suc (suc (suc (suc (suc (suc (suc (suc k)))))))) = omega arith

are_bytes : (first : Bool) (us : List ProgramUnit) → AreUnits first us → AreBytes (encoded us)
are_bytes first [] h = λ k. omega arith
are_bytes true (First i ∷ us) h = both_bytes (unit_bytes (First i)) (encoded us) (first_bytes i h.0) (are_bytes (not (is_wide (form_of i.opcode))) us h.1)
are_bytes true (Second v ∷ us) h = absurd h
are_bytes false (First i ∷ us) h = absurd h
are_bytes false (Second v ∷ us) h = both_bytes (unit_bytes (Second v)) (encoded us) (second_bytes v) (are_bytes true us h.1)

-- if 1 to 512 units are instructions without a fault, each wide load followed by its second unit, they are a program
pub program_of_units : (us : List ProgramUnit) → AreUnits true us → 0 < length us → length us ≤ 512 → IsProgram us
program_of_units us h some few =
    let bytes = encoded us in
    let whole = length_encoded us in
    let half : length bytes / 8 ≡ length us = omega (arith, whole) in
    let r = all_kept bytes (length us) whole us 0 true [] (omega arith) h (record { rest = refl; place = refl; sound = refl; read = refl }) in (
      bytes,
      all_units bytes us (right_length bytes (omega (arith, whole)) (omega (arith, whole)) (omega (arith, whole)))
          (subst (λ m. fault_below bytes m ≡ None) (sym half) r.0) (sym (subst (λ m. units_below bytes m ≡ us) (sym half) r.1)),
      are_bytes true us h,
    )

-- ---- the converse: the units of a program are instructions without a fault

half_false : (f : Form) → half_wide f false ≡ None
half_false Wide = refl
half_false (Arithmetic op w s) = refl
half_false (Load n) = refl
half_false (LoadSigned n) = refl
half_false (StoreImmediate n) = refl
half_false (StoreRegister n) = refl
half_false Ja = refl
half_false Ja32 = refl
half_false (Branch c w s) = refl
half_false Call = refl
half_false Exit = refl

sound_before : (o : Option Form) (i : Inst) (last : Bool) → first_fault o i last ≡ None → first_fault o i false ≡ None
sound_before None i last e = absurd (cc)
sound_before (Some form) i last e =
    let h = two_tests (has_valid_fields form i) (has_valid_registers form i) (half_wide form last) e in
    passes (has_valid_fields form i) (has_valid_registers form i) (half_wide form false) h.0 h.1 (half_false form)

half_is : (f : Form) (last : Bool) → half_wide f last ≡ None → is_wide (Some f) ≡ true → last ≡ false
half_is Wide true e w = absurd (cc)
half_is Wide false e w = refl
half_is f last e w = absurd (cc)

wide_goes_on : (o : Option Form) (i : Inst) (last : Bool) → first_fault o i last ≡ None → is_wide o ≡ true → last ≡ false
wide_goes_on None i last e w = absurd (cc)
wide_goes_on (Some form) i last e w = half_is form last (two_tests (has_valid_fields form i) (has_valid_registers form i) (half_wide form last) e).2 w

same_inst : (i j : Inst) → First i ≡ First j → i ≡ j
same_inst i j e = cc

same_imm : (v w : ℤ) → Second v ≡ Second w → v ≡ w
same_imm v w e = cc

no_first : (i : Inst) (v : ℤ) → First i ≡ Second v → ⊥
no_first i v e = cc

not_true : (b : Bool) → not b ≡ false → b ≡ true
not_true true e = refl
not_true false e = absurd (cc)

module _ (bytes : List ℕ) (small : AreBytes bytes) where
  byte_below : (n k : ℕ) → slice_index (drop n bytes) k < 256
  byte_below n k = subst (λ x. x < 256) (sym (at_drop bytes n k (n + k) refl)) (small (n + k))

  offset_fits : (pc : ℕ) → FitsSigned w16 (fields_at bytes pc).offset
  offset_fits pc =
      let a = byte_below (8 * pc + 2) 0 in
      let b = byte_below (8 * pc + 2) 1 in
      sfits_to_z {w = w16} (Fits-of_lt {w = w16} (omega (arith, a, b)))

  imm_fits : (pc : ℕ) → FitsSigned w32 (imm_at bytes pc)
  imm_fits pc =
      let a = byte_below (8 * pc + 4) 0 in
      let b = byte_below (8 * pc + 4) 1 in
      let c = byte_below (8 * pc + 4) 2 in
      let d = byte_below (8 * pc + 4) 3 in
      sfits_to_z {w = w32} (Fits-of_lt {w = w32} (omega (arith, a, b, c, d)))

  read_inst : (pc : ℕ) → first_fault (form_of (opcode_at bytes pc)) (fields_at bytes pc) (is_last bytes pc) ≡ None → IsInstruction (fields_at bytes pc)
  read_inst pc e =
      let regs = small (8 * pc + 1) in
      record {
        opcode = small (8 * pc);
        dst = omega arith;
        src = omega (arith, regs);
        offset = offset_fits pc;
        imm = imm_fits pc;
        sound = sound_before (form_of (opcode_at bytes pc)) (fields_at bytes pc) (is_last bytes pc) e;
      }

  goes_on : (pc : ℕ) → is_last bytes pc ≡ false → pc + 1 < length bytes / 8
  goes_on pc e = grind (arith, nat_tests)

  all_units_are : (us : List ProgramUnit) (pc : ℕ) (first : Bool) → pc + length us ≡ length bytes / 8 → begins bytes pc ≡ first
      → ((k m : ℕ) (u : ProgramUnit) → slice_get us k ≡ Some u → m ≡ pc + k → IsUnit bytes m u) → (first ≡ false → 0 < length us) → AreUnits first us
  all_units_are [] pc true l place unit some = tt
  all_units_are [] pc false l place unit some = absurd (let no = some refl in omega (arith, no))
  all_units_are (First i ∷ us) pc true l place unit some =
      let u = unit 0 pc (First i) refl (omega arith) in
      let is = same_inst (fields_at bytes pc) i (sym (ap (λ b. cond b (First (fields_at bytes pc)) (Second (imm_at bytes pc))) place) ∙ u.is) in
      let sound : first_fault (form_of (opcode_at bytes pc)) (fields_at bytes pc) (is_last bytes pc) ≡ None =
      sym (ap (λ b. cond b (first_fault (form_of (opcode_at bytes pc)) (fields_at bytes pc) (is_last bytes pc)) (second_fault bytes pc)) place) ∙ u.sound
      in
      let next : begins bytes (suc pc) ≡ not (is_wide (form_of i.opcode)) =
      ap (λ b. not (b && is_wide (form_of (opcode_at bytes pc)))) place ∙ ap (λ (j : Inst). not (is_wide (form_of j.opcode))) is
      in
      let more : not (is_wide (form_of i.opcode)) ≡ false → 0 < length us =
      λ e. let w : is_wide (form_of (opcode_at bytes pc)) ≡ true = ap (λ (j : Inst). is_wide (form_of j.opcode)) is ∙ not_true (is_wide (form_of i.opcode)) e in
      let room = goes_on pc (wide_goes_on (form_of (opcode_at bytes pc)) (fields_at bytes pc) (is_last bytes pc) sound w) in
      omega (arith, room)
      in (
        subst IsInstruction is (read_inst pc sound),
        all_units_are us (suc pc) (not (is_wide (form_of i.opcode))) (omega arith) next (λ k m x g e. unit (suc k) m x g (omega arith)) more,
      )
  all_units_are (Second v ∷ us) pc true l place unit some =
      let u = unit 0 pc (Second v) refl (omega arith) in
      absurd (no_first (fields_at bytes pc) v (sym (ap (λ b. cond b (First (fields_at bytes pc)) (Second (imm_at bytes pc))) place) ∙ u.is))
  all_units_are (First i ∷ us) pc false l place unit some =
      let u = unit 0 pc (First i) refl (omega arith) in
      absurd (no_first i (imm_at bytes pc) (sym (sym (ap (λ b. cond b (First (fields_at bytes pc)) (Second (imm_at bytes pc))) place) ∙ u.is)))
  all_units_are (Second v ∷ us) pc false l place unit some =
      let u = unit 0 pc (Second v) refl (omega arith) in
      let is = same_imm (imm_at bytes pc) v (sym (ap (λ b. cond b (First (fields_at bytes pc)) (Second (imm_at bytes pc))) place) ∙ u.is) in
      let next : begins bytes (suc pc) ≡ true = ap (λ b. not (b && is_wide (form_of (opcode_at bytes pc)))) place in (
        subst (FitsSigned w32) is (imm_fits pc),
        all_units_are us (suc pc) true (omega arith) next
            (λ k m x g e. unit (suc k) m x g (omega arith)) (λ e. absurd (cc)),
      )

-- if units are a program, they are instructions without a fault, each wide load followed by its second unit
pub units_of_program : (us : List ProgramUnit) → IsProgram us → AreUnits true us
units_of_program us p =
    let long = length_of_units p.0 us p.1 in
    all_units_are p.0 p.2 us 0 true (omega (arith, long)) refl (λ k m u g e. units_at p.0 us m u p.1 (ap (slice_get us) (e ∙ zero-add k) ∙ g))
    (λ e. absurd (cc))

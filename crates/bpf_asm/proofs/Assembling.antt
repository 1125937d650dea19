-- A row is a parsed line together with a label. If the rows of a text have no fault, their units are a program.
use Rattle.std.proofs.Common.{◌≡◌, ℕ, zero, suc, ◌+◌, ◌^◌, ◌<◌, ◌≤◌, List, [], ◌∷◌, ◌++◌, length, Option, Some, None, Bool, true, false, refl, sym, ap, ◌∙◌}
use Rattle.std.proofs.Common.{subst, arith, rules, w16, w32, FitsSigned}
use Rattle.std.specs.Prelude.{◌%◌, ◌/◌, ◌&&◌, not, Ok, nat_le, cond, ℤ, pos}
use Rattle.std.specs.Int.{cast_signed}
use Rattle.std.specs.Str.{bytes_eq}
use lib.IntN.{◌-ℤ◌}
use Rattle.std.proofs.lemmas.Bool.Decides.{nat_tests}
use Rattle.std.proofs.lemmas.Int.{ints}
use Rattle.std.proofs.Math.Facts.{sfits_to_z, Fits-of_lt}
use Rattle.bpf_model.specs.declared.instruction.Operator.{Operator}
use Rattle.bpf_model.specs.declared.instruction.Operator.TheVariants as operator
use Rattle.bpf_model.specs.declared.instruction.Width.TheVariants.{Bits32, Bits64}
use Rattle.bpf_model.specs.declared.instruction.Source.TheVariants as source
use Rattle.bpf_model.specs.declared.instruction.Source.{Source}
use Rattle.bpf_model.specs.declared.instruction.Width.{Width}
use Rattle.bpf_model.specs.declared.instruction.Condition.{Condition}
use Rattle.bpf_model.specs.declared.instruction.Condition.TheVariants as condition
use Rattle.bpf_model.specs.declared.instruction.Size.{Size}
use Rattle.bpf_model.specs.declared.instruction.Size.TheVariants.{Byte, Half, Word, Double}
use Rattle.bpf_model.specs.declared.instruction.Inst.{Inst}
use Rattle.bpf_model.specs.declared.instruction.Form.{Form}
use Rattle.bpf_model.specs.declared.instruction.Form.TheVariants as form
use Rattle.bpf_model.specs.declared.instruction.Unit.{Unit as ProgramUnit}
use Rattle.bpf_model.specs.declared.instruction.Unit.TheVariants.{First, Second}
use Rattle.bpf_model.specs.declared.instruction.UnitFault.{UnitFault}
use Rattle.bpf_model.specs.declared.instruction.UnitFault.TheVariants.{Field, Register as BadRegister}
use Rattle.bpf_model.specs.Reading.{form_of, first_fault, has_valid_fields, has_valid_registers, half_wide, is_wide}
use Rattle.bpf_model.specs.Making.{IsInstruction, AreUnits}
use Rattle.bpf_asm.specs.declared.AsmFault.{AsmFault}
use Rattle.bpf_asm.specs.declared.AsmFault.TheVariants.{BadLine, BadLabel, OutOfRange, Length, OutOfMemory}
use Rattle.bpf_asm.specs.declared.grammar.Value.{Value}
use Rattle.bpf_asm.specs.declared.grammar.Fields.{Fields}
use Rattle.bpf_asm.specs.declared.grammar.Target.TheVariants.{Label, Distance}
use Rattle.bpf_asm.specs.declared.grammar.Statement.{Statement}
use Rattle.bpf_asm.specs.declared.grammar.Statement.TheVariants.{Plain, Wide, Jump}
use Rattle.bpf_asm.specs.declared.grammar.Line.{Line}
use Rattle.bpf_asm.specs.declared.grammar.Line.TheVariants as line
use Rattle.bpf_asm.specs.Lex.{Text}
use Rattle.bpf_asm.specs.Program.{Row, row_of, with_row, rows_of, fits_size, fits, target_fits, statement_fits, line_fits, row_fault, or_fault}
use Rattle.bpf_asm.specs.Program.{first_line_fault, source_bit, operator_code, condition_code, size_code, arithmetic_class, jump_class, opcode_of, signed}
use Rattle.bpf_asm.specs.Program.{size_or_zero, int_of, inst_of, low_half, high_half, line_len_of, units_in, Definition, defining, labels_from, place_found}
use Rattle.bpf_asm.specs.Program.{place_of, jump_inst, statement_units, line_units, units_from, spelled, AreInRange, AreWithin, length_fault, label_fault}
use Rattle.bpf_asm.specs.Program.{rows_fault, fault_of, assembled_with, assembled, cut, IsFault}
use Rattle.bpf_asm.specs.Sound.{IsNarrowForm, IsSoundForm, IsJump, IsSound, AreSound}

-- ---- if no line of a text has a fault by itself, the numbers of its rows are in range

by_fits : (n : ℕ) (r : Row) (rows : List Row) (b : Bool) → line_fits r.parsed ≡ b → (rest : Option AsmFault) → or_fault (cond b None (Some (OutOfRange n))) rest
    ≡ None → (rest ≡ None → AreInRange rows) → AreInRange (r ∷ rows)
by_fits n r rows true fits rest e more = (fits, more e)
by_fits n r rows false fits rest e more = absurd (cc)

by_row : (n : ℕ) (o : Option Row) (rows : List Row) (rest : Option AsmFault) → or_fault (row_fault n o) rest ≡ None → (rest ≡ None → AreInRange rows)
    → AreInRange (with_row o rows)
by_row n None rows rest e more = absurd (cc)
by_row n (Some r) rows rest e more = by_fits n r rows (line_fits r.parsed) refl rest e more

pub rows_right : (n : ℕ) (lines : List Text) → first_line_fault n lines ≡ None → AreInRange (rows_of lines)
rows_right n [] e = tt
rows_right n (text ∷ lines) e = by_row n (row_of text) (rows_of lines) (first_line_fault (n + 1) lines) e (rows_right (n + 1) lines)

-- ---- if rows have at most 512 units in all, the place of each label is at most 512

found_by : (b : Bool) (place n : ℕ) (o : Option ℕ) → place ≤ n → size_or_zero o ≤ n → size_or_zero (cond b (Some place) o) ≤ n
found_by true place n o g h = g
found_by false place n o g h = h

defining_within : (parsed : Line) (label : Text) (at n : ℕ) (more : List Definition) → at ≤ n → AreWithin n more → AreWithin n (defining parsed label at more)
defining_within line.Label label at n more g h = λ name. found_by (bytes_eq label name) at n (place_found more name) g (h name)
defining_within line.Empty label at n more g h = h
defining_within (line.Statement s) label at n more g h = h

labels_within : (at n : ℕ) (rows : List Row) → at + units_in rows ≤ n → AreWithin n (labels_from at rows)
labels_within at n [] h = λ name. omega arith
labels_within at n (r ∷ rows) h =
    defining_within r.parsed r.label at n (labels_from (at + line_len_of r.parsed) rows) (omega arith)
    (labels_within (at + line_len_of r.parsed) n rows (omega arith))

pub places_within : (rows : List Row) → units_in rows ≤ 512 → AreWithin 512 (labels_from 0 rows)
places_within rows h = labels_within 0 512 rows (omega arith)

-- ---- an instruction with the opcode and the fields of its form, and with numbers in range, has no fault

operator_small : (op : Operator) → operator_code op ≤ 13
operator_small operator.Add = omega arith
operator_small operator.Sub = omega arith
operator_small operator.Mul = omega arith
operator_small operator.Div = omega arith
operator_small operator.Or = omega arith
operator_small operator.And = omega arith
operator_small operator.Lsh = omega arith
operator_small operator.Rsh = omega arith
operator_small operator.Neg = omega arith
operator_small operator.Mod = omega arith
operator_small operator.Xor = omega arith
operator_small operator.Mov = omega arith
operator_small operator.Arsh = omega arith
operator_small operator.SwapBytes = omega arith

condition_small : (c : Condition) → condition_code c ≤ 13
condition_small condition.Jeq = omega arith
condition_small condition.Jgt = omega arith
condition_small condition.Jge = omega arith
condition_small condition.Jset = omega arith
condition_small condition.Jne = omega arith
condition_small condition.Jsgt = omega arith
condition_small condition.Jsge = omega arith
condition_small condition.Jlt = omega arith
condition_small condition.Jle = omega arith
condition_small condition.Jslt = omega arith
condition_small condition.Jsle = omega arith

source_small : (s : Source) → source_bit s ≤ 8
source_small source.Immediate = omega arith
source_small source.Register = omega arith

arithmetic_small : (w : Width) → arithmetic_class w ≤ 7
arithmetic_small Bits32 = omega arith
arithmetic_small Bits64 = omega arith

jump_small : (w : Width) → jump_class w ≤ 7
jump_small Bits32 = omega arith
jump_small Bits64 = omega arith

size_small : (n : Size) → size_code n ≤ 3
size_small Byte = omega arith
size_small Half = omega arith
size_small Word = omega arith
size_small Double = omega arith

opcode_small : (f : Form) → opcode_of f < 256
opcode_small (form.Arithmetic op w s) = let a = operator_small op in let b = source_small s in let d = arithmetic_small w in omega arith
opcode_small form.Wide = omega arith
opcode_small (form.Load n) = let a = size_small n in omega arith
opcode_small (form.LoadSigned n) = let a = size_small n in omega arith
opcode_small (form.StoreImmediate n) = let a = size_small n in omega arith
opcode_small (form.StoreRegister n) = let a = size_small n in omega arith
opcode_small form.Ja = omega arith
opcode_small form.Ja32 = omega arith
opcode_small (form.Branch c w s) = let a = condition_small c in let b = source_small s in let d = jump_small w in omega arith
opcode_small form.Call = omega arith
opcode_small form.Exit = omega arith

not_half : (f : Form) → half_wide f false ≡ None
not_half form.Wide = refl
not_half (form.Arithmetic op w s) = refl
not_half (form.Load n) = refl
not_half (form.LoadSigned n) = refl
not_half (form.StoreImmediate n) = refl
not_half (form.StoreRegister n) = refl
not_half form.Ja = refl
not_half form.Ja32 = refl
not_half (form.Branch c w s) = refl
not_half form.Call = refl
not_half form.Exit = refl

passes : (a b : Bool) (o : Option UnitFault) → a ≡ true → b ≡ true → o ≡ None → cond (not a) (Some Field) (cond (not b) (Some BadRegister) o) ≡ None
passes true true o e f g = g
passes true false o e f g = absurd (cc)
passes false b o e f g = absurd (cc)

register_small : (n : ℕ) → nat_le n 10 ≡ true → n < 16
register_small n h = let l : n ≤ 10 = grind (arith, nat_tests) in omega arith

is_instruction : (f : Form) (i : Inst) → i.opcode ≡ opcode_of f → IsNarrowForm f i.dst i.src → has_valid_fields f i ≡ true → has_valid_registers f i ≡ true
    → FitsSigned w16 i.offset → FitsSigned w32 i.imm → IsInstruction i
is_instruction f i op h fields registers offset imm =
    record {
      opcode = subst (λ n. n < 256) (sym op) (opcode_small f);
      dst = register_small i.dst h.dst;
      src = register_small i.src h.src;
      offset = offset;
      imm = imm;
      sound = ap (λ o. first_fault (form_of o) i false) op ∙ ap (λ o. first_fault o i false) h.form_is
          ∙ passes (has_valid_fields f i) (has_valid_registers f i) (half_wide f false) fields registers (not_half f);
    }

-- ---- numbers in range fit 16 or 32 bits, and so does the distance of a jump between places from 0 to 512

signed16 : (negative : Bool) (size : Option ℕ) → fits_size (2 ^ 15) negative size ≡ true → FitsSigned w16 (signed negative (size_or_zero size))
signed16 negative None h = absurd (cc)
signed16 true (Some zero) h = search rules
signed16 true (Some (suc n)) h = let l : suc n ≤ 32768 = grind (arith, nat_tests) in search rules
signed16 false (Some n) h = let l : n < 32768 = grind (arith, nat_tests) in search rules

signed32 : (negative : Bool) (size : Option ℕ) → fits_size (2 ^ 31) negative size ≡ true → FitsSigned w32 (signed negative (size_or_zero size))
signed32 negative None h = absurd (cc)
signed32 true (Some zero) h = search rules
signed32 true (Some (suc n)) h = let l : suc n ≤ 2147483648 = grind (arith, nat_tests) in search rules
signed32 false (Some n) h = let l : n < 2147483648 = grind (arith, nat_tests) in search rules

and_left : (a b : Bool) → (a && b) ≡ true → a ≡ true
and_left true b h = refl
and_left false b h = h

and_right : (a b : Bool) → (a && b) ≡ true → b ≡ true
and_right true b h = h
and_right false b h = absurd (cc)

apart16 : (p a : ℕ) → p ≤ 512 → a ≤ 512 → FitsSigned w16 (pos p -ℤ pos (a + 1))
apart16 p a g h = search (rules, ints)

apart32 : (p a : ℕ) → p ≤ 512 → a ≤ 512 → FitsSigned w32 (pos p -ℤ pos (a + 1))
apart32 p a g h = search (rules, ints)

-- ---- rows of at most 512 units, with numbers in range and instructions of this profile, give units without a fault

plain_units : (f : Form) (p : Fields) (rest : List ProgramUnit) → IsSoundForm f p → FitsSigned w16 (int_of p.offset) → FitsSigned w32 (int_of p.imm)
    → AreUnits true rest → AreUnits true (First (inst_of f p.dst p.src (int_of p.offset) (int_of p.imm)) ∷ rest)
plain_units f p rest h offset imm more = (
  is_instruction f (inst_of f p.dst p.src (int_of p.offset) (int_of p.imm)) refl h.is_of h.fields h.registers offset imm,
  subst (λ b. AreUnits (not b) rest) (sym (ap is_wide h.is_of.form_is ∙ h.is_of.narrow)) more,
)

jump_is : (f : Form) (p : Fields) (z : ℤ) → IsNarrowForm f p.dst p.src → IsNarrowForm f (jump_inst f p z).dst (jump_inst f p z).src
jump_is form.Ja32 p z h = h
jump_is (form.Arithmetic op w s) p z h = h
jump_is form.Wide p z h = h
jump_is (form.Load n) p z h = h
jump_is (form.LoadSigned n) p z h = h
jump_is (form.StoreImmediate n) p z h = h
jump_is (form.StoreRegister n) p z h = h
jump_is form.Ja p z h = h
jump_is (form.Branch c w s) p z h = h
jump_is form.Call p z h = h
jump_is form.Exit p z h = h

jump_units : (f : Form) (p : Fields) (z : ℤ) (rest : List ProgramUnit) → IsJump f p → FitsSigned w16 (jump_inst f p z).offset
    → FitsSigned w32 (jump_inst f p z).imm → AreUnits true rest → AreUnits true (First (jump_inst f p z) ∷ rest)
jump_units f p z rest h offset imm more = (
  is_instruction f (jump_inst f p z) (h.opcode z) (jump_is f p z h.is_of) (h.fields z) (h.registers z) offset imm,
  subst (λ b. AreUnits (not b) rest) (sym (ap (λ o. is_wide (form_of o)) (h.opcode z) ∙ ap is_wide h.is_of.form_is ∙ h.is_of.narrow)) more,
)

zero16 : FitsSigned w16 (pos 0)
zero16 = search rules

-- If the distance z fits 16 and 32 bits, and the parsed immediate fits 32 bits, then the offset of a jump's instruction
-- fits its field of 16 bits, and the immediate fits its field of 32 bits. A `Ja32` has the distance in its immediate,
-- and any other jump has it in its offset.
jump_fits : (f : Form) (p : Fields) (z : ℤ) → FitsSigned w16 z → FitsSigned w32 z → FitsSigned w32 (int_of p.imm)
    → FitsSigned w16 (jump_inst f p z).offset × FitsSigned w32 (jump_inst f p z).imm
jump_fits form.Ja32 p z a b d = (zero16, b)
jump_fits (form.Arithmetic op w s) p z a b d = (a, d)
jump_fits form.Wide p z a b d = (a, d)
jump_fits (form.Load n) p z a b d = (a, d)
jump_fits (form.LoadSigned n) p z a b d = (a, d)
jump_fits (form.StoreImmediate n) p z a b d = (a, d)
jump_fits (form.StoreRegister n) p z a b d = (a, d)
jump_fits form.Ja p z a b d = (a, d)
jump_fits (form.Branch c w s) p z a b d = (a, d)
jump_fits form.Call p z a b d = (a, d)
jump_fits form.Exit p z a b d = (a, d)

short_fits : (v : Value) → fits (2 ^ 15) v ≡ true → FitsSigned w16 (int_of v)
short_fits v h = signed16 v.negative v.size h

long_fits : (v : Value) → fits (2 ^ 31) v ≡ true → FitsSigned w32 (int_of v)
long_fits v h = signed32 v.negative v.size h

wider : (z : ℤ) → FitsSigned w16 z → FitsSigned w32 z
wider z h = search rules

distance_fits : (f : Form) (p : Fields) (v : Value) → target_fits f (Distance v) ≡ true → FitsSigned w32 (int_of p.imm)
    → FitsSigned w16 (jump_inst f p (int_of v)).offset × FitsSigned w32 (jump_inst f p (int_of v)).imm
distance_fits form.Ja32 p v h d = (zero16, long_fits v h)
distance_fits (form.Arithmetic op w s) p v h d = (short_fits v h, d)
distance_fits form.Wide p v h d = (short_fits v h, d)
distance_fits (form.Load n) p v h d = (short_fits v h, d)
distance_fits (form.LoadSigned n) p v h d = (short_fits v h, d)
distance_fits (form.StoreImmediate n) p v h d = (short_fits v h, d)
distance_fits (form.StoreRegister n) p v h d = (short_fits v h, d)
distance_fits form.Ja p v h d = (short_fits v h, d)
distance_fits (form.Branch c w s) p v h d = (short_fits v h, d)
distance_fits form.Call p v h d = (short_fits v h, d)
distance_fits form.Exit p v h d = (short_fits v h, d)

half_fits : (n : ℕ) → FitsSigned w32 (cast_signed w32 (n % 2 ^ 32))
half_fits n = sfits_to_z {w = w32} (Fits-of_lt {w = w32} (omega arith))

wide_units : (dst n : ℕ) (rest : List ProgramUnit) → nat_le dst 10 ≡ true → AreUnits true rest
    → AreUnits true (First (inst_of form.Wide dst 0 (pos 0) (low_half n)) ∷ Second (high_half n) ∷ rest)
wide_units dst n rest d more = (
  record {
    opcode = omega arith;
    dst = register_small dst d;
    src = omega arith;
    offset = zero16;
    imm = half_fits n;
    sound = passes true (nat_le dst 10 && true) None refl (ap (λ b. b && true) d) refl;
  },
  (half_fits (n / 2 ^ 32), more),
)

module _ (labels : List Definition) (within : AreWithin 512 labels) where
  statement_is : (at : ℕ) (name : Text) (s : Statement) (rest : List ProgramUnit) → at ≤ 512 → statement_fits s ≡ true → IsSound (line.Statement s)
      → AreUnits true rest → AreUnits true (statement_units labels at name s ++ rest)
  statement_is at name (Plain f p) rest l fit h more =
      plain_units f p rest h (short_fits p.offset (and_left (fits (2 ^ 15) p.offset) (fits (2 ^ 31) p.imm) fit))
      (long_fits p.imm (and_right (fits (2 ^ 15) p.offset) (fits (2 ^ 31) p.imm) fit)) more
  statement_is at name (Wide dst n) rest l fit h more = wide_units dst (size_or_zero n) rest h more
  statement_is at name (Jump f p Label) rest l fit h more =
      let z = pos (place_of labels name) -ℤ pos (at + 1) in
      let r = jump_fits f p z (apart16 (place_of labels name) at (within name) l) (apart32 (place_of labels name) at (within name) l)
      (long_fits p.imm (and_left (fits (2 ^ 31) p.imm) true fit)) in
      jump_units f p z rest h r.0 r.1 more
  statement_is at name (Jump f p (Distance v)) rest l fit h more =
      let r = distance_fits f p v (and_right (fits (2 ^ 31) p.imm) (target_fits f (Distance v)) fit)
      (long_fits p.imm (and_left (fits (2 ^ 31) p.imm) (target_fits f (Distance v)) fit)) in
      jump_units f p (int_of v) rest h r.0 r.1 more

  line_is : (at : ℕ) (name : Text) (parsed : Line) (rest : List ProgramUnit) → at ≤ 512 → line_fits parsed ≡ true → IsSound parsed → AreUnits true rest
      → AreUnits true (line_units labels at name parsed ++ rest)
  line_is at name line.Empty rest l fit h more = more
  line_is at name line.Label rest l fit h more = more
  line_is at name (line.Statement s) rest l fit h more = statement_is at name s rest l fit h more

  units_are : (at : ℕ) (rows : List Row) → at + units_in rows ≤ 512 → AreInRange rows → AreSound rows → AreUnits true (units_from labels at rows)
  units_are at [] l fit h = tt
  units_are at (r ∷ rows) l fit h = line_is at r.label r.parsed (units_from labels (at + line_len_of r.parsed) rows) (omega arith) fit.0 h.0
      (units_are (at + line_len_of r.parsed) rows (omega arith) fit.1 h.1)

-- If rows have at most 512 units in all, numbers in range, and only instructions of this profile, then their units are
-- instructions without a fault, each wide load followed by its second unit.
pub spelled_units : (rows : List Row) → units_in rows ≤ 512 → AreInRange rows → AreSound rows → AreUnits true (spelled rows)
spelled_units rows l fit h = units_are (labels_from 0 rows) (places_within rows l) 0 rows (omega arith) fit h

statement_length : (labels : List Definition) (at : ℕ) (name : Text) (s : Statement) (rest : List ProgramUnit)
    → length (line_units labels at name (line.Statement s) ++ rest) ≡ line_len_of (line.Statement s) + length rest
statement_length labels at name (Plain f p) rest = omega arith
statement_length labels at name (Wide dst n) rest = omega arith
statement_length labels at name (Jump f p t) rest = omega arith

line_length : (labels : List Definition) (at : ℕ) (name : Text) (parsed : Line) (rest : List ProgramUnit) → length (line_units labels at name parsed ++ rest)
    ≡ line_len_of parsed + length rest
line_length labels at name line.Empty rest = omega arith
line_length labels at name line.Label rest = omega arith
line_length labels at name (line.Statement s) rest = statement_length labels at name s rest

pub units_length : (labels : List Definition) (at : ℕ) (rows : List Row) → length (units_from labels at rows) ≡ units_in rows
units_length labels at [] = refl
units_length labels at (r ∷ rows) = line_length labels at r.label r.parsed (units_from labels (at + line_len_of r.parsed) rows) ∙ ap
    (λ n. line_len_of r.parsed + n) (units_length labels (at + line_len_of r.parsed) rows)

-- ---- the fault of rows is `Length` if they don't have 1 to 512 units

pub is_fault : (f : AsmFault) → IsFault (Some f) f
is_fault (BadLine n) = refl
is_fault (BadLabel n) = refl
is_fault (OutOfRange n) = refl
is_fault Length = refl
is_fault OutOfMemory = tt

pub fault_is : (o : Option AsmFault) (f : AsmFault) → o ≡ Some f → IsFault o f
fault_is o f e = subst (λ p. IsFault p f) (sym e) (is_fault f)

length_by : (rows : List Row) (n : ℕ) (b : Bool) → n ≡ units_in rows → b ≡ (nat_le 1 n && nat_le n 512)
    → length_fault (units_in rows) ≡ cond b None (Some Length)
length_by rows n b e f = ap (λ x. cond x None (Some Length)) (ap (λ m. nat_le 1 m && nat_le m 512) (sym e) ∙ sym f)

pub wrong_length : (rows : List Row) (n : ℕ) (b : Bool) → n ≡ units_in rows → b ≡ (nat_le 1 n && nat_le n 512) → b ≡ false → rows_fault rows ≡ Some Length
wrong_length rows n b e f g = ap (λ o. or_fault o (label_fault (labels_from 0 rows) 1 [] rows)) (length_by rows n b e f ∙ ap (λ x. cond x None (Some Length)) g)

pub right_count : (rows : List Row) (n : ℕ) (b : Bool) → n ≡ units_in rows → b ≡ (nat_le 1 n && nat_le n 512) → b ≡ true
    → (0 < units_in rows) × (units_in rows ≤ 512)
right_count rows n b e f g =
    let t : (nat_le 1 n && nat_le n 512) ≡ true = sym f ∙ g in
    let low : nat_le 1 n ≡ true = and_left (nat_le 1 n) (nat_le n 512) t in
    let high : nat_le n 512 ≡ true = and_right (nat_le 1 n) (nat_le n 512) t in
    let a : 1 ≤ n = grind (arith, nat_tests) in
    let b : n ≤ 512 = grind (arith, nat_tests) in
    (omega (arith, e), omega (arith, e))

pub spelled_by : (rows : List Row) (labels : List Definition) (us : List ProgramUnit) → labels ≡ labels_from 0 rows
    → us ≡ units_from labels 0 rows → us ≡ spelled rows
spelled_by rows labels us l e = e ∙ ap (λ x. units_from x 0 rows) l

-- The canonical text of a program assembles to the program: each form in turn, then whole programs.
use Rattle.std.proofs.Common.{◌≡◌, ◌<◌, ◌≤◌, ℕ, zero, suc, List, [], ◌∷◌, Option, Some, None, Bool, true, false, refl, ap, sym, ◌∙◌, subst, arith, rules, w16}
use Rattle.std.proofs.Common.{w32, FitsSigned, inl, inr}
use Rattle.std.specs.Prelude.{◌&&◌, ◌||◌, ◌==◌, ◌⊎◌, not, nat_le, cond, ℤ, pos, negsuc, ⊤}
use Rattle.std.proofs.lemmas.Bool.{cases_lt, eqb-true}
use Rattle.std.proofs.lemmas.Bool.Decides.{nat_tests}
use Rattle.bpf_model.specs.declared.instruction.Inst.{Inst}
use Rattle.bpf_model.specs.declared.instruction.Width.{Width}
use Rattle.bpf_model.specs.declared.instruction.Width.TheVariants.{Bits32, Bits64}
use Rattle.bpf_model.specs.declared.instruction.Source.{Source}
use Rattle.bpf_model.specs.declared.instruction.Source.TheVariants as source
use Rattle.bpf_model.specs.declared.instruction.Unit.TheVariants.{First, Second}
use Rattle.bpf_model.specs.Reading.{is_wide, is_double, is_int, uses, fits_form, has_form, has_valid_fields, has_valid_registers}
use Rattle.bpf_model.proofs.Reading.{both_true}
use Rattle.bpf_model.specs.declared.instruction.Operator.{Operator}
use Rattle.bpf_model.specs.declared.instruction.Operator.TheVariants as operator
use Rattle.bpf_model.specs.declared.instruction.Form.{Form}
use Rattle.bpf_model.specs.declared.instruction.Form.TheVariants as form
use Rattle.bpf_asm.specs.declared.token.Token.TheVariants.{Unsigned, Signed, Swap}
use Rattle.bpf_asm.specs.declared.grammar.Statement.TheVariants.{Plain}
use Rattle.bpf_asm.specs.Lex.{Text}
use Rattle.bpf_asm.specs.Grammar.{exactly, fields, when}
use Rattle.bpf_asm.specs.Text.{size_text, signed_size_text, swap_text}
use Rattle.bpf_asm.specs.Program.{inst_of, opcode_of}
use Rattle.bpf_asm.proofs.ReadBack.{ParsesBack}
use Rattle.bpf_asm.proofs.Forms.{IsWritten, operator_written, signed_quotient, signed_remainder, same_width, number_line, register_line, number_means}
use Rattle.bpf_asm.proofs.Forms.{signed_quotient_means, signed_remainder_means, register_means, negation_line, le16_written, le32_written, le64_written}
use Rattle.bpf_asm.proofs.Forms.{be16_written, be32_written, be64_written, bswap16_written, bswap32_written, bswap64_written, swap_line, extension8_line}
use Rattle.bpf_asm.proofs.Forms.{extension16_line, extension32_line, wide_line, unsigned_size, signed_size, load_line, register_store_line, number_store_line}
use Rattle.bpf_asm.proofs.Forms.{goto_line, gotol_line, branch_register_line, branch_number_line, call_line, exit_line, IsTwo}
use Rattle.std.specs.Prelude.{Ok, Result}
use Rattle.bpf_asm.specs.declared.AsmFault.TheVariants.{BadLine, BadLabel, OutOfRange, Length, OutOfMemory}
use Rattle.bpf_model.specs.declared.instruction.Unit.{Unit as ProgramUnit}
use Rattle.bpf_model.specs.declared.instruction.UnitFault.{UnitFault}
use Rattle.bpf_model.specs.declared.instruction.UnitFault.TheVariants.{Field, Register as BadRegister}
use Rattle.bpf_model.specs.Reading.{form_of, first_fault, half_wide}
use Rattle.bpf_model.proofs.Reading.{count_of_units}
use Rattle.bpf_model.specs.DecodeFaults.{IsProgram}
use Rattle.bpf_model.specs.Making.{IsInstruction, AreUnits}
use Rattle.bpf_model.proofs.Making.{units_of_program}
use Rattle.bpf_asm.specs.declared.AsmFault.{AsmFault}
use Rattle.bpf_asm.specs.Text.{canonical_text, high_of}
use Rattle.bpf_asm.specs.Program.{cut, fault_of, assembled_with, assembled, IsFault}
use Rattle.bpf_asm.specs.RoundTrip.{RoundTrip}
use Rattle.bpf_asm.proofs.ReadBack.{AllParseBack, spells_again}

-- Whether there is an opcode with this form.
abbrev has_opcode : Form → Bool
has_opcode (form.Arithmetic op w s) = has_form op w s
has_opcode (form.LoadSigned n) = not (is_double n)
has_opcode f = true

abbrev HasOpcode : Form → Type 0
HasOpcode (form.Arithmetic op w s) = has_form op w s ≡ true
HasOpcode (form.LoadSigned n) = is_double n ≡ false
HasOpcode f = ⊤

not_double : (b : Bool) → not b ≡ true → b ≡ false
not_double true h = absurd (cc)
not_double false h = refl

opcode_there : (f : Form) → has_opcode f ≡ true → HasOpcode f
opcode_there (form.Arithmetic op w s) h = h
opcode_there (form.LoadSigned n) h = not_double (is_double n) h
opcode_there form.Wide h = tt
opcode_there (form.Load n) h = tt
opcode_there (form.StoreImmediate n) h = tt
opcode_there (form.StoreRegister n) h = tt
opcode_there form.Ja h = tt
opcode_there form.Ja32 h = tt
opcode_there (form.Branch c w s) h = tt
opcode_there form.Call h = tt
opcode_there form.Exit h = tt

-- ---- for each form, the canonical line of an instruction is parsed as this instruction

record Parts (f : Form) (i : Inst) : Type 0 where
  dst : ((uses f).dst || (i.dst == 0)) ≡ true
  src : ((uses f).src || (i.src == 0)) ≡ true
  offset : ((uses f).offset || is_int i.offset 0) ≡ true
  imm : ((uses f).imm || is_int i.imm 0) ≡ true
  form : fits_form f i ≡ true

parts_of : (f : Form) (i : Inst) → has_valid_fields f i ≡ true → Parts f i
parts_of f i h =
    let a = (uses f).dst || (i.dst == 0) in
    let b = (uses f).src || (i.src == 0) in
    let d = (uses f).offset || is_int i.offset 0 in
    let e = (uses f).imm || is_int i.imm 0 in
    let f1 = both_true (a && b && d && e) (fits_form f i) h in
    let f2 = both_true (a && b && d) e f1.0 in
    let f3 = both_true (a && b) d f2.0 in
    let f4 = both_true a b f3.0 in
    record { dst = f4.0; src = f4.1; offset = f3.1; imm = f2.1; form = f1.1 }

small_field : (used : Bool) (x : ℕ) → (used || (x == 0)) ≡ true → (not used || nat_le x 10) ≡ true → x ≤ 10
small_field true x a b = grind (arith, nat_tests)
small_field false x a b = let e : x ≡ 0 = eqb-true x 0 a in omega arith

int_is : (z : ℤ) (n : ℕ) → is_int z n ≡ true → z ≡ pos n
int_is (pos k) n e = ap pos (eqb-true k n e)
int_is (negsuc k) n e = absurd (cc)

same : (f : Form) (i : Inst) (d s : ℕ) (z m : ℤ) → opcode_of f ≡ i.opcode → i.dst ≡ d → i.src ≡ s → i.offset ≡ z → i.imm ≡ m → inst_of f d s z m ≡ i
same f i d s z m a b c e g = λ j. record { opcode = a j; dst = sym b j; src = sym c j; offset = sym e j; imm = sym g j }

or_cases : (a b : Bool) → (a || b) ≡ true → (a ≡ true) ⊎ (b ≡ true)
or_cases true b h = inl refl
or_cases false b h = inr h

or_false : (a : Bool) → (a || false) ≡ true → a ≡ true
or_false true h = refl
or_false false h = absurd (cc)

module _ (i : Inst) (high : ℤ) (off : FitsSigned w16 i.offset) (imm : FitsSigned w32 i.imm) (up : FitsSigned w32 high) where
  record Given (f : Form) : Type 0 where
    op : opcode_of f ≡ i.opcode
    parts : Parts f i
    dst : i.dst ≤ 10
    src : i.src ≤ 10

  zero_src : (i.src == 0) ≡ true → i.src ≡ 0
  zero_src h = eqb-true i.src 0 h

  number_quotient : (w : Width) → Given (form.Arithmetic operator.Div w source.Immediate) → (is_int i.offset 0 ≡ true) ⊎ (is_int i.offset 1 ≡ true)
      → ParsesBack (form.Arithmetic operator.Div w source.Immediate) i high
  number_quotient w g (inl e) = subst (λ k. ParsesBack (form.Arithmetic operator.Div w source.Immediate) k high)
      (same (form.Arithmetic operator.Div w source.Immediate) i i.dst 0 (pos 0) i.imm g.op refl (zero_src g.parts.src) (int_is i.offset 0 e) refl)
      (number_line operator.Div 0 w i.dst i.imm high (operator_written operator.Div tt) (omega arith) g.dst imm
      (number_means operator.Div tt w i.dst i.imm))
  number_quotient w g (inr e) = subst (λ k. ParsesBack (form.Arithmetic operator.Div w source.Immediate) k high)
      (same (form.Arithmetic operator.Div w source.Immediate) i i.dst 0 (pos 1) i.imm g.op refl (zero_src g.parts.src) (int_is i.offset 1 e) refl)
      (number_line operator.Div 1 w i.dst i.imm high signed_quotient (omega arith) g.dst imm (signed_quotient_means w i.dst i.imm))

  number_remainder : (w : Width) → Given (form.Arithmetic operator.Mod w source.Immediate) → (is_int i.offset 0 ≡ true) ⊎ (is_int i.offset 1 ≡ true)
      → ParsesBack (form.Arithmetic operator.Mod w source.Immediate) i high
  number_remainder w g (inl e) = subst (λ k. ParsesBack (form.Arithmetic operator.Mod w source.Immediate) k high)
      (same (form.Arithmetic operator.Mod w source.Immediate) i i.dst 0 (pos 0) i.imm g.op refl (zero_src g.parts.src) (int_is i.offset 0 e) refl)
      (number_line operator.Mod 0 w i.dst i.imm high (operator_written operator.Mod tt) (omega arith) g.dst imm
      (number_means operator.Mod tt w i.dst i.imm))
  number_remainder w g (inr e) = subst (λ k. ParsesBack (form.Arithmetic operator.Mod w source.Immediate) k high)
      (same (form.Arithmetic operator.Mod w source.Immediate) i i.dst 0 (pos 1) i.imm g.op refl (zero_src g.parts.src) (int_is i.offset 1 e) refl)
      (number_line operator.Mod 1 w i.dst i.imm high signed_remainder (omega arith) g.dst imm (signed_remainder_means w i.dst i.imm))

  number_says : (op : Operator) (w : Width) → IsTwo op → Given (form.Arithmetic op w source.Immediate) → ParsesBack (form.Arithmetic op w source.Immediate) i high
  number_says operator.Add w h g = subst
      (λ k. ParsesBack (form.Arithmetic operator.Add w source.Immediate) k high) (same (form.Arithmetic operator.Add w source.Immediate) i i.dst 0 (pos 0) i.imm g.op
      refl (zero_src g.parts.src) (int_is i.offset 0 g.parts.form) refl)
      (number_line operator.Add 0 w i.dst i.imm high (operator_written operator.Add tt) (omega arith) g.dst imm (number_means operator.Add tt w i.dst i.imm))
  number_says operator.Sub w h g = subst (λ k. ParsesBack (form.Arithmetic operator.Sub w source.Immediate) k high)
      (same (form.Arithmetic operator.Sub w source.Immediate) i i.dst 0 (pos 0) i.imm g.op refl (zero_src g.parts.src) (int_is i.offset 0 g.parts.form)
      refl) (number_line operator.Sub 0 w i.dst i.imm high (operator_written operator.Sub tt) (omega arith) g.dst imm
      (number_means operator.Sub tt w i.dst i.imm))
  number_says operator.Mul w h g = subst (λ k. ParsesBack (form.Arithmetic operator.Mul w source.Immediate) k high)
      (same (form.Arithmetic operator.Mul w source.Immediate) i i.dst 0 (pos 0) i.imm g.op refl (zero_src g.parts.src) (int_is i.offset 0 g.parts.form)
      refl) (number_line operator.Mul 0 w i.dst i.imm high (operator_written operator.Mul tt) (omega arith) g.dst imm
      (number_means operator.Mul tt w i.dst i.imm))
  number_says operator.Div w h g = number_quotient w g (or_cases (is_int i.offset 0) (is_int i.offset 1) g.parts.form)
  number_says operator.Or w h g = subst
      (λ k. ParsesBack (form.Arithmetic operator.Or w source.Immediate) k high)
      (same (form.Arithmetic operator.Or w source.Immediate) i i.dst 0 (pos 0) i.imm g.op refl (zero_src g.parts.src) (int_is i.offset 0 g.parts.form) refl)
      (number_line operator.Or 0 w i.dst i.imm high (operator_written operator.Or tt) (omega arith) g.dst imm (number_means operator.Or tt w i.dst i.imm))
  number_says operator.And w h g = subst
      (λ k. ParsesBack (form.Arithmetic operator.And w source.Immediate) k high) (same (form.Arithmetic operator.And w source.Immediate) i i.dst 0 (pos 0) i.imm g.op
      refl (zero_src g.parts.src) (int_is i.offset 0 g.parts.form) refl)
      (number_line operator.And 0 w i.dst i.imm high (operator_written operator.And tt) (omega arith) g.dst imm (number_means operator.And tt w i.dst i.imm))
  number_says operator.Lsh w h g = subst (λ k. ParsesBack (form.Arithmetic operator.Lsh w source.Immediate) k high)
      (same (form.Arithmetic operator.Lsh w source.Immediate) i i.dst 0 (pos 0) i.imm g.op refl (zero_src g.parts.src) (int_is i.offset 0 g.parts.form)
      refl) (number_line operator.Lsh 0 w i.dst i.imm high (operator_written operator.Lsh tt) (omega arith) g.dst imm
      (number_means operator.Lsh tt w i.dst i.imm))
  number_says operator.Rsh w h g = subst (λ k. ParsesBack (form.Arithmetic operator.Rsh w source.Immediate) k high)
      (same (form.Arithmetic operator.Rsh w source.Immediate) i i.dst 0 (pos 0) i.imm g.op refl (zero_src g.parts.src) (int_is i.offset 0 g.parts.form)
      refl) (number_line operator.Rsh 0 w i.dst i.imm high (operator_written operator.Rsh tt) (omega arith) g.dst imm
      (number_means operator.Rsh tt w i.dst i.imm))
  number_says operator.Mod w h g = number_remainder w g (or_cases (is_int i.offset 0) (is_int i.offset 1) g.parts.form)
  number_says operator.Xor w h g = subst
      (λ k. ParsesBack (form.Arithmetic operator.Xor w source.Immediate) k high) (same (form.Arithmetic operator.Xor w source.Immediate) i i.dst 0 (pos 0) i.imm g.op
      refl (zero_src g.parts.src) (int_is i.offset 0 g.parts.form) refl)
      (number_line operator.Xor 0 w i.dst i.imm high (operator_written operator.Xor tt) (omega arith) g.dst imm (number_means operator.Xor tt w i.dst i.imm))
  number_says operator.Mov Bits32 h g = subst (λ k. ParsesBack (form.Arithmetic operator.Mov Bits32 source.Immediate) k high)
      (same (form.Arithmetic operator.Mov Bits32 source.Immediate) i i.dst 0 (pos 0) i.imm g.op refl (zero_src g.parts.src)
      (int_is i.offset 0 (or_false (is_int i.offset 0) g.parts.form)) refl)
      (number_line operator.Mov 0 Bits32 i.dst i.imm high (operator_written operator.Mov tt) (omega arith) g.dst imm
      (number_means operator.Mov tt Bits32 i.dst i.imm))
  number_says operator.Mov Bits64 h g = subst (λ k. ParsesBack (form.Arithmetic operator.Mov Bits64 source.Immediate) k high)
      (same (form.Arithmetic operator.Mov Bits64 source.Immediate) i i.dst 0 (pos 0) i.imm g.op refl (zero_src g.parts.src)
      (int_is i.offset 0 (or_false (is_int i.offset 0) g.parts.form)) refl)
      (number_line operator.Mov 0 Bits64 i.dst i.imm high (operator_written operator.Mov tt) (omega arith) g.dst imm
      (number_means operator.Mov tt Bits64 i.dst i.imm))
  number_says operator.Arsh w h g = subst (λ k. ParsesBack (form.Arithmetic operator.Arsh w source.Immediate) k high)
      (same (form.Arithmetic operator.Arsh w source.Immediate) i i.dst 0 (pos 0) i.imm g.op refl (zero_src g.parts.src) (int_is i.offset 0 g.parts.form)
      refl) (number_line operator.Arsh 0 w i.dst i.imm high (operator_written operator.Arsh tt) (omega arith) g.dst imm
      (number_means operator.Arsh tt w i.dst i.imm))
  number_says operator.Neg w h g = absurd h
  number_says operator.SwapBytes w h g = absurd h

  register_quotient : (w : Width) → Given (form.Arithmetic operator.Div w source.Register) → (is_int i.offset 0 ≡ true) ⊎ (is_int i.offset 1 ≡ true)
      → ParsesBack (form.Arithmetic operator.Div w source.Register) i high
  register_quotient w g (inl e) = subst (λ k. ParsesBack (form.Arithmetic operator.Div w source.Register) k high)
      (same (form.Arithmetic operator.Div w source.Register) i i.dst i.src (pos 0) (pos 0) g.op refl refl (int_is i.offset 0 e)
      (int_is i.imm 0 g.parts.imm)) (register_line operator.Div 0 w i.dst i.src high (operator_written operator.Div tt) (omega arith) g.dst g.src
      (register_means operator.Div tt w i.dst i.src))
  register_quotient w g (inr e) = subst (λ k. ParsesBack (form.Arithmetic operator.Div w source.Register) k high)
      (same (form.Arithmetic operator.Div w source.Register) i i.dst i.src (pos 1) (pos 0) g.op refl refl (int_is i.offset 1 e)
      (int_is i.imm 0 g.parts.imm)) (register_line operator.Div 1 w i.dst i.src high signed_quotient (omega arith) g.dst g.src
      (ap (λ b. when b (Plain (form.Arithmetic operator.Div w source.Register) (fields i.dst i.src (exactly 1) (exactly 0)))) (same_width w)))

  register_remainder : (w : Width) → Given (form.Arithmetic operator.Mod w source.Register) → (is_int i.offset 0 ≡ true) ⊎ (is_int i.offset 1 ≡ true)
      → ParsesBack (form.Arithmetic operator.Mod w source.Register) i high
  register_remainder w g (inl e) = subst (λ k. ParsesBack (form.Arithmetic operator.Mod w source.Register) k high)
      (same (form.Arithmetic operator.Mod w source.Register) i i.dst i.src (pos 0) (pos 0) g.op refl refl (int_is i.offset 0 e)
      (int_is i.imm 0 g.parts.imm)) (register_line operator.Mod 0 w i.dst i.src high (operator_written operator.Mod tt) (omega arith) g.dst g.src
      (register_means operator.Mod tt w i.dst i.src))
  register_remainder w g (inr e) = subst (λ k. ParsesBack (form.Arithmetic operator.Mod w source.Register) k high)
      (same (form.Arithmetic operator.Mod w source.Register) i i.dst i.src (pos 1) (pos 0) g.op refl refl (int_is i.offset 1 e)
      (int_is i.imm 0 g.parts.imm)) (register_line operator.Mod 1 w i.dst i.src high signed_remainder (omega arith) g.dst g.src
      (ap (λ b. when b (Plain (form.Arithmetic operator.Mod w source.Register) (fields i.dst i.src (exactly 1) (exactly 0)))) (same_width w)))

  narrow_move : (n : ℕ) → Given (form.Arithmetic operator.Mov Bits32 source.Register) → is_int i.offset n ≡ true
      → ParsesBack (form.Arithmetic operator.Mov Bits32 source.Register) (inst_of (form.Arithmetic operator.Mov Bits32 source.Register) i.dst i.src (pos n) (pos 0))
      high → ParsesBack (form.Arithmetic operator.Mov Bits32 source.Register) i high
  narrow_move n g e h = subst (λ k. ParsesBack (form.Arithmetic operator.Mov Bits32 source.Register) k high)
      (same (form.Arithmetic operator.Mov Bits32 source.Register) i i.dst i.src (pos n) (pos 0) g.op refl refl (int_is i.offset n e)
      (int_is i.imm 0 g.parts.imm)) h

  full_move : (n : ℕ) → Given (form.Arithmetic operator.Mov Bits64 source.Register) → is_int i.offset n ≡ true
      → ParsesBack (form.Arithmetic operator.Mov Bits64 source.Register) (inst_of (form.Arithmetic operator.Mov Bits64 source.Register) i.dst i.src (pos n) (pos 0))
      high → ParsesBack (form.Arithmetic operator.Mov Bits64 source.Register) i high
  full_move n g e h = subst (λ k. ParsesBack (form.Arithmetic operator.Mov Bits64 source.Register) k high)
      (same (form.Arithmetic operator.Mov Bits64 source.Register) i i.dst i.src (pos n) (pos 0) g.op refl refl (int_is i.offset n e)
      (int_is i.imm 0 g.parts.imm)) h

  narrow_extends : Given (form.Arithmetic operator.Mov Bits32 source.Register) → (is_int i.offset 8 ≡ true) ⊎ (is_int i.offset 16 ≡ true)
      → ParsesBack (form.Arithmetic operator.Mov Bits32 source.Register) i high
  narrow_extends g (inl e) = narrow_move 8 g e (extension8_line Bits32 i.dst i.src high refl g.dst g.src)
  narrow_extends g (inr e) = narrow_move 16 g e (extension16_line Bits32 i.dst i.src high refl g.dst g.src)

  narrow_moves : Given (form.Arithmetic operator.Mov Bits32 source.Register) → (is_int i.offset 0 ≡ true) ⊎ ((is_int i.offset 8 || is_int i.offset 16) ≡ true)
      → ParsesBack (form.Arithmetic operator.Mov Bits32 source.Register) i high
  narrow_moves g (inl e) = narrow_move 0 g e (register_line operator.Mov 0 Bits32 i.dst i.src high (operator_written operator.Mov tt) (omega arith) g.dst
      g.src (register_means operator.Mov tt Bits32 i.dst i.src))
  narrow_moves g (inr e) = narrow_extends g (or_cases (is_int i.offset 8) (is_int i.offset 16) e)

  full_half : Given (form.Arithmetic operator.Mov Bits64 source.Register) → (is_int i.offset 8 ≡ true) ⊎ (is_int i.offset 16 ≡ true)
      → ParsesBack (form.Arithmetic operator.Mov Bits64 source.Register) i high
  full_half g (inl e) = full_move 8 g e (extension8_line Bits64 i.dst i.src high refl g.dst g.src)
  full_half g (inr e) = full_move 16 g e (extension16_line Bits64 i.dst i.src high refl g.dst g.src)

  full_extends : Given (form.Arithmetic operator.Mov Bits64 source.Register) → ((is_int i.offset 8 || is_int i.offset 16) ≡ true) ⊎ (is_int i.offset 32 ≡ true)
      → ParsesBack (form.Arithmetic operator.Mov Bits64 source.Register) i high
  full_extends g (inl e) = full_half g (or_cases (is_int i.offset 8) (is_int i.offset 16) e)
  full_extends g (inr e) = full_move 32 g e (extension32_line Bits64 i.dst i.src high refl g.dst g.src)

  full_moves : Given (form.Arithmetic operator.Mov Bits64 source.Register)
      → (is_int i.offset 0 ≡ true) ⊎ ((is_int i.offset 8 || is_int i.offset 16 || is_int i.offset 32) ≡ true)
      → ParsesBack (form.Arithmetic operator.Mov Bits64 source.Register) i high
  full_moves g (inl e) = full_move 0 g e (register_line operator.Mov 0 Bits64 i.dst i.src high (operator_written operator.Mov tt) (omega arith) g.dst g.src
      (register_means operator.Mov tt Bits64 i.dst i.src))
  full_moves g (inr e) = full_extends g (or_cases (is_int i.offset 8 || is_int i.offset 16) (is_int i.offset 32) e)

  register_says : (op : Operator) (w : Width) → IsTwo op → Given (form.Arithmetic op w source.Register) → ParsesBack (form.Arithmetic op w source.Register) i high
  register_says operator.Add w h g = subst
      (λ k. ParsesBack (form.Arithmetic operator.Add w source.Register) k high) (same (form.Arithmetic operator.Add w source.Register) i i.dst i.src (pos 0) (pos 0)
      g.op refl refl (int_is i.offset 0 g.parts.form) (int_is i.imm 0 g.parts.imm))
      (register_line operator.Add 0 w i.dst i.src high (operator_written operator.Add tt) (omega arith) g.dst g.src
      (register_means operator.Add tt w i.dst i.src))
  register_says operator.Sub w h g = subst (λ k. ParsesBack (form.Arithmetic operator.Sub w source.Register) k high)
      (same (form.Arithmetic operator.Sub w source.Register) i i.dst i.src (pos 0) (pos 0) g.op refl refl (int_is i.offset 0 g.parts.form)
      (int_is i.imm 0 g.parts.imm)) (register_line operator.Sub 0 w i.dst i.src high (operator_written operator.Sub tt) (omega arith) g.dst g.src
      (register_means operator.Sub tt w i.dst i.src))
  register_says operator.Mul w h g = subst
      (λ k. ParsesBack (form.Arithmetic operator.Mul w source.Register) k high)
      (same (form.Arithmetic operator.Mul w source.Register) i i.dst i.src (pos 0) (pos 0) g.op refl refl (int_is i.offset 0 g.parts.form)
      (int_is i.imm 0 g.parts.imm)) (register_line operator.Mul 0 w i.dst i.src high (operator_written operator.Mul tt) (omega arith) g.dst g.src
      (register_means operator.Mul tt w i.dst i.src))
  register_says operator.Div w h g = register_quotient w g (or_cases (is_int i.offset 0) (is_int i.offset 1) g.parts.form)
  register_says operator.Or w h g = subst
      (λ k. ParsesBack (form.Arithmetic operator.Or w source.Register) k high)
      (same (form.Arithmetic operator.Or w source.Register) i i.dst i.src (pos 0) (pos 0) g.op refl refl (int_is i.offset 0 g.parts.form)
      (int_is i.imm 0 g.parts.imm)) (register_line operator.Or 0 w i.dst i.src high (operator_written operator.Or tt) (omega arith) g.dst g.src
      (register_means operator.Or tt w i.dst i.src))
  register_says operator.And w h g = subst
      (λ k. ParsesBack (form.Arithmetic operator.And w source.Register) k high) (same (form.Arithmetic operator.And w source.Register) i i.dst i.src (pos 0) (pos 0)
      g.op refl refl (int_is i.offset 0 g.parts.form) (int_is i.imm 0 g.parts.imm))
      (register_line operator.And 0 w i.dst i.src high (operator_written operator.And tt) (omega arith) g.dst g.src
      (register_means operator.And tt w i.dst i.src))
  register_says operator.Lsh w h g = subst (λ k. ParsesBack (form.Arithmetic operator.Lsh w source.Register) k high)
      (same (form.Arithmetic operator.Lsh w source.Register) i i.dst i.src (pos 0) (pos 0) g.op refl refl (int_is i.offset 0 g.parts.form)
      (int_is i.imm 0 g.parts.imm)) (register_line operator.Lsh 0 w i.dst i.src high (operator_written operator.Lsh tt) (omega arith) g.dst g.src
      (register_means operator.Lsh tt w i.dst i.src))
  register_says operator.Rsh w h g = subst (λ k. ParsesBack (form.Arithmetic operator.Rsh w source.Register) k high)
      (same (form.Arithmetic operator.Rsh w source.Register) i i.dst i.src (pos 0) (pos 0) g.op refl refl (int_is i.offset 0 g.parts.form)
      (int_is i.imm 0 g.parts.imm)) (register_line operator.Rsh 0 w i.dst i.src high (operator_written operator.Rsh tt) (omega arith) g.dst g.src
      (register_means operator.Rsh tt w i.dst i.src))
  register_says operator.Mod w h g = register_remainder w g (or_cases (is_int i.offset 0) (is_int i.offset 1) g.parts.form)
  register_says operator.Xor w h g = subst
      (λ k. ParsesBack (form.Arithmetic operator.Xor w source.Register) k high) (same (form.Arithmetic operator.Xor w source.Register) i i.dst i.src (pos 0) (pos 0)
      g.op refl refl (int_is i.offset 0 g.parts.form) (int_is i.imm 0 g.parts.imm))
      (register_line operator.Xor 0 w i.dst i.src high (operator_written operator.Xor tt) (omega arith) g.dst g.src
      (register_means operator.Xor tt w i.dst i.src))
  register_says operator.Mov Bits32 h g = narrow_moves g (or_cases (is_int i.offset 0) (is_int i.offset 8 || is_int i.offset 16) g.parts.form)
  register_says operator.Mov Bits64 h g =
      full_moves g (or_cases (is_int i.offset 0) (is_int i.offset 8 || is_int i.offset 16 || is_int i.offset 32) g.parts.form)
  register_says operator.Arsh w h g = subst (λ k. ParsesBack (form.Arithmetic operator.Arsh w source.Register) k high)
      (same (form.Arithmetic operator.Arsh w source.Register) i i.dst i.src (pos 0) (pos 0) g.op refl refl (int_is i.offset 0 g.parts.form)
      (int_is i.imm 0 g.parts.imm)) (register_line operator.Arsh 0 w i.dst i.src high (operator_written operator.Arsh tt) (omega arith) g.dst
      g.src (register_means operator.Arsh tt w i.dst i.src))
  register_says operator.Neg w h g = absurd h
  register_says operator.SwapBytes w h g = absurd h

  swap_bits : (w : Width) (s : Source) (bits : ℕ) → Given (form.Arithmetic operator.SwapBytes w s) → is_int i.imm bits ≡ true
      → IsWritten (swap_text w s (pos bits)) (Swap w s bits) → bits ≤ 64 → ParsesBack (form.Arithmetic operator.SwapBytes w s) i high
  swap_bits w s bits g e o few = subst
      (λ k. ParsesBack (form.Arithmetic operator.SwapBytes w s) k high) (same (form.Arithmetic operator.SwapBytes w s) i i.dst 0 (pos 0) (pos bits) g.op refl
      (zero_src g.parts.src) (int_is i.offset 0 g.parts.offset) (int_is i.imm bits e)) (swap_line w s bits i.dst high o few g.dst)

  swap_low : (w : Width) (s : Source) → Given (form.Arithmetic operator.SwapBytes w s) → IsWritten (swap_text w s (pos 16)) (Swap w s 16)
      → IsWritten (swap_text w s (pos 32)) (Swap w s 32) → (is_int i.imm 16 ≡ true) ⊎ (is_int i.imm 32 ≡ true)
      → ParsesBack (form.Arithmetic operator.SwapBytes w s) i high
  swap_low w s g a b (inl e) = swap_bits w s 16 g e a (omega arith)
  swap_low w s g a b (inr e) = swap_bits w s 32 g e b (omega arith)

  swap_by : (w : Width) (s : Source) → Given (form.Arithmetic operator.SwapBytes w s) → IsWritten (swap_text w s (pos 16)) (Swap w s 16)
      → IsWritten (swap_text w s (pos 32)) (Swap w s 32) → IsWritten (swap_text w s (pos 64)) (Swap w s 64)
      → ((is_int i.imm 16 || is_int i.imm 32) ≡ true) ⊎ (is_int i.imm 64 ≡ true) → ParsesBack (form.Arithmetic operator.SwapBytes w s) i high
  swap_by w s g a b c (inl e) = swap_low w s g a b (or_cases (is_int i.imm 16) (is_int i.imm 32) e)
  swap_by w s g a b c (inr e) = swap_bits w s 64 g e c (omega arith)

  swap_says : (w : Width) (s : Source) → has_form operator.SwapBytes w s ≡ true → Given (form.Arithmetic operator.SwapBytes w s)
      → ParsesBack (form.Arithmetic operator.SwapBytes w s) i high
  swap_says Bits32 source.Immediate h g =
      swap_by Bits32 source.Immediate g le16_written le32_written le64_written (or_cases (is_int i.imm 16 || is_int i.imm 32) (is_int i.imm 64) g.parts.form)
  swap_says Bits32 source.Register h g =
      swap_by Bits32 source.Register g be16_written be32_written be64_written (or_cases (is_int i.imm 16 || is_int i.imm 32) (is_int i.imm 64) g.parts.form)
  swap_says Bits64 source.Immediate h g = swap_by Bits64 source.Immediate g bswap16_written bswap32_written bswap64_written
      (or_cases (is_int i.imm 16 || is_int i.imm 32) (is_int i.imm 64) g.parts.form)
  swap_says Bits64 source.Register h g = absurd (cc)

  zero_dst : (i.dst == 0) ≡ true → i.dst ≡ 0
  zero_dst h = eqb-true i.dst 0 h

  form_says : (f : Form) → HasOpcode f → Given f → ParsesBack f i high
  form_says (form.Arithmetic operator.Neg w source.Immediate) h g = subst
      (λ k. ParsesBack (form.Arithmetic operator.Neg w source.Immediate) k high)
      (same (form.Arithmetic operator.Neg w source.Immediate) i i.dst 0 (pos 0) (pos 0) g.op refl (zero_src g.parts.src) (int_is i.offset 0 g.parts.offset)
      (int_is i.imm 0 g.parts.imm)) (negation_line w i.dst high g.dst)
  form_says (form.Arithmetic operator.Neg w source.Register) h g = absurd (cc)
  form_says (form.Arithmetic operator.SwapBytes w s) h g = swap_says w s h g
  form_says (form.Arithmetic operator.Add w source.Immediate) h g = number_says operator.Add w tt g
  form_says (form.Arithmetic operator.Add w source.Register) h g = register_says operator.Add w tt g
  form_says (form.Arithmetic operator.Sub w source.Immediate) h g = number_says operator.Sub w tt g
  form_says (form.Arithmetic operator.Sub w source.Register) h g = register_says operator.Sub w tt g
  form_says (form.Arithmetic operator.Mul w source.Immediate) h g = number_says operator.Mul w tt g
  form_says (form.Arithmetic operator.Mul w source.Register) h g = register_says operator.Mul w tt g
  form_says (form.Arithmetic operator.Div w source.Immediate) h g = number_says operator.Div w tt g
  form_says (form.Arithmetic operator.Div w source.Register) h g = register_says operator.Div w tt g
  form_says (form.Arithmetic operator.Or w source.Immediate) h g = number_says operator.Or w tt g
  form_says (form.Arithmetic operator.Or w source.Register) h g = register_says operator.Or w tt g
  form_says (form.Arithmetic operator.And w source.Immediate) h g = number_says operator.And w tt g
  form_says (form.Arithmetic operator.And w source.Register) h g = register_says operator.And w tt g
  form_says (form.Arithmetic operator.Lsh w source.Immediate) h g = number_says operator.Lsh w tt g
  form_says (form.Arithmetic operator.Lsh w source.Register) h g = register_says operator.Lsh w tt g
  form_says (form.Arithmetic operator.Rsh w source.Immediate) h g = number_says operator.Rsh w tt g
  form_says (form.Arithmetic operator.Rsh w source.Register) h g = register_says operator.Rsh w tt g
  form_says (form.Arithmetic operator.Mod w source.Immediate) h g = number_says operator.Mod w tt g
  form_says (form.Arithmetic operator.Mod w source.Register) h g = register_says operator.Mod w tt g
  form_says (form.Arithmetic operator.Xor w source.Immediate) h g = number_says operator.Xor w tt g
  form_says (form.Arithmetic operator.Xor w source.Register) h g = register_says operator.Xor w tt g
  form_says (form.Arithmetic operator.Mov w source.Immediate) h g = number_says operator.Mov w tt g
  form_says (form.Arithmetic operator.Mov w source.Register) h g = register_says operator.Mov w tt g
  form_says (form.Arithmetic operator.Arsh w source.Immediate) h g = number_says operator.Arsh w tt g
  form_says (form.Arithmetic operator.Arsh w source.Register) h g = register_says operator.Arsh w tt g
  form_says form.Wide h g = subst
      (λ k. ParsesBack form.Wide k high) (same form.Wide i i.dst 0 (pos 0) i.imm g.op refl (zero_src g.parts.src) (int_is i.offset 0 g.parts.offset) refl)
      (wide_line i.dst i.imm high imm up g.dst)
  form_says (form.Load n) h g = subst
      (λ k. ParsesBack (form.Load n) k high) (same (form.Load n) i i.dst i.src i.offset (pos 0) g.op refl refl refl (int_is i.imm 0 g.parts.imm))
      (load_line (form.Load n) (size_text n) (Unsigned n) i.dst i.src i.offset high (unsigned_size n) refl refl g.dst g.src off)
  form_says (form.LoadSigned n) h g = subst
      (λ k. ParsesBack (form.LoadSigned n) k high) (same (form.LoadSigned n) i i.dst i.src i.offset (pos 0) g.op refl refl refl (int_is i.imm 0 g.parts.imm))
      (load_line (form.LoadSigned n) (signed_size_text n) (Signed n) i.dst i.src i.offset high (signed_size n h) refl refl g.dst g.src off)
  form_says (form.StoreImmediate n) h g = subst
      (λ k. ParsesBack (form.StoreImmediate n) k high) (same (form.StoreImmediate n) i i.dst 0 i.offset i.imm g.op refl (zero_src g.parts.src) refl refl)
      (number_store_line n i.dst i.offset i.imm high g.dst off imm)
  form_says (form.StoreRegister n) h g = subst
      (λ k. ParsesBack (form.StoreRegister n) k high) (same (form.StoreRegister n) i i.dst i.src i.offset (pos 0) g.op refl refl refl (int_is i.imm 0 g.parts.imm))
      (register_store_line n i.dst i.src i.offset high g.dst g.src off)
  form_says form.Ja h g = subst
      (λ k. ParsesBack form.Ja k high) (same form.Ja i 0 0 i.offset (pos 0) g.op (zero_dst g.parts.dst) (zero_src g.parts.src) refl (int_is i.imm 0 g.parts.imm))
      (goto_line i.offset high off)
  form_says form.Ja32 h g = subst
      (λ k. ParsesBack form.Ja32 k high) (same form.Ja32 i 0 0 (pos 0) i.imm g.op (zero_dst g.parts.dst) (zero_src g.parts.src)
      (int_is i.offset 0 g.parts.offset) refl) (gotol_line i.imm high imm)
  form_says (form.Branch c w source.Immediate) h g = subst
      (λ k. ParsesBack (form.Branch c w source.Immediate) k high) (same (form.Branch c w source.Immediate) i i.dst 0 i.offset i.imm g.op refl (zero_src g.parts.src)
      refl refl) (branch_number_line c w i.dst i.imm i.offset high g.dst imm off)
  form_says (form.Branch c w source.Register) h g = subst
      (λ k. ParsesBack (form.Branch c w source.Register) k high) (same (form.Branch c w source.Register) i i.dst i.src i.offset (pos 0) g.op refl refl refl
      (int_is i.imm 0 g.parts.imm)) (branch_register_line c w i.dst i.src i.offset high g.dst g.src off)
  form_says form.Call h g = subst
      (λ k. ParsesBack form.Call k high) (same form.Call i 0 0 (pos 0) i.imm g.op (zero_dst g.parts.dst) (zero_src g.parts.src) (int_is i.offset 0 g.parts.offset)
      refl) (call_line i.imm high imm)
  form_says form.Exit h g = subst
      (λ k. ParsesBack form.Exit k high) (same form.Exit i 0 0 (pos 0) (pos 0) g.op (zero_dst g.parts.dst) (zero_src g.parts.src) (int_is i.offset 0 g.parts.offset)
      (int_is i.imm 0 g.parts.imm)) (exit_line high)

-- ---- if `form_of` gives a form for an opcode, then `opcode_of` gives this opcode for the form

is_its_opcode : Option Form → ℕ → Bool
is_its_opcode None n = true
is_its_opcode (Some f) n = (opcode_of f == n) && has_opcode f

all_below : (ℕ → Bool) → ℕ → Bool
all_below test zero = true
all_below test (suc n) = test n && all_below test n

opcodes_are_right : all_below (λ n. is_its_opcode (form_of n) n) 256 ≡ true
unfolding is_its_opcode all_below
opcodes_are_right = refl

one_below : (test : ℕ → Bool) (n k : ℕ) → all_below test n ≡ true → k < n → test k ≡ true
unfolding all_below
one_below test zero k h l = absurd (omega arith)
one_below test (suc n) k h l =
    let parts = both_true (test n) (all_below test n) h in
    elim (cases_lt k n) [ inl a ↦ one_below test n k parts.1 a | inr b ↦ let e : n ≡ k = omega arith in subst (λ m. test m ≡ true) e parts.0 ]

opcode_is : (f : Form) (n : ℕ) → form_of n ≡ Some f → n < 256 → (opcode_of f ≡ n) × HasOpcode f
unfolding is_its_opcode
opcode_is f n is l =
    let t : is_its_opcode (form_of n) n ≡ true = one_below (λ m. is_its_opcode (form_of m) m) 256 n opcodes_are_right l in
    let h = both_true (opcode_of f == n) (has_opcode f) (sym (ap (λ o. is_its_opcode o n) is) ∙ t) in
    (eqb-true (opcode_of f) n h.0, opcode_there f h.1)

-- ---- the canonical text of a program assembles to the program

two_tests : (a b : Bool) (o : Option UnitFault) → cond (not a) (Some Field) (cond (not b) (Some BadRegister) o) ≡ None → (a ≡ true) × (b ≡ true)
two_tests true true o e = (refl, refl)
two_tests true false o e = absurd (cc)
two_tests false b o e = absurd (cc)

form_found : (o : Option Form) (i : Inst) → first_fault o i false ≡ None → (f : Form) × (o ≡ Some f) × (has_valid_fields f i ≡ true)
    × (has_valid_registers f i ≡ true)
form_found None i e = absurd (cc)
form_found (Some f) i e = let h = two_tests (has_valid_fields f i) (has_valid_registers f i) (half_wide f false) e in (f, refl, h.0, h.1)

zero32 : FitsSigned w32 (pos 0)
zero32 = search rules

high_fits : (first : Bool) (us : List ProgramUnit) → AreUnits first us → FitsSigned w32 (high_of us)
high_fits first [] h = zero32
high_fits first (First i ∷ us) h = zero32
high_fits true (Second v ∷ us) h = absurd h
high_fits false (Second v ∷ us) h = h.0

inst_says : (i : Inst) (high : ℤ) → IsInstruction i → FitsSigned w32 high → (f : Form) → form_of i.opcode ≡ Some f → has_valid_fields f i ≡ true
    → has_valid_registers f i ≡ true → ParsesBack f i high
inst_says i high s up f is fields registers =
    let op = opcode_is f i.opcode is s.opcode in
    let p = parts_of f i fields in
    let r = both_true (not (uses f).dst || nat_le i.dst 10) (not (uses f).src || nat_le i.src 10) registers in
    form_says i high s.offset s.imm up f op.1 (record {
      op = op.0;
      parts = p;
      dst = small_field (uses f).dst i.dst p.dst r.0;
      src = small_field (uses f).src i.src p.src r.1;
    })

all_say : (first : Bool) (us : List ProgramUnit) → AreUnits first us → AllParseBack first us
all_say true [] h = tt
all_say true (First i ∷ us) h =
    let found = form_found (form_of i.opcode) i h.0.sound in
    let next = not (is_wide (form_of i.opcode)) in (
      found.0,
      found.1,
      inst_says i (high_of us) h.0 (high_fits next us h.1) found.0 found.1 found.2 found.3,
      subst
          (λ o. AllParseBack (not (is_wide o)) us) found.1 (all_say next us h.1),
    )
all_say true (Second v ∷ us) h = absurd h
all_say false [] h = absurd h
all_say false (First i ∷ us) h = absurd h
all_say false (Second v ∷ us) h = all_say true us h.1

pub same_ok : (r : Result (List ProgramUnit) AsmFault) (a b : List ProgramUnit) → r ≡ Ok a → r ≡ Ok b → a ≡ b
same_ok r a b e f = cc

no_fault : (lines : List Text) (o : Option AsmFault) (code : List ProgramUnit) → assembled_with lines o ≡ Ok code → o ≡ None
no_fault lines None code e = refl
no_fault lines (Some f) code e = absurd (cc)

memory_alone : (f : AsmFault) → IsFault None f → f ≡ OutOfMemory
memory_alone (BadLine n) h = absurd (cc)
memory_alone (BadLabel n) h = absurd (cc)
memory_alone (OutOfRange n) h = absurd (cc)
memory_alone Length h = absurd (cc)
memory_alone OutOfMemory h = refl

-- a text that assembles to a program can be refused only because memory runs out
pub only_memory : (text : Text) (code : List ProgramUnit) (f : AsmFault) → assembled text ≡ Ok code → IsFault (fault_of (cut text)) f → f ≡ OutOfMemory
only_memory text code f e h = memory_alone f (subst (λ o. IsFault o f) (no_fault (cut text) (fault_of (cut text)) code e) h)

-- the canonical text of a program assembles to the program
pub canon_spells : (code : List ProgramUnit) → IsProgram code → assembled (canonical_text code) ≡ Ok code
canon_spells code p =
    let count = count_of_units p.0 code p.1 in
    spells_again code count.0 count.1 (all_say true code (units_of_program code p))

pub round_trip : RoundTrip
round_trip code p = (canon_spells code p, λ other e. same_ok (assembled (canonical_text code)) other code e (canon_spells code p))

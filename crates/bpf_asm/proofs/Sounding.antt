-- The grammar gives only instructions of this profile: each has its form's opcode, and the fields that the form takes.
use Rattle.std.proofs.Common.{◌≡◌, ℕ, ◌-◌, List, [], ◌∷◌, map, Option, Some, None, Bool, true, false, refl, ap, ◌∙◌, arith}
use Rattle.std.specs.Prelude.{◌&&◌, ◌||◌, ◌==◌, nat_le, cond, pos, option_map, slice_index, ⊤}
use Rattle.std.specs.List.{list_all}
use Rattle.std.specs.Str.{bytes_eq}
use Rattle.std.specs.Char.{is_ascii_digit}
use Rattle.std.proofs.lemmas.Bool.Decides.{nat_tests}
use Rattle.bpf_model.specs.declared.instruction.Width.{Width}
use Rattle.bpf_model.specs.declared.instruction.Width.TheVariants.{Bits32, Bits64}
use Rattle.bpf_model.specs.declared.instruction.Source.{Source}
use Rattle.bpf_model.specs.declared.instruction.Source.TheVariants as source
use Rattle.bpf_model.specs.declared.instruction.Operator.{Operator}
use Rattle.bpf_model.specs.declared.instruction.Operator.TheVariants as operator
use Rattle.bpf_model.specs.declared.instruction.Condition.{Condition}
use Rattle.bpf_model.specs.declared.instruction.Condition.TheVariants as condition
use Rattle.bpf_model.specs.declared.instruction.Size.{Size}
use Rattle.bpf_model.specs.declared.instruction.Size.TheVariants.{Byte, Half, Word, Double}
use Rattle.bpf_model.specs.declared.instruction.Form.{Form}
use Rattle.bpf_model.specs.declared.instruction.Form.TheVariants as form
use Rattle.bpf_model.specs.Reading.{form_of, has_form, has_valid_fields, extends_from}
use Rattle.bpf_asm.specs.declared.token.Token.{Token}
use Rattle.bpf_asm.specs.declared.token.Token.TheVariants.{Register, Number, Assign, Compare, Unsigned, Signed, Swap, If, Goto, GotoLong, Call, Exit, Long}
use Rattle.bpf_asm.specs.declared.token.Token.TheVariants.{Open, Close, Star, Plus, Minus, Colon, Name}
use Rattle.bpf_asm.specs.declared.grammar.Value.{Value}
use Rattle.bpf_asm.specs.declared.grammar.Fields.{Fields}
use Rattle.bpf_asm.specs.declared.grammar.Target.{Target}
use Rattle.bpf_asm.specs.declared.grammar.Statement.{Statement}
use Rattle.bpf_asm.specs.declared.grammar.Statement.TheVariants.{Plain, Wide}
use Rattle.bpf_asm.specs.declared.grammar.Line.{Line}
use Rattle.bpf_asm.specs.declared.grammar.Line.TheVariants as line
use Rattle.bpf_asm.specs.Lex.{Text, Table, symbols, words, lookup, numbered, register_or_name, kind_of, small, number_value}
use Rattle.bpf_asm.specs.Grammar.{Tokens, plus, minus, exactly, fields, is_same, when, operand, sized, based, plain, load_form, load_with, load_of, extension}
use Rattle.bpf_asm.specs.Grammar.{extend, swap, is_full, guarded, first_some, only_assigned, assigned, stored, store_with, store_of, target, jump_to, branch}
use Rattle.bpf_asm.specs.Grammar.{no_fields, statement, is_word, line_of}
use Rattle.bpf_asm.specs.Program.{Row, row_with, row_by, row_of, words_of, with_row, rows_of, opcode_of, inst_of, int_of}
use Rattle.bpf_asm.specs.Sound.{IsSoundForm, IsJump, IsSound, AreSound}

-- ---- the decoder reads the opcode of a form as this form, if this profile has the form

arithmetic_opcode : (op : Operator) (w : Width) (s : Source) → has_form op w s ≡ true
    → form_of (opcode_of (form.Arithmetic op w s)) ≡ Some (form.Arithmetic op w s)
arithmetic_opcode operator.Add Bits32 source.Immediate h = refl
arithmetic_opcode operator.Add Bits32 source.Register h = refl
arithmetic_opcode operator.Add Bits64 source.Immediate h = refl
arithmetic_opcode operator.Add Bits64 source.Register h = refl
arithmetic_opcode operator.Sub Bits32 source.Immediate h = refl
arithmetic_opcode operator.Sub Bits32 source.Register h = refl
arithmetic_opcode operator.Sub Bits64 source.Immediate h = refl
arithmetic_opcode operator.Sub Bits64 source.Register h = refl
arithmetic_opcode operator.Mul Bits32 source.Immediate h = refl
arithmetic_opcode operator.Mul Bits32 source.Register h = refl
arithmetic_opcode operator.Mul Bits64 source.Immediate h = refl
arithmetic_opcode operator.Mul Bits64 source.Register h = refl
arithmetic_opcode operator.Div Bits32 source.Immediate h = refl
arithmetic_opcode operator.Div Bits32 source.Register h = refl
arithmetic_opcode operator.Div Bits64 source.Immediate h = refl
arithmetic_opcode operator.Div Bits64 source.Register h = refl
arithmetic_opcode operator.Or Bits32 source.Immediate h = refl
arithmetic_opcode operator.Or Bits32 source.Register h = refl
arithmetic_opcode operator.Or Bits64 source.Immediate h = refl
arithmetic_opcode operator.Or Bits64 source.Register h = refl
arithmetic_opcode operator.And Bits32 source.Immediate h = refl
arithmetic_opcode operator.And Bits32 source.Register h = refl
arithmetic_opcode operator.And Bits64 source.Immediate h = refl
arithmetic_opcode operator.And Bits64 source.Register h = refl
arithmetic_opcode operator.Lsh Bits32 source.Immediate h = refl
arithmetic_opcode operator.Lsh Bits32 source.Register h = refl
arithmetic_opcode operator.Lsh Bits64 source.Immediate h = refl
arithmetic_opcode operator.Lsh Bits64 source.Register h = refl
arithmetic_opcode operator.Rsh Bits32 source.Immediate h = refl
arithmetic_opcode operator.Rsh Bits32 source.Register h = refl
arithmetic_opcode operator.Rsh Bits64 source.Immediate h = refl
arithmetic_opcode operator.Rsh Bits64 source.Register h = refl
arithmetic_opcode operator.Neg Bits32 source.Immediate h = refl
arithmetic_opcode operator.Neg Bits32 source.Register h = absurd (cc)
arithmetic_opcode operator.Neg Bits64 source.Immediate h = refl
arithmetic_opcode operator.Neg Bits64 source.Register h = absurd (cc)
arithmetic_opcode operator.Mod Bits32 source.Immediate h = refl
arithmetic_opcode operator.Mod Bits32 source.Register h = refl
arithmetic_opcode operator.Mod Bits64 source.Immediate h = refl
arithmetic_opcode operator.Mod Bits64 source.Register h = refl
arithmetic_opcode operator.Xor Bits32 source.Immediate h = refl
arithmetic_opcode operator.Xor Bits32 source.Register h = refl
arithmetic_opcode operator.Xor Bits64 source.Immediate h = refl
arithmetic_opcode operator.Xor Bits64 source.Register h = refl
arithmetic_opcode operator.Mov Bits32 source.Immediate h = refl
arithmetic_opcode operator.Mov Bits32 source.Register h = refl
arithmetic_opcode operator.Mov Bits64 source.Immediate h = refl
arithmetic_opcode operator.Mov Bits64 source.Register h = refl
arithmetic_opcode operator.Arsh Bits32 source.Immediate h = refl
arithmetic_opcode operator.Arsh Bits32 source.Register h = refl
arithmetic_opcode operator.Arsh Bits64 source.Immediate h = refl
arithmetic_opcode operator.Arsh Bits64 source.Register h = refl
arithmetic_opcode operator.SwapBytes Bits32 source.Immediate h = refl
arithmetic_opcode operator.SwapBytes Bits32 source.Register h = refl
arithmetic_opcode operator.SwapBytes Bits64 source.Immediate h = refl
arithmetic_opcode operator.SwapBytes Bits64 source.Register h = absurd (cc)

branch_opcode : (c : Condition) (w : Width) (s : Source) → form_of (opcode_of (form.Branch c w s)) ≡ Some (form.Branch c w s)
branch_opcode condition.Jeq Bits32 source.Immediate = refl
branch_opcode condition.Jeq Bits32 source.Register = refl
branch_opcode condition.Jeq Bits64 source.Immediate = refl
branch_opcode condition.Jeq Bits64 source.Register = refl
branch_opcode condition.Jgt Bits32 source.Immediate = refl
branch_opcode condition.Jgt Bits32 source.Register = refl
branch_opcode condition.Jgt Bits64 source.Immediate = refl
branch_opcode condition.Jgt Bits64 source.Register = refl
branch_opcode condition.Jge Bits32 source.Immediate = refl
branch_opcode condition.Jge Bits32 source.Register = refl
branch_opcode condition.Jge Bits64 source.Immediate = refl
branch_opcode condition.Jge Bits64 source.Register = refl
branch_opcode condition.Jset Bits32 source.Immediate = refl
branch_opcode condition.Jset Bits32 source.Register = refl
branch_opcode condition.Jset Bits64 source.Immediate = refl
branch_opcode condition.Jset Bits64 source.Register = refl
branch_opcode condition.Jne Bits32 source.Immediate = refl
branch_opcode condition.Jne Bits32 source.Register = refl
branch_opcode condition.Jne Bits64 source.Immediate = refl
branch_opcode condition.Jne Bits64 source.Register = refl
branch_opcode condition.Jsgt Bits32 source.Immediate = refl
branch_opcode condition.Jsgt Bits32 source.Register = refl
branch_opcode condition.Jsgt Bits64 source.Immediate = refl
branch_opcode condition.Jsgt Bits64 source.Register = refl
branch_opcode condition.Jsge Bits32 source.Immediate = refl
branch_opcode condition.Jsge Bits32 source.Register = refl
branch_opcode condition.Jsge Bits64 source.Immediate = refl
branch_opcode condition.Jsge Bits64 source.Register = refl
branch_opcode condition.Jlt Bits32 source.Immediate = refl
branch_opcode condition.Jlt Bits32 source.Register = refl
branch_opcode condition.Jlt Bits64 source.Immediate = refl
branch_opcode condition.Jlt Bits64 source.Register = refl
branch_opcode condition.Jle Bits32 source.Immediate = refl
branch_opcode condition.Jle Bits32 source.Register = refl
branch_opcode condition.Jle Bits64 source.Immediate = refl
branch_opcode condition.Jle Bits64 source.Register = refl
branch_opcode condition.Jslt Bits32 source.Immediate = refl
branch_opcode condition.Jslt Bits32 source.Register = refl
branch_opcode condition.Jslt Bits64 source.Immediate = refl
branch_opcode condition.Jslt Bits64 source.Register = refl
branch_opcode condition.Jsle Bits32 source.Immediate = refl
branch_opcode condition.Jsle Bits32 source.Register = refl
branch_opcode condition.Jsle Bits64 source.Immediate = refl
branch_opcode condition.Jsle Bits64 source.Register = refl

load_opcode : (size : Size) → form_of (opcode_of (form.Load size)) ≡ Some (form.Load size)
load_opcode Byte = refl
load_opcode Half = refl
load_opcode Word = refl
load_opcode Double = refl

number_store_opcode : (size : Size) → form_of (opcode_of (form.StoreImmediate size)) ≡ Some (form.StoreImmediate size)
number_store_opcode Byte = refl
number_store_opcode Half = refl
number_store_opcode Word = refl
number_store_opcode Double = refl

register_store_opcode : (size : Size) → form_of (opcode_of (form.StoreRegister size)) ≡ Some (form.StoreRegister size)
register_store_opcode Byte = refl
register_store_opcode Half = refl
register_store_opcode Word = refl
register_store_opcode Double = refl

-- ---- a token is sound if its register, operator, size or swap is one of this profile

-- Whether this profile has an instruction with this operator, the number n in its offset field, and just a register or
-- a number as its second operand, as in `r1 += r2` or `r1 += 5`. So the result is false for NEG and END, and for the
-- offset of a MOV that extends a sign.
abbrev takes : Operator → ℕ → Bool
takes operator.Add n = n == 0
takes operator.Sub n = n == 0
takes operator.Mul n = n == 0
takes operator.Div n = (n == 0) || (n == 1)
takes operator.Or n = n == 0
takes operator.And n = n == 0
takes operator.Lsh n = n == 0
takes operator.Rsh n = n == 0
takes operator.Neg n = false
takes operator.Mod n = (n == 0) || (n == 1)
takes operator.Xor n = n == 0
takes operator.Mov n = n == 0
takes operator.Arsh n = n == 0
takes operator.SwapBytes n = false

abbrev not_double : Size → Bool
not_double Double = false
not_double Byte = true
not_double Half = true
not_double Word = true

abbrev is_sound : Token → Bool
is_sound (Register w n) = nat_le n 10
is_sound (Assign op n) = takes op n
is_sound (Signed size) = not_double size
is_sound (Swap w s bits) = has_form operator.SwapBytes w s && ((bits == 16) || (bits == 32) || (bits == 64))
is_sound token = true

and_left : (a b : Bool) → (a && b) ≡ true → a ≡ true
and_left true b h = refl
and_left false b h = h

and_right : (a b : Bool) → (a && b) ≡ true → b ≡ true
and_right true b h = h
and_right false b h = absurd (cc)

both : (a b : Bool) → a ≡ true → b ≡ true → (a && b) ≡ true
both a b g h = ap (λ x. x && b) g ∙ h

alone : (a : Bool) → a ≡ true → (a && true) ≡ true
alone a g = ap (λ x. x && true) g

-- ---- an instruction whose parts come from sound tokens is one of this profile

immediate_fields : (op : Operator) (n : ℕ) (w : Width) (dst : ℕ) (v : Value) → takes op n ≡ true
    → has_valid_fields (form.Arithmetic op w source.Immediate) (inst_of (form.Arithmetic op w source.Immediate) dst 0 (int_of (exactly n)) (int_of v)) ≡ true
immediate_fields operator.Add n w dst v h = h
immediate_fields operator.Sub n w dst v h = h
immediate_fields operator.Mul n w dst v h = h
immediate_fields operator.Div n w dst v h = h
immediate_fields operator.Or n w dst v h = h
immediate_fields operator.And n w dst v h = h
immediate_fields operator.Lsh n w dst v h = h
immediate_fields operator.Rsh n w dst v h = h
immediate_fields operator.Neg n w dst v h = absurd (cc)
immediate_fields operator.Mod n w dst v h = h
immediate_fields operator.Xor n w dst v h = h
immediate_fields operator.Mov n w dst v h = ap (λ b. b || extends_from w source.Immediate (pos n)) h
immediate_fields operator.Arsh n w dst v h = h
immediate_fields operator.SwapBytes n w dst v h = absurd (cc)

register_fields : (op : Operator) (n : ℕ) (w : Width) (dst src : ℕ) → takes op n ≡ true
    → has_valid_fields (form.Arithmetic op w source.Register) (inst_of (form.Arithmetic op w source.Register) dst src (int_of (exactly n)) (int_of (exactly 0)))
    ≡ true
register_fields operator.Add n w dst src h = h
register_fields operator.Sub n w dst src h = h
register_fields operator.Mul n w dst src h = h
register_fields operator.Div n w dst src h = h
register_fields operator.Or n w dst src h = h
register_fields operator.And n w dst src h = h
register_fields operator.Lsh n w dst src h = h
register_fields operator.Rsh n w dst src h = h
register_fields operator.Neg n w dst src h = absurd (cc)
register_fields operator.Mod n w dst src h = h
register_fields operator.Xor n w dst src h = h
register_fields operator.Mov n w dst src h = ap (λ b. b || extends_from w source.Register (pos n)) h
register_fields operator.Arsh n w dst src h = h
register_fields operator.SwapBytes n w dst src h = absurd (cc)

immediate_plain : (op : Operator) (n : ℕ) (w : Width) (dst : ℕ) (v : Value) → takes op n ≡ true → nat_le dst 10 ≡ true
    → IsSoundForm (form.Arithmetic op w source.Immediate) (fields dst 0 (exactly n) v)
immediate_plain operator.Add n w dst v h d = record {
  is_of = record {
    form_is = arithmetic_opcode operator.Add w source.Immediate refl;
    narrow = refl;
    dst = d;
    src = refl;
  };
  fields = immediate_fields operator.Add n w dst v h;
  registers = alone (nat_le dst 10) d;
}
immediate_plain operator.Sub n w dst v h d = record {
  is_of = record {
    form_is = arithmetic_opcode operator.Sub w source.Immediate refl;
    narrow = refl;
    dst = d;
    src = refl;
  };
  fields = immediate_fields operator.Sub n w dst v h;
  registers = alone (nat_le dst 10) d;
}
immediate_plain operator.Mul n w dst v h d = record {
  is_of = record {
    form_is = arithmetic_opcode operator.Mul w source.Immediate refl;
    narrow = refl;
    dst = d;
    src = refl;
  };
  fields = immediate_fields operator.Mul n w dst v h;
  registers = alone (nat_le dst 10) d;
}
immediate_plain operator.Div n w dst v h d = record {
  is_of = record {
    form_is = arithmetic_opcode operator.Div w source.Immediate refl;
    narrow = refl;
    dst = d;
    src = refl;
  };
  fields = immediate_fields operator.Div n w dst v h;
  registers = alone (nat_le dst 10) d;
}
immediate_plain operator.Or n w dst v h d = record {
  is_of = record {
    form_is = arithmetic_opcode operator.Or w source.Immediate refl;
    narrow = refl;
    dst = d;
    src = refl;
  };
  fields = immediate_fields operator.Or n w dst v h;
  registers = alone (nat_le dst 10) d;
}
immediate_plain operator.And n w dst v h d = record {
  is_of = record {
    form_is = arithmetic_opcode operator.And w source.Immediate refl;
    narrow = refl;
    dst = d;
    src = refl;
  };
  fields = immediate_fields operator.And n w dst v h;
  registers = alone (nat_le dst 10) d;
}
immediate_plain operator.Lsh n w dst v h d = record {
  is_of = record {
    form_is = arithmetic_opcode operator.Lsh w source.Immediate refl;
    narrow = refl;
    dst = d;
    src = refl;
  };
  fields = immediate_fields operator.Lsh n w dst v h;
  registers = alone (nat_le dst 10) d;
}
immediate_plain operator.Rsh n w dst v h d = record {
  is_of = record {
    form_is = arithmetic_opcode operator.Rsh w source.Immediate refl;
    narrow = refl;
    dst = d;
    src = refl;
  };
  fields = immediate_fields operator.Rsh n w dst v h;
  registers = alone (nat_le dst 10) d;
}
immediate_plain operator.Neg n w dst v h d = absurd (cc)
immediate_plain operator.Mod n w dst v h d = record {
  is_of = record {
    form_is = arithmetic_opcode operator.Mod w source.Immediate refl;
    narrow = refl;
    dst = d;
    src = refl;
  };
  fields = immediate_fields operator.Mod n w dst v h;
  registers = alone (nat_le dst 10) d;
}
immediate_plain operator.Xor n w dst v h d = record {
  is_of = record {
    form_is = arithmetic_opcode operator.Xor w source.Immediate refl;
    narrow = refl;
    dst = d;
    src = refl;
  };
  fields = immediate_fields operator.Xor n w dst v h;
  registers = alone (nat_le dst 10) d;
}
immediate_plain operator.Mov n w dst v h d = record {
  is_of = record {
    form_is = arithmetic_opcode operator.Mov w source.Immediate refl;
    narrow = refl;
    dst = d;
    src = refl;
  };
  fields = immediate_fields operator.Mov n w dst v h;
  registers = alone (nat_le dst 10) d;
}
immediate_plain operator.Arsh n w dst v h d = record {
  is_of = record {
    form_is = arithmetic_opcode operator.Arsh w source.Immediate refl;
    narrow = refl;
    dst = d;
    src = refl;
  };
  fields = immediate_fields operator.Arsh n w dst v h;
  registers = alone (nat_le dst 10) d;
}
immediate_plain operator.SwapBytes n w dst v h d = absurd (cc)

register_plain : (op : Operator) (n : ℕ) (w : Width) (dst src : ℕ) → takes op n ≡ true → nat_le dst 10 ≡ true → nat_le src 10 ≡ true
    → IsSoundForm (form.Arithmetic op w source.Register) (fields dst src (exactly n) (exactly 0))
register_plain operator.Add n w dst src h d e = record {
  is_of = record {
    form_is = arithmetic_opcode operator.Add w source.Register refl;
    narrow = refl;
    dst = d;
    src = e;
  };
  fields = register_fields operator.Add n w dst src h;
  registers = both (nat_le dst 10) (nat_le src 10) d e;
}
register_plain operator.Sub n w dst src h d e = record {
  is_of = record {
    form_is = arithmetic_opcode operator.Sub w source.Register refl;
    narrow = refl;
    dst = d;
    src = e;
  };
  fields = register_fields operator.Sub n w dst src h;
  registers = both (nat_le dst 10) (nat_le src 10) d e;
}
register_plain operator.Mul n w dst src h d e = record {
  is_of = record {
    form_is = arithmetic_opcode operator.Mul w source.Register refl;
    narrow = refl;
    dst = d;
    src = e;
  };
  fields = register_fields operator.Mul n w dst src h;
  registers = both (nat_le dst 10) (nat_le src 10) d e;
}
register_plain operator.Div n w dst src h d e = record {
  is_of = record {
    form_is = arithmetic_opcode operator.Div w source.Register refl;
    narrow = refl;
    dst = d;
    src = e;
  };
  fields = register_fields operator.Div n w dst src h;
  registers = both (nat_le dst 10) (nat_le src 10) d e;
}
register_plain operator.Or n w dst src h d e = record {
  is_of = record {
    form_is = arithmetic_opcode operator.Or w source.Register refl;
    narrow = refl;
    dst = d;
    src = e;
  };
  fields = register_fields operator.Or n w dst src h;
  registers = both (nat_le dst 10) (nat_le src 10) d e;
}
register_plain operator.And n w dst src h d e = record {
  is_of = record {
    form_is = arithmetic_opcode operator.And w source.Register refl;
    narrow = refl;
    dst = d;
    src = e;
  };
  fields = register_fields operator.And n w dst src h;
  registers = both (nat_le dst 10) (nat_le src 10) d e;
}
register_plain operator.Lsh n w dst src h d e = record {
  is_of = record {
    form_is = arithmetic_opcode operator.Lsh w source.Register refl;
    narrow = refl;
    dst = d;
    src = e;
  };
  fields = register_fields operator.Lsh n w dst src h;
  registers = both (nat_le dst 10) (nat_le src 10) d e;
}
register_plain operator.Rsh n w dst src h d e = record {
  is_of = record {
    form_is = arithmetic_opcode operator.Rsh w source.Register refl;
    narrow = refl;
    dst = d;
    src = e;
  };
  fields = register_fields operator.Rsh n w dst src h;
  registers = both (nat_le dst 10) (nat_le src 10) d e;
}
register_plain operator.Neg n w dst src h d e = absurd (cc)
register_plain operator.Mod n w dst src h d e = record {
  is_of = record {
    form_is = arithmetic_opcode operator.Mod w source.Register refl;
    narrow = refl;
    dst = d;
    src = e;
  };
  fields = register_fields operator.Mod n w dst src h;
  registers = both (nat_le dst 10) (nat_le src 10) d e;
}
register_plain operator.Xor n w dst src h d e = record {
  is_of = record {
    form_is = arithmetic_opcode operator.Xor w source.Register refl;
    narrow = refl;
    dst = d;
    src = e;
  };
  fields = register_fields operator.Xor n w dst src h;
  registers = both (nat_le dst 10) (nat_le src 10) d e;
}
register_plain operator.Mov n w dst src h d e = record {
  is_of = record {
    form_is = arithmetic_opcode operator.Mov w source.Register refl;
    narrow = refl;
    dst = d;
    src = e;
  };
  fields = register_fields operator.Mov n w dst src h;
  registers = both (nat_le dst 10) (nat_le src 10) d e;
}
register_plain operator.Arsh n w dst src h d e = record {
  is_of = record {
    form_is = arithmetic_opcode operator.Arsh w source.Register refl;
    narrow = refl;
    dst = d;
    src = e;
  };
  fields = register_fields operator.Arsh n w dst src h;
  registers = both (nat_le dst 10) (nat_le src 10) d e;
}
register_plain operator.SwapBytes n w dst src h d e = absurd (cc)

negate_plain : (w : Width) (dst : ℕ) → nat_le dst 10 ≡ true
    → IsSoundForm (form.Arithmetic operator.Neg w source.Immediate) (fields dst 0 (exactly 0) (exactly 0))
negate_plain w dst d = record {
  is_of = record { form_is = arithmetic_opcode operator.Neg w source.Immediate refl; narrow = refl; dst = d; src = refl };
  fields = refl;
  registers = alone (nat_le dst 10) d;
}

swap_plain : (w : Width) (s : Source) (bits dst : ℕ) → has_form operator.SwapBytes w s ≡ true → ((bits == 16) || (bits == 32) || (bits == 64)) ≡ true
    → nat_le dst 10 ≡ true → IsSoundForm (form.Arithmetic operator.SwapBytes w s) (fields dst 0 (exactly 0) (exactly bits))
swap_plain w s bits dst f b d = record {
  is_of = record { form_is = arithmetic_opcode operator.SwapBytes w s f; narrow = refl; dst = d; src = refl };
  fields = b;
  registers = alone (nat_le dst 10) d;
}

move_plain : (w : Width) (bits dst src : ℕ) → extends_from w source.Register (pos bits) ≡ true → nat_le dst 10 ≡ true → nat_le src 10 ≡ true
    → has_valid_fields (form.Arithmetic operator.Mov w source.Register) (inst_of (form.Arithmetic operator.Mov w source.Register) dst src (pos bits) (pos 0))
    ≡ true → IsSoundForm (form.Arithmetic operator.Mov w source.Register) (fields dst src (exactly bits) (exactly 0))
move_plain w bits dst src h d e f = record {
  is_of = record {
    form_is = arithmetic_opcode operator.Mov w source.Register refl;
    narrow = refl;
    dst = d;
    src = e;
  };
  fields = f;
  registers = both (nat_le dst 10) (nat_le src 10) d e;
}

-- ---- a statement that is parsed from sound tokens is an instruction of this profile

abbrev SoundOption : Option Statement → Type 0
SoundOption None = ⊤
SoundOption (Some s) = IsSound (line.Statement s)

when_sound : (b : Bool) (s : Statement) → IsSound (line.Statement s) → SoundOption (when b s)
when_sound true s h = h
when_sound false s h = tt

guarded_sound : (b : Bool) (o : Option Statement) → SoundOption o → SoundOption (guarded b o)
guarded_sound true o h = h
guarded_sound false o h = tt

first_sound : (a b : Option Statement) → SoundOption a → SoundOption b → SoundOption (first_some a b)
first_sound None b g h = h
first_sound (Some s) b g h = g

operand_sound : (op : Operator) (n : ℕ) (w : Width) (dst : ℕ) (tokens : Tokens) → takes op n ≡ true → nat_le dst 10 ≡ true → list_all is_sound tokens ≡ true
    → SoundOption (operand op n w dst tokens)
operand_sound op n w dst (Register v src ∷ []) a d t =
    when_sound (is_same w v) (Plain (form.Arithmetic op w source.Register) (fields dst src (exactly n) (exactly 0)))
    (register_plain op n w dst src a d (and_left (nat_le src 10) true t))
operand_sound op n w dst (Number k ∷ []) a d t = immediate_plain op n w dst (plus k) a d
operand_sound op n w dst (Minus ∷ Number k ∷ []) a d t = immediate_plain op n w dst (minus k) a d
operand_sound op n w dst tokens a d t = tt

abbrev SoundPlace : Option (ℕ × Value × Tokens) → Type 0
SoundPlace None = ⊤
SoundPlace (Some (base, offset, rest)) = (nat_le base 10 ≡ true) × (list_all is_sound rest ≡ true)

based_sound : (tokens : Tokens) → list_all is_sound tokens ≡ true → SoundPlace (based tokens)
based_sound (Open ∷ Register Bits64 base ∷ Plus ∷ Number n ∷ Close ∷ rest) t =
    (and_left (nat_le base 10) (list_all is_sound rest) t, and_right (nat_le base 10) (list_all is_sound rest) t)
based_sound (Open ∷ Register Bits64 base ∷ Minus ∷ Number n ∷ Close ∷ rest) t =
    (and_left (nat_le base 10) (list_all is_sound rest) t, and_right (nat_le base 10) (list_all is_sound rest) t)
based_sound tokens t = tt

load_plain : (size : Size) (dst base : ℕ) (offset : Value) → nat_le dst 10 ≡ true → nat_le base 10 ≡ true
    → IsSoundForm (form.Load size) (fields dst base offset (exactly 0))
load_plain size dst base offset d b = record {
  is_of = record { form_is = load_opcode size; narrow = refl; dst = d; src = b };
  fields = refl;
  registers = both (nat_le dst 10) (nat_le base 10) d b;
}

signed_opcode : (size : Size) → not_double size ≡ true → form_of (opcode_of (form.LoadSigned size)) ≡ Some (form.LoadSigned size)
signed_opcode Byte h = refl
signed_opcode Half h = refl
signed_opcode Word h = refl
signed_opcode Double h = absurd (cc)

signed_plain : (size : Size) (dst base : ℕ) (offset : Value) → not_double size ≡ true → nat_le dst 10 ≡ true → nat_le base 10 ≡ true
    → IsSoundForm (form.LoadSigned size) (fields dst base offset (exactly 0))
signed_plain size dst base offset h d b = record {
  is_of = record { form_is = signed_opcode size h; narrow = refl; dst = d; src = b };
  fields = refl;
  registers = both (nat_le dst 10) (nat_le base 10) d b;
}

load_by : (dst : ℕ) (size : Token) (place : Option (ℕ × Value × Tokens)) → nat_le dst 10 ≡ true → is_sound size ≡ true → SoundPlace place
    → SoundOption (load_with dst (load_form size) place)
load_by dst (Unsigned size) (Some (base, offset, [])) d h p = load_plain size dst base offset d p.0
load_by dst (Unsigned size) (Some (base, offset, token ∷ rest)) d h p = tt
load_by dst (Unsigned size) None d h p = tt
load_by dst (Signed size) (Some (base, offset, [])) d h p = signed_plain size dst base offset h d p.0
load_by dst (Signed size) (Some (base, offset, token ∷ rest)) d h p = tt
load_by dst (Signed size) None d h p = tt
load_by dst token place d h p = tt

load_sound : (dst : ℕ) (tokens : Tokens) → nat_le dst 10 ≡ true → list_all is_sound tokens ≡ true → SoundOption (load_of dst (sized tokens))
load_sound dst (Open ∷ size ∷ Star ∷ Close ∷ rest) d t = load_by dst size (based rest) d (and_left (is_sound size) (list_all is_sound rest) t)
    (based_sound rest (and_right (is_sound size) (list_all is_sound rest) t))
load_sound dst tokens d t = tt

extend_sound : (w : Width) (dst src : ℕ) (size : Size) → nat_le dst 10 ≡ true → nat_le src 10 ≡ true → SoundOption (extend w dst src (extension w size))
extend_sound Bits32 dst src Byte d e = move_plain Bits32 8 dst src refl d e refl
extend_sound Bits64 dst src Byte d e = move_plain Bits64 8 dst src refl d e refl
extend_sound Bits32 dst src Half d e = move_plain Bits32 16 dst src refl d e refl
extend_sound Bits64 dst src Half d e = move_plain Bits64 16 dst src refl d e refl
extend_sound Bits64 dst src Word d e = move_plain Bits64 32 dst src refl d e refl
extend_sound Bits32 dst src Word d e = tt
extend_sound Bits32 dst src Double d e = tt
extend_sound Bits64 dst src Double d e = tt

only_assigned_sound : (w : Width) (dst : ℕ) (tokens : Tokens) → nat_le dst 10 ≡ true → list_all is_sound tokens ≡ true
    → SoundOption (only_assigned w dst tokens)
only_assigned_sound w dst (Minus ∷ Register v src ∷ []) d t =
    when_sound (is_same w v && (dst == src)) (plain (form.Arithmetic operator.Neg w source.Immediate) dst 0 (exactly 0) (exactly 0)) (negate_plain w dst d)
only_assigned_sound w dst (Open ∷ Signed size ∷ Close ∷ Register v src ∷ []) d t = guarded_sound (is_same w v) (extend w dst src (extension w size))
    (extend_sound w dst src size d (and_left (nat_le src 10) true (and_right (not_double size) (nat_le src 10 && true) t)))
only_assigned_sound w dst (Swap v s bits ∷ Register Bits64 src ∷ []) d t =
    let h = and_left (has_form operator.SwapBytes v s && ((bits == 16) || (bits == 32) || (bits == 64))) (nat_le src 10 && true) t in
    when_sound (is_full w && (dst == src)) (swap v s bits dst)
    (swap_plain v s bits dst (and_left (has_form operator.SwapBytes v s) ((bits == 16) || (bits == 32) || (bits == 64)) h)
    (and_right (has_form operator.SwapBytes v s) ((bits == 16) || (bits == 32) || (bits == 64)) h) d)
only_assigned_sound w dst (Number n ∷ Long ∷ []) d t = when_sound (is_full w) (Wide dst n) d
only_assigned_sound w dst (Star ∷ rest) d t = guarded_sound (is_full w) (load_of dst (sized rest)) (load_sound dst rest d t)
only_assigned_sound w dst tokens d t = tt

assigned_sound : (w : Width) (dst : ℕ) (tokens : Tokens) → nat_le dst 10 ≡ true → list_all is_sound tokens ≡ true → SoundOption (assigned w dst tokens)
assigned_sound w dst tokens d t = first_sound (only_assigned w dst tokens) (operand operator.Mov 0 w dst tokens) (only_assigned_sound w dst tokens d t)
    (operand_sound operator.Mov 0 w dst tokens refl d t)

number_store_plain : (size : Size) (base : ℕ) (offset v : Value) → nat_le base 10 ≡ true → IsSoundForm (form.StoreImmediate size) (fields base 0 offset v)
number_store_plain size base offset v b =
    record { is_of = record { form_is = number_store_opcode size; narrow = refl; dst = b; src = refl }; fields = refl; registers = alone (nat_le base 10) b }

register_store_plain : (size : Size) (base src : ℕ) (offset : Value) → nat_le base 10 ≡ true → nat_le src 10 ≡ true
    → IsSoundForm (form.StoreRegister size) (fields base src offset (exactly 0))
register_store_plain size base src offset b e = record {
  is_of = record { form_is = register_store_opcode size; narrow = refl; dst = b; src = e };
  fields = refl;
  registers = both (nat_le base 10) (nat_le src 10) b e;
}

stored_sound : (size : Size) (base : ℕ) (offset : Value) (tokens : Tokens) → nat_le base 10 ≡ true → list_all is_sound tokens ≡ true
    → SoundOption (stored size base offset tokens)
stored_sound size base offset (Assign operator.Mov o ∷ Register Bits64 src ∷ []) b t =
    register_store_plain size base src offset b (and_left (nat_le src 10) true (and_right (o == 0) (nat_le src 10 && true) t))
stored_sound size base offset (Assign operator.Mov o ∷ Number n ∷ []) b t = number_store_plain size base offset (plus n) b
stored_sound size base offset (Assign operator.Mov o ∷ Minus ∷ Number n ∷ []) b t = number_store_plain size base offset (minus n) b
stored_sound size base offset tokens b t = tt

store_by : (size : Token) (place : Option (ℕ × Value × Tokens)) → SoundPlace place → SoundOption (store_with size place)
store_by (Unsigned size) (Some (base, offset, rest)) p = stored_sound size base offset rest p.0 p.1
store_by (Unsigned size) None p = tt
store_by token place p = tt

store_sound : (tokens : Tokens) → list_all is_sound tokens ≡ true → SoundOption (store_of (sized tokens))
store_sound (Open ∷ size ∷ Star ∷ Close ∷ rest) t = store_by size (based rest) (based_sound rest (and_right (is_sound size) (list_all is_sound rest) t))
store_sound tokens t = tt

jump_sound : (f : Form) (p : Fields) (o : Option Target) → IsJump f p → SoundOption (jump_to f p o)
jump_sound f p None h = tt
jump_sound f p (Some t) h = h

goto_jump : IsJump form.Ja no_fields
goto_jump = record { is_of = record { form_is = refl; narrow = refl; dst = refl; src = refl }; fields = λ z. refl; registers = λ z. refl; opcode = λ z. refl }

long_jump : IsJump form.Ja32 no_fields
long_jump = record { is_of = record { form_is = refl; narrow = refl; dst = refl; src = refl }; fields = λ z. refl; registers = λ z. refl; opcode = λ z. refl }

register_jump : (c : Condition) (w : Width) (dst src : ℕ) → nat_le dst 10 ≡ true → nat_le src 10 ≡ true
    → IsJump (form.Branch c w source.Register) (fields dst src (exactly 0) (exactly 0))
register_jump c w dst src d e = record {
  is_of = record { form_is = branch_opcode c w source.Register; narrow = refl; dst = d; src = e };
  fields = λ z. refl;
  registers = λ z. both (nat_le dst 10) (nat_le src 10) d e;
  opcode = λ z. refl;
}

number_jump : (c : Condition) (w : Width) (dst : ℕ) (v : Value) → nat_le dst 10 ≡ true → IsJump (form.Branch c w source.Immediate) (fields dst 0 (exactly 0) v)
number_jump c w dst v d = record {
  is_of = record { form_is = branch_opcode c w source.Immediate; narrow = refl; dst = d; src = refl };
  fields = λ z. refl;
  registers = λ z. alone (nat_le dst 10) d;
  opcode = λ z. refl;
}

branch_sound : (c : Condition) (w : Width) (dst : ℕ) (tokens : Tokens) → nat_le dst 10 ≡ true → list_all is_sound tokens ≡ true
    → SoundOption (branch c w dst tokens)
branch_sound c w dst (Register v src ∷ Goto ∷ rest) d t =
    guarded_sound (is_same w v) (jump_to (form.Branch c w source.Register) (fields dst src (exactly 0) (exactly 0)) (target rest))
    (jump_sound (form.Branch c w source.Register) (fields dst src (exactly 0) (exactly 0)) (target rest)
    (register_jump c w dst src d (and_left (nat_le src 10) (list_all is_sound rest) t)))
branch_sound c w dst (Number n ∷ Goto ∷ rest) d t =
    jump_sound (form.Branch c w source.Immediate) (fields dst 0 (exactly 0) (plus n)) (target rest) (number_jump c w dst (plus n) d)
branch_sound c w dst (Minus ∷ Number n ∷ Goto ∷ rest) d t =
    jump_sound (form.Branch c w source.Immediate) (fields dst 0 (exactly 0) (minus n)) (target rest) (number_jump c w dst (minus n) d)
branch_sound c w dst tokens d t = tt

call_plain : (v : Value) → IsSoundForm form.Call (fields 0 0 (exactly 0) v)
call_plain v = record { is_of = record { form_is = refl; narrow = refl; dst = refl; src = refl }; fields = refl; registers = refl }

exit_plain : IsSoundForm form.Exit (fields 0 0 (exactly 0) (exactly 0))
exit_plain = record { is_of = record { form_is = refl; narrow = refl; dst = refl; src = refl }; fields = refl; registers = refl }

statement_sound : (tokens : Tokens) → list_all is_sound tokens ≡ true → SoundOption (statement tokens)
statement_sound (Register w dst ∷ Assign operator.Mov offset ∷ rest) t =
    assigned_sound w dst rest (and_left (nat_le dst 10) ((offset == 0) && list_all is_sound rest) t)
    (and_right (offset == 0) (list_all is_sound rest) (and_right (nat_le dst 10) ((offset == 0) && list_all is_sound rest) t))
statement_sound (Register w dst ∷ Assign op offset ∷ rest) t =
    let more = and_right (nat_le dst 10) (takes op offset && list_all is_sound rest) t in
    operand_sound op offset w dst rest (and_left (takes op offset) (list_all is_sound rest) more)
    (and_left (nat_le dst 10) (takes op offset && list_all is_sound rest) t) (and_right (takes op offset) (list_all is_sound rest) more)
statement_sound (Star ∷ rest) t = store_sound rest t
statement_sound (Goto ∷ rest) t = jump_sound form.Ja no_fields (target rest) goto_jump
statement_sound (GotoLong ∷ rest) t = jump_sound form.Ja32 no_fields (target rest) long_jump
statement_sound (If ∷ Register w dst ∷ Compare c ∷ rest) t =
    branch_sound c w dst rest (and_left (nat_le dst 10) (list_all is_sound rest) t) (and_right (nat_le dst 10) (list_all is_sound rest) t)
statement_sound (Call ∷ Number n ∷ []) t = call_plain (plus n)
statement_sound (Call ∷ Minus ∷ Number n ∷ []) t = call_plain (minus n)
statement_sound (Exit ∷ []) t = exit_plain
statement_sound tokens t = tt

-- ---- each line that is parsed is empty, defines a label, or is an instruction of this profile

abbrev SoundLine : Option Line → Type 0
SoundLine None = ⊤
SoundLine (Some l) = IsSound l

said_sound : (o : Option Statement) → SoundOption o → SoundLine (option_map line.Statement o)
said_sound None h = tt
said_sound (Some s) h = h

label_sound : (b : Bool) → SoundLine (when b line.Label)
label_sound true = tt
label_sound false = tt

line_sound : (tokens : Tokens) → list_all is_sound tokens ≡ true → SoundLine (line_of tokens)
line_sound [] t = tt
line_sound (token ∷ Colon ∷ []) t = label_sound (is_word token)
line_sound tokens t = said_sound (statement tokens) (statement_sound tokens t)

cond_sound : (b : Bool) (x y : Token) → is_sound x ≡ true → is_sound y ≡ true → is_sound (cond b x y) ≡ true
cond_sound true x y g h = g
cond_sound false x y g h = h

lookup_sound : (table : Table) (text : Text) (other : Token) → list_all (λ (e : Text × Token). is_sound e.1) table ≡ true → is_sound other ≡ true
    → is_sound (lookup table text other) ≡ true
lookup_sound [] text other all h = h
lookup_sound (e ∷ table) text other all h =
    cond_sound (bytes_eq e.0 text) e.1 (lookup table text other) (and_left (is_sound e.1) (list_all (λ (e : Text × Token). is_sound e.1) table) all)
    (lookup_sound table text other (and_right (is_sound e.1) (list_all (λ (e : Text × Token). is_sound e.1) table) all) h)

symbols_sound : list_all (λ (e : Text × Token). is_sound e.1) symbols ≡ true
symbols_sound = refl

words_sound : list_all (λ (e : Text × Token). is_sound e.1) words ≡ true
words_sound = refl

digit_small : (d : ℕ) → is_ascii_digit d ≡ true → nat_le (d - 48) 10 ≡ true
digit_small d h = grind (arith, nat_tests)

digit_by : (w : Width) (d : ℕ) (b : Bool) → is_ascii_digit d ≡ b → is_sound (cond b (Register w (d - 48)) Name) ≡ true
digit_by w d true h = digit_small d h
digit_by w d false h = refl

numbered_sound : (w : Width) (text : Text) → is_sound (numbered w text) ≡ true
numbered_sound w [] = refl
numbered_sound w (c ∷ []) = refl
numbered_sound w (c ∷ d ∷ []) = digit_by w d (is_ascii_digit d) refl
numbered_sound w (c ∷ d ∷ e ∷ []) = cond_sound ((d == 49) && (e == 48)) (Register w 10) Name refl refl
numbered_sound w (c ∷ d ∷ e ∷ f ∷ text) = refl

register_sound : (text : Text) → is_sound (register_or_name text) ≡ true
register_sound text =
    cond_sound (slice_index text 0 == 114) (numbered Bits64 text) (cond (slice_index text 0 == 119) (numbered Bits32 text) Name) (numbered_sound Bits64 text)
    (cond_sound (slice_index text 0 == 119) (numbered Bits32 text) Name (numbered_sound Bits32 text) refl)

kind_sound : (text : Text) → is_sound (kind_of text) ≡ true
kind_sound text = cond_sound (is_ascii_digit (slice_index text 0)) (Number (small (number_value text)))
    (lookup symbols text (lookup words text (register_or_name text))) refl (lookup_sound symbols text (lookup words text (register_or_name text)) symbols_sound
    (lookup_sound words text (register_or_name text) words_sound (register_sound text)))

kinds_sound : (texts : List Text) → list_all is_sound (map kind_of texts) ≡ true
kinds_sound [] = refl
kinds_sound (text ∷ texts) = both (is_sound (kind_of text)) (list_all is_sound (map kind_of texts)) (kind_sound text) (kinds_sound texts)

abbrev SoundRow : Option Row → Type 0
SoundRow None = ⊤
SoundRow (Some r) = IsSound r.parsed

row_with_sound : (o : Option Line) (texts : List Text) → SoundLine o → SoundRow (row_with o texts)
row_with_sound None texts h = tt
row_with_sound (Some l) texts h = h

row_by_sound : (o : Option (List Text)) → SoundRow (row_by o)
row_by_sound None = tt
row_by_sound (Some texts) = row_with_sound (line_of (map kind_of texts)) texts (line_sound (map kind_of texts) (kinds_sound texts))

with_row_sound : (o : Option Row) (rows : List Row) → SoundRow o → AreSound rows → AreSound (with_row o rows)
with_row_sound None rows g h = h
with_row_sound (Some r) rows g h = (g, h)

-- Each row (parsed line) of a text is empty, defines a label, or is an instruction of this profile. Whether the numbers
-- of an instruction are in range isn't stated.
pub rows_sound : (lines : List Text) → AreSound (rows_of lines)
rows_sound [] = tt
rows_sound (text ∷ lines) = with_row_sound (row_of text) (rows_of lines) (row_by_sound (words_of text)) (rows_sound lines)

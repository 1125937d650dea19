-- Promises: the grammar gives only instructions of this profile.
use Rattle.std.specs.Prelude.{◌≡◌, ℕ, true, false, nat_le, ℤ, List, [], ◌∷◌, Some, ⊤}
use Rattle.bpf_model.specs.declared.instruction.Form.{Form}
use Rattle.bpf_model.specs.Reading.{form_of, has_valid_fields, has_valid_registers, is_wide}
use Rattle.bpf_asm.specs.declared.grammar.Fields.{Fields}
use Rattle.bpf_asm.specs.declared.grammar.Statement.TheVariants.{Plain, Wide, Jump}
use Rattle.bpf_asm.specs.declared.grammar.Line.{Line}
use Rattle.bpf_asm.specs.declared.grammar.Line.TheVariants as line
use Rattle.bpf_asm.specs.Program.{Row, opcode_of, inst_of, int_of, jump_inst}

-- The decoder reads the opcode of the form f as f again, and f isn't a wide load. d and s are numbers of registers, 0
-- to 10.
pub record IsNarrowForm (f : Form) (d s : ℕ) : Type 0 where
  pub form_is : form_of (opcode_of f) ≡ Some f
  pub narrow : is_wide (Some f) ≡ false
  pub dst : nat_le d 10 ≡ true
  pub src : nat_le s 10 ≡ true

pub record IsSoundForm (f : Form) (p : Fields) : Type 0 where
  pub is_of : IsNarrowForm f p.dst p.src
  pub fields : has_valid_fields f (inst_of f p.dst p.src (int_of p.offset) (int_of p.imm)) ≡ true
  pub registers : has_valid_registers f (inst_of f p.dst p.src (int_of p.offset) (int_of p.imm)) ≡ true

-- For every distance, the jump of this form with these fields is an instruction of this profile.
pub record IsJump (f : Form) (p : Fields) : Type 0 where
  pub is_of : IsNarrowForm f p.dst p.src
  pub fields : (z : ℤ) → has_valid_fields f (jump_inst f p z) ≡ true
  pub registers : (z : ℤ) → has_valid_registers f (jump_inst f p z) ≡ true
  pub opcode : (z : ℤ) → (jump_inst f p z).opcode ≡ opcode_of f

abbrev pub IsSound : Line → Type 0
IsSound line.Empty = ⊤
IsSound line.Label = ⊤
IsSound (line.Statement (Plain f p)) = IsSoundForm f p
IsSound (line.Statement (Wide dst n)) = nat_le dst 10 ≡ true
IsSound (line.Statement (Jump f p t)) = IsJump f p

abbrev pub AreSound : List Row → Type 0
AreSound [] = ⊤
AreSound (r ∷ rows) = IsSound r.parsed × AreSound rows

-- Promises: conditions on units and on their order. If 1 to 512 units meet them (`AreUnits`), the units are a program.
use Rattle.std.specs.Prelude.{◌≡◌, ◌<◌, Bool, true, false, not, List, [], ◌∷◌, None, FitsSigned, ⊤}
use Rattle.std.specs.Int.{w16, w32}
use Rattle.bpf_model.specs.declared.instruction.Inst.{Inst}
use Rattle.bpf_model.specs.declared.instruction.Unit.{Unit as ProgramUnit}
use Rattle.bpf_model.specs.declared.instruction.Unit.TheVariants.{First, Second}
use Rattle.bpf_model.specs.Reading.{form_of, first_fault, is_wide}

-- each field's value fits the bits of the field, and the instruction has no fault if another unit follows it
pub record IsInstruction (i : Inst) : Type 0 where
  pub opcode : i.opcode < 256
  pub dst : i.dst < 16
  pub src : i.src < 16
  pub offset : FitsSigned w16 i.offset
  pub imm : FitsSigned w32 i.imm
  pub sound : first_fault (form_of i.opcode) i false ≡ None

-- The units are instructions without a fault, each wide load followed by its second unit. The list begins with an
-- instruction if the Bool is true, and with a wide load's second unit if it is false.
abbrev pub AreUnits : Bool → List ProgramUnit → Type 0
AreUnits true [] = ⊤
AreUnits true (First i ∷ us) = IsInstruction i × AreUnits (not (is_wide (form_of i.opcode))) us
AreUnits true (Second v ∷ us) = ⊥
AreUnits false [] = ⊥
AreUnits false (First i ∷ us) = ⊥
AreUnits false (Second v ∷ us) = FitsSigned w32 v × AreUnits true us

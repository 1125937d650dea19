-- Definitions: the text of the instruction at a unit, and a program's text with the numbers of its units (source: this
-- project).
use Rattle.std.specs.Prelude.{ℕ, ◌+◌, List, [], ◌∷◌, ◌++◌, Option, Some, None, codes, drop}
use Rattle.std.specs.Fmt.{decimal}
use Rattle.bpf_model.specs.declared.instruction.Unit.{Unit as ProgramUnit}
use Rattle.bpf_model.specs.declared.instruction.Unit.TheVariants.{First, Second}
use Rattle.bpf_model.specs.Reading.{form_of}
use Rattle.bpf_asm.specs.Text.{instruction_text, high_of}

-- the line of the instruction that begins at the first of these units; None if none begins there
abbrev pub front_line : List ProgramUnit → Option (List ℕ)
front_line [] = None
front_line (First i ∷ units) = Some (instruction_text (form_of i.opcode) i (high_of units))
front_line (Second v ∷ units) = None

-- the line of the instruction that begins at unit `number`; None if none begins there
abbrev pub line_of_unit : List ProgramUnit → ℕ → Option (List ℕ)
line_of_unit units number = front_line (drop number units)

-- the lines of a program, each with the number of its instruction's first unit before it; the units are numbered from
-- `number` on
abbrev pub numbered_from : ℕ → List ProgramUnit → List ℕ
numbered_from number [] = []
numbered_from number (First i ∷ units) =
    (decimal number ++ codes ": " ++ instruction_text (form_of i.opcode) i (high_of units)) ++ numbered_from (number + 1) units
numbered_from number (Second v ∷ units) = numbered_from (number + 1) units

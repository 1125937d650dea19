-- Definitions: what `fc asm`, `fc dis` and `fc verify` print of a file that they accept (source: this project).
use Rattle.std.specs.Prelude.{◌≡◌, ◌≤◌, ℕ, ◌/◌, List, ◌++◌, length, codes, Some, None, Result, Ok, Err}
use Rattle.std.specs.Fmt.{decimal}
use Rattle.bpf_model.specs.declared.context.Layout.{Layout}
use Rattle.bpf_model.specs.declared.instruction.Unit.{Unit as ProgramUnit}
use Rattle.bpf_model.specs.Program.{ProgramText, IsGood, as_loaded}
use Rattle.bpf_model.specs.Reading.{units}
use Rattle.bpf_model.specs.Encoded.{encoded}
use Rattle.bpf_asm.specs.declared.program_file.ProgramFileFault.{ProgramFileFault}
use Rattle.bpf_asm.specs.Program.{AssemblesTo}
use Rattle.bpf_asm.specs.ProgramFile.{unit_lines}
use Rattle.verifier.specs.RefusedPrograms.{refusal_of}

-- The text has at most 65,536 bytes and assembles to a program, and the program's units are printed.
abbrev pub Assembles : List ℕ → List ℕ → Type 0
Assembles text printed =
    (length text ≤ 65536) × ((code : List ProgramUnit) × AssemblesTo text code × (printed ≡ unit_lines (encoded code)))

-- The file is a program file, and its bytes can be decoded as these units.
abbrev pub DecodesTo : Result (List ℕ) ProgramFileFault → List ProgramUnit → Type 0
DecodesTo (Ok bytes) code = units bytes ≡ Some code
DecodesTo (Err fault) code = ⊥

-- The file is a program file, its bytes can be decoded as units, and the text of these units is printed.
abbrev pub Disassembles : (List ProgramUnit → List ℕ) → Result (List ℕ) ProgramFileFault → List ℕ → Type 0
Disassembles text_of file printed = (code : List ProgramUnit) × DecodesTo file code × (printed ≡ text_of code)

-- The verifier accepts the program. The program is good: with contexts of its layout, every run of it ends safely and
-- changes only counters that it declares.
pub record IsAcceptedAndGood (p : ProgramText) : Type 0 where
  pub accepted : refusal_of p ≡ None
  pub good : IsGood p

-- The file is a program file, and the verifier accepts its program, this one, which declares these counters, for
-- contexts of this layout.
abbrev pub VerifiesAs : Result (List ℕ) ProgramFileFault → ℕ → Layout → ProgramText → Type 0
VerifiesAs (Ok bytes) counters layout p = IsAcceptedAndGood p × (p ≡ as_loaded bytes counters layout)
VerifiesAs (Err fault) counters layout p = ⊥

-- The file is a program file, the verifier accepts its program, which declares these counters, for contexts of this
-- layout, and the number of its units is printed.
abbrev pub Verifies : Result (List ℕ) ProgramFileFault → ℕ → Layout → List ℕ → Type 0
Verifies (Ok bytes) counters layout printed =
    IsAcceptedAndGood (as_loaded bytes counters layout)
    × (printed ≡ codes "accepted " ++ (decimal (length bytes / 8) ++ codes "\n"))
Verifies (Err fault) counters layout printed = ⊥

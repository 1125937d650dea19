-- Definitions: why `fc asm`, `fc dis` and `fc verify` refuse a file, and the line that is printed of it (source: this
-- project).
use Rattle.std.specs.Prelude.{◌≡◌, ◌≢◌, ◌<◌, ◌≤◌, ℕ, ⊤, List, [], ◌++◌, length, codes}
use Rattle.std.specs.Prelude.{Option, Some, None, Result, Ok, Err}
use Rattle.std.specs.Fmt.{decimal}
use Rattle.bpf_model.specs.declared.context.Layout.{Layout}
use Rattle.bpf_model.specs.Program.{as_loaded}
use Rattle.bpf_model.specs.DecodeFaults.{IsRefusedFor}
use Rattle.bpf_model.specs.declared.decode.DecodeFault.{DecodeFault}
use Rattle.bpf_model.specs.declared.decode.DecodeFault.TheVariants as decode
use Rattle.bpf_asm.specs.declared.AsmFault.TheVariants as asm
use Rattle.bpf_asm.specs.declared.program_file.ProgramFileFault.{ProgramFileFault}
use Rattle.bpf_asm.specs.declared.program_file.ProgramFileFault.TheVariants as file
use Rattle.bpf_asm.specs.Flaws.{Explains}
use Rattle.bpf_asm.specs.Program.{IsRefused}
use Rattle.verifier.specs.declared.refusal.Refusal.TheVariants.{Decode}
use Rattle.verifier.specs.Refusals.{Numbers, refusal_numbers}
use Rattle.till_request.specs.declared.act.Answer.TheVariants as answer
use Rattle.till_request.specs.Answer.{answer_line}
use Rattle.file_jobs.specs.declared.reasons.RefusedProgram.{RefusedProgram}
use Rattle.file_jobs.specs.declared.file_flaws.FileFlaw.{FileFlaw}
use Rattle.file_jobs.specs.declared.file_flaws.FileFlaw.TheVariants.{File, Text, Program, OutOfMemory}
use Rattle.file_jobs.specs.Reasons.{IsExplained, Names}

-- The flaw is why `fc asm` refuses a text: it has over 65,536 bytes, or it can't be assembled for this fault, which the
-- assembler's flaw explains. Memory can run out at any time.
abbrev pub IsAsmFlaw : List ℕ → FileFlaw → Type 0
IsAsmFlaw text (File file.TooLong) = 65536 < length text
IsAsmFlaw text (Text fault flaw) =
    (length text ≤ 65536) × IsRefused text fault × (fault ≢ asm.OutOfMemory) × Explains text fault flaw
IsAsmFlaw text OutOfMemory = ⊤
IsAsmFlaw text flaw = ⊥

-- `reported` is why the bytes can't be decoded as units, with the line of the unit at fault (`line_named`) if there is
-- one. The fault isn't that memory ran out.
pub record IsUndecoded (bytes : List ℕ) (reported : RefusedProgram) : Type 0 where
  pub fault : DecodeFault
  pub refused : IsRefusedFor bytes fault
  pub is_fault_of_input : fault ≢ decode.OutOfMemory
  pub refusal_is : reported.refusal ≡ Decode fault
  pub names : Names bytes reported

-- The flaw is why `fc dis` refuses a file: it isn't a program file, or its bytes can't be decoded as units. Memory can
-- run out at any time.
abbrev pub IsDisFlaw : Result (List ℕ) ProgramFileFault → FileFlaw → Type 0
IsDisFlaw (Err fault) (File reported) = fault ≡ reported
IsDisFlaw (Ok bytes) (Program reported) = IsUndecoded bytes reported
IsDisFlaw read OutOfMemory = ⊤
IsDisFlaw read flaw = ⊥

-- The flaw is why `fc verify` refuses a file: it isn't a program file, or its program is refused for contexts of this
-- layout. Memory can run out at any time.
abbrev pub IsVerifyFlaw : Result (List ℕ) ProgramFileFault → ℕ → Layout → FileFlaw → Type 0
IsVerifyFlaw (Err fault) counters layout (File reported) = fault ≡ reported
IsVerifyFlaw (Ok bytes) counters layout (Program reported) = IsExplained (as_loaded bytes counters layout) reported
IsVerifyFlaw read counters layout OutOfMemory = ⊤
IsVerifyFlaw read counters layout flaw = ⊥

-- the flaw for a fault of a program file
abbrev pub flaw_of : ProgramFileFault → FileFlaw
flaw_of file.OutOfMemory = OutOfMemory
flaw_of fault = File fault

-- the line for a refused program, given the numbers of the refusal; empty if it has none
abbrev pub refusal_line : Option Numbers → List ℕ
refusal_line None = []
refusal_line (Some p) = answer_line (answer.Program p.0 p.1 p.2)

-- the line that is printed of a file with this flaw; empty if memory ran out
abbrev pub line_of : FileFlaw → List ℕ
line_of (File file.TooLong) = codes "L1\n"
line_of (File file.BadDigits) = codes "H1\n"
line_of (Text (asm.BadLine line) flaw) = codes "A1 " ++ (decimal line ++ codes "\n")
line_of (Text (asm.BadLabel line) flaw) = codes "A2 " ++ (decimal line ++ codes "\n")
line_of (Text (asm.OutOfRange line) flaw) = codes "A3 " ++ (decimal line ++ codes "\n")
line_of (Text asm.Length flaw) = codes "A4\n"
line_of (Program reported) = refusal_line (refusal_numbers reported.refusal)
line_of flaw = []

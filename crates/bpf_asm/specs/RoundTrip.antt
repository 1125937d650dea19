-- Promises: the text of a program, as `disassemble` writes it, assembles to the program.
use Rattle.std.specs.Prelude.{◌≡◌, List}
use Rattle.bpf_model.specs.declared.instruction.Unit.{Unit as ProgramUnit}
use Rattle.bpf_model.specs.DecodeFaults.{IsProgram}
use Rattle.bpf_asm.specs.Program.{AssemblesTo}
use Rattle.bpf_asm.specs.Text.{canonical_text}

-- the text of a program, as `disassemble` writes it (`canonical_text`), assembles to the program, and to no other
abbrev pub RoundTrip : Type 0
RoundTrip = (code : List ProgramUnit) → IsProgram code → AssemblesTo (canonical_text code) code × ((other : List ProgramUnit) → AssemblesTo (canonical_text code) other → other ≡ code)

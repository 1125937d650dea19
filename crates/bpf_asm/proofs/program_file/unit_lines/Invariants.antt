use Rattle.std.proofs.Common.{◌≡◌, string_bytes}
use Rattle.bpf_asm.specs.ProgramFile.{lines_below}
use Rattle.bpf_asm.proofs.program_file.unit_lines.Given as goal

-- the text so far has the lines of all units before `unit`
abbrev pub invariant-loop-unit : goal.invariant-loop-unit
invariant-loop-unit l = string_bytes l.text ≡ lines_below l.bytes l.unit

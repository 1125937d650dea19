use Rattle.std.proofs.Common.{◌≡◌, ◌++◌, ◌+◌, ◌≤◌, string_bytes, length}
use Rattle.bpf_asm.specs.Numbered.{numbered_from}
use Rattle.bpf_asm.proofs.disassemble_numbered.Given as goal

abbrev pub invariant-loop-unit : goal.invariant-loop-unit
invariant-loop-unit l = record { said : string_bytes l.out ++ numbered_from l.number l.rest ≡ numbered_from 0 l.code; few : l.number + length l.rest ≤ 512 }

abbrev pub decreases-loop-unit : goal.decreases-loop-unit
decreases-loop-unit l = length l.rest

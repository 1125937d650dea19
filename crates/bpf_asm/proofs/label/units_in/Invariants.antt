use Rattle.std.proofs.Common.{◌≡◌, ◌+◌, ◌*◌, ◌≤◌, length, map}
use Rattle.bpf_asm.specs.Program.{row, units_in}
use Rattle.bpf_asm.proofs.label.units_in.Given as goal

abbrev pub invariant-loop-rest : goal.invariant-loop-rest
invariant-loop-rest l =
    (l.units + units_in (map (λ p. row p.0 p.1.now) l.rest) ≡ units_in (map (λ p. row p.0 p.1.now) l.rows)) × (l.units + 2 * length l.rest ≤ 2 * length l.rows)

abbrev pub decreases-loop-rest : goal.decreases-loop-rest
decreases-loop-rest l = length l.rest

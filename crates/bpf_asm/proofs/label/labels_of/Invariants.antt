use Rattle.std.proofs.Common.{◌≡◌, ◌+◌, ◌*◌, ◌≤◌, ◌++◌, length, map}
use Rattle.bpf_asm.specs.Program.{row, definition, labels_from}
use Rattle.bpf_asm.proofs.label.labels_of.Given as goal

abbrev pub invariant-loop-rest : goal.invariant-loop-rest
invariant-loop-rest l =
    (map (λ d. definition d.0.now d.1) l.labels.items ++ labels_from l.at (map (λ p. row p.0 p.1.now) l.rest)
    ≡ labels_from 0 (map (λ p. row p.0 p.1.now) l.rows)) × (l.at + 2 * length l.rest ≤ 2 * length l.rows)

abbrev pub decreases-loop-rest : goal.decreases-loop-rest
decreases-loop-rest l = length l.rest

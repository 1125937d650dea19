use Rattle.std.proofs.Common.{◌≡◌, ◌+◌, length, map, []}
use Rattle.bpf_asm.specs.Program.{row, definition, label_fault}
use Rattle.bpf_asm.proofs.label.label_fault.Given as goal

abbrev pub invariant-loop-rest : goal.invariant-loop-rest
invariant-loop-rest l =
    (label_fault (map (λ d. definition d.0.now d.1) l.labels) l.number (map (λ t. t.now) l.seen.items) (map (λ p. row p.0 p.1.now) l.rest)
    ≡ label_fault (map (λ d. definition d.0.now d.1) l.labels) 1 [] (map (λ p. row p.0 p.1.now) l.rows)) × (l.number + length l.rest ≡ 1 + length l.rows)

abbrev pub decreases-loop-rest : goal.decreases-loop-rest
decreases-loop-rest l = length l.rest

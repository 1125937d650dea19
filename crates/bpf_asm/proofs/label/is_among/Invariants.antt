use Rattle.std.proofs.Common.{◌≡◌, length, map}
use Rattle.bpf_asm.specs.Program.{is_among}
use Rattle.bpf_asm.proofs.label.is_among.Given as goal

abbrev pub invariant-loop-names : goal.invariant-loop-names
invariant-loop-names l = is_among (map (λ t. t.now) l.names) l.name ≡ is_among (map (λ t. t.now) l.initial.names) l.name

abbrev pub decreases-loop-names : goal.decreases-loop-names
decreases-loop-names l = length l.names

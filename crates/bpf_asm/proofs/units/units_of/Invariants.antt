use Rattle.std.proofs.Common.{◌≡◌, ◌+◌, ◌++◌, ◌≤◌, length, map}
use Rattle.bpf_asm.specs.Program.{row, definition, units_from, units_in, AreInRange}
use Rattle.bpf_asm.proofs.units.units_of.Given as goal

abbrev pub invariant-loop-rest : goal.invariant-loop-rest
invariant-loop-rest l =
    record {
      units : l.units.items ++ units_from (map (λ d. definition d.0.now d.1) l.labels) l.at (map (λ p. row p.0 p.1.now) l.rest)
          ≡ units_from (map (λ d. definition d.0.now d.1) l.labels) 0 (map (λ p. row p.0 p.1.now) l.rows);
      right : AreInRange (map (λ p. row p.0 p.1.now) l.rest);
      few : l.at + units_in (map (λ p. row p.0 p.1.now) l.rest) ≤ 512;
    }

abbrev pub decreases-loop-rest : goal.decreases-loop-rest
decreases-loop-rest l = length l.rest

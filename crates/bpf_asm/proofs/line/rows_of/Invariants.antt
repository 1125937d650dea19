use Rattle.std.proofs.Common.{◌≡◌, ◌+◌, ◌++◌, length, map}
use Rattle.bpf_asm.specs.Program.{row, rows_of, first_line_fault}
use Rattle.bpf_asm.proofs.line.rows_of.Given as goal

abbrev pub invariant-loop-rest : goal.invariant-loop-rest
invariant-loop-rest l =
    record {
      rows : map (λ p. row p.0 p.1.now) l.rows.items ++ rows_of (map (λ t. t.now) l.rest) ≡ rows_of (map (λ t. t.now) l.lines);
      fault : first_line_fault l.number (map (λ t. t.now) l.rest) ≡ first_line_fault 1 (map (λ t. t.now) l.lines);
      number : l.number + length l.rest ≡ 1 + length l.lines;
    }

abbrev pub decreases-loop-rest : goal.decreases-loop-rest
decreases-loop-rest l = length l.rest

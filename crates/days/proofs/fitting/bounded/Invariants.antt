use Rattle.std.proofs.Common.{◌≡◌, ℕ, ◌<◌, length}
use Rattle.bpf_model.specs.Machine.{counter}
use Rattle.days.proofs.fitting.bounded.Given as goal

abbrev pub invariant-loop-c : goal.invariant-loop-c
invariant-loop-c l =
    record {
      many : length l.cells ≡ 32;
      filled : (k : ℕ) → k < l.c → counter l.cells k ≡ ((counter l.counters k).0, (counter l.bounds k).1);
    }

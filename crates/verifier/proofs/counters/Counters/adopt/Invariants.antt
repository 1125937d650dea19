use Rattle.std.proofs.Common.{◌≡◌, ℕ, ◌<◌, ◌≤◌, length}
use Rattle.bpf_model.specs.Machine.{counter}
use Rattle.bpf_model.specs.Runs.{AreCounters}
use Rattle.verifier.specs.CounterChanges.{adopted}
use Rattle.verifier.proofs.counters.Counters.adopt.Given as goal

abbrev pub invariant-loop-c : goal.invariant-loop-c
invariant-loop-c l =
    record {
      right : AreCounters l.self-inside.cells;
      below : (k : ℕ) → k < l.c → counter l.self-inside.cells k ≡ adopted l.declared l.other l.fn.self k;
      above : (k : ℕ) → l.c ≤ k → counter l.self-inside.cells k ≡ counter l.fn.self k;
    }

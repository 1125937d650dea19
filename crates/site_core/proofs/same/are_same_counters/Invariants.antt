use Rattle.std.proofs.Common.{◌≡◌, ℕ, ◌<◌}
use Rattle.bpf_model.specs.Machine.{counter}
use Rattle.site_core.proofs.same.are_same_counters.Given as goal

abbrev pub invariant-loop-c : goal.invariant-loop-c
invariant-loop-c l = (k : ℕ) → k < l.c → counter l.a k ≡ counter l.b k

use Rattle.std.proofs.Common.{◌≡◌, ℕ, ◌<◌}
use Rattle.std.specs.Prelude.{IsTrue}
use Rattle.bpf_model.specs.Machine.{counter}
use Rattle.site_core.specs.Decide.{is_declared}
use Rattle.site_core.proofs.comparing.first_counter.Given as goal

abbrev pub invariant-loop-c : goal.invariant-loop-c
invariant-loop-c l = (k : ℕ) → k < l.c → IsTrue (is_declared l.declared k) → counter l.a k ≡ counter l.b k

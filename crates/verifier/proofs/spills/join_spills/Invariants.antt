use Rattle.std.proofs.Common.{◌≡◌, ◌≤◌, ℕ, ◌<◌, length}
use Rattle.std.specs.Prelude.{slice_index}
use Rattle.verifier.proofs.Keeping.{both_spill}
use Rattle.verifier.proofs.spills.join_spills.Given as goal

abbrev pub invariant-loop-k : goal.invariant-loop-k
invariant-loop-k l =
    record {
      many : length l.spills ≡ 64;
      joined : (j : ℕ) → j < l.k → slice_index l.spills j ≡ both_spill (slice_index l.initial.spills j) (slice_index l.others j);
      rest : (j : ℕ) → l.k ≤ j → slice_index l.spills j ≡ slice_index l.initial.spills j;
    }

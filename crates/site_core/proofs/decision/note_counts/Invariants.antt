use Rattle.std.proofs.Common.{◌≡◌, ℕ, ◌<◌, ◌≤◌, length, get_or, None}
use Rattle.site_core.specs.Decide.{count_of}
use Rattle.site_core.proofs.decision.note_counts.Given as goal

abbrev pub invariant-loop-c : goal.invariant-loop-c
invariant-loop-c l =
    record {
      many : length l.counts ≡ 32;
      below : (k : ℕ) → k < l.c → get_or l.counts k None ≡ count_of l.mask l.before l.after k;
      above : (k : ℕ) → l.c ≤ k → get_or l.counts k None ≡ None;
    }

use Rattle.std.proofs.Common.{◌≡◌, ℕ, ◌<◌, ◌≤◌, length}
use Rattle.verifier.specs.Rules.{type_at, join_type}
use Rattle.verifier.proofs.types.Fact.join.Given as goal

abbrev pub invariant-loop-r : goal.invariant-loop-r
invariant-loop-r l =
    record {
      many : length l.self.types ≡ 11;
      joined : (k : ℕ) → k < l.r → type_at l.self.types k ≡ join_type (type_at l.initial.self.types k) (type_at l.initial.other.types k);
      others : (k : ℕ) → l.r ≤ k → type_at l.self.types k ≡ type_at l.initial.self.types k;
      stack : l.self.stack ≡ l.initial.self.stack;
      spills : l.self.spills ≡ l.initial.self.spills;
      other_many : length l.other.types ≡ 11;
      other_joined : (k : ℕ) → k < l.r → type_at l.other.types k ≡ join_type (type_at l.initial.self.types k) (type_at l.initial.other.types k);
      other_others : (k : ℕ) → l.r ≤ k → type_at l.other.types k ≡ type_at l.initial.other.types k;
    }

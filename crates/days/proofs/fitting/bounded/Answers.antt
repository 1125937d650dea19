use Rattle.std.proofs.Common.{◌≡◌, ◌<◌, ◌+◌, ◌∙◌, ℕ, set, length, ap, arith, inl, inr, subst}
use Rattle.std.proofs.lemmas.List.{get_or-set_same, get_or-set_other, length-set}
use Rattle.std.proofs.lemmas.Bool.{cases_lt}
use Rattle.bpf_model.specs.Machine.{Counters, counter}
use Rattle.days.proofs.fitting.bounded.Goals as goal

-- if each counter before c is what `f` gives, and counter c is set to `f c`, then each counter up to and including c is
-- what `f` gives
one_more : (cells : Counters) (c : ℕ) (x : ℕ × ℕ) (f : ℕ → ℕ × ℕ) → c < length cells → x ≡ f c
    → ((k : ℕ) → k < c → counter cells k ≡ f k) → (k : ℕ) → k < c + 1 → counter (set cells c x) k ≡ f k
one_more cells c x f lt e before k within = elim (cases_lt k c) [
  | inl below ↦ get_or-set_other cells c k x (0, 0) (omega arith) ∙ before k below
  | inr above ↦
      let same : c ≡ k = omega arith in
      subst (λ n. counter (set cells c x) n ≡ f n) same (get_or-set_same cells c x (0, 0) lt ∙ e)
]

pub loop-c-preserved : goal.loop-c-preserved
loop-c-preserved c = record {
  many = length-set c.loop-c.cells c.loop-c.c _ ∙ c.loop-c.invariant.many;
  filled =
      one_more c.loop-c.cells c.loop-c.c _ (λ k. ((counter c.args.counters.now k).0, (counter c.args.bounds.now k).1))
      (omega (arith, c.loop-c.invariant.many, c.loop-c-test.true))
      (ap (λ value. (value, (counter c.args.bounds.now c.loop-c.c).1)) c.get.ensures.value) c.loop-c.invariant.filled;
}

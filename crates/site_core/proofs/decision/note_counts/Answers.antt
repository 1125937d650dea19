use Rattle.std.proofs.Common.{◌≡◌, ℕ, zero, suc, get_or, length, replicate, Option, None, refl, arith, sym, ap, ◌∙◌}
use Rattle.std.proofs.Common.{◌/◌, ◌^◌, ◌<◌, ◌≤◌, ◌⊎◌, inl, inr, List}
use Rattle.std.proofs.lemmas.Bool.{cases_lt}
use Rattle.std.proofs.lemmas.List.FromFn.{fill_by_all}
use Rattle.bpf_model.specs.Machine.{Counters}
use Rattle.site_core.specs.Decide.{counts, count_of}
use Rattle.site_core.proofs.Counted.{none_above, none-counted}
use Rattle.site_core.proofs.decision.note_counts.Goals as goal

by_place : (mask : ℕ) (before after : Counters) (noted : List (Option (ℕ × ℕ))) (c : ℕ) → mask / 2 ^ c ≡ 0
    → ((k : ℕ) → k < c → get_or noted k None ≡ count_of mask before after k) → ((k : ℕ) → c ≤ k → get_or noted k None ≡ None)
    → (k : ℕ) → (k < c) ⊎ (c ≤ k) → get_or noted k None ≡ count_of mask before after k
by_place mask before after noted c e below above k (inl lt) = below k lt
by_place mask before after noted c e below above k (inr le) = above k le ∙ sym (none_above mask before after c k e le)

pub returns-then-mask-eq0-clause-noted : goal.returns-then-mask-eq0-clause-noted
returns-then-mask-eq0-clause-noted c =
    let before = c.args.before.now in
    let after = c.args.after.now in
    c.none.ensures ∙ sym (ap (λ mask. counts mask before after) c.if-mask-eq0.true ∙ none-counted before after)

nones : (n k : ℕ) → (let none : Option (ℕ × ℕ) = None in get_or (replicate n none) k None ≡ None)
nones zero k = refl
nones (suc n) zero = refl
nones (suc n) (suc k) = nones n k

pub loop-c-init : goal.loop-c-init
loop-c-init c = record {
  many = ap length c.in_ok-counts.ensures.same;
  below = λ k lt. absurd (omega (arith, lt));
  above = λ k le. ap (λ (noted : List (Option (ℕ × ℕ))). get_or noted k None) c.in_ok-counts.ensures.same ∙ nones 32 k;
}

pub returns-then-mask-c-eq0-clause-noted : goal.returns-then-mask-c-eq0-clause-noted
unfolding counts
returns-then-mask-c-eq0-clause-noted c =
    fill_by_all (λ k. count_of c.args.mask c.args.before.now c.args.after.now k) c.loop-c.counts 32 None c.loop-c.invariant.many
    (λ k lt. by_place c.args.mask c.args.before.now c.args.after.now c.loop-c.counts c.loop-c.c (omega (arith, c.if-mask-c-eq0.true))
    c.loop-c.invariant.below c.loop-c.invariant.above k (cases_lt k c.loop-c.c))

pub returns-clause-noted : goal.returns-clause-noted
unfolding counts
returns-clause-noted c =
    fill_by_all (λ k. count_of c.args.mask c.args.before.now c.args.after.now k) c.loop-c.counts 32 None c.loop-c.invariant.many
    (λ k lt. c.loop-c.invariant.below k (omega (arith, lt, c.loop-c-test.false)))

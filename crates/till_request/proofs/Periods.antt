-- How far into years or months a number of days leads.
use Rattle.std.proofs.Common.{◌≡◌, ◌⊎◌, inl, inr, ℕ, zero, suc, ◌+◌, ◌-◌, ◌<◌, ◌≤◌, Option, Some, None, refl, sym, arith, rules, subst}
use Rattle.std.specs.Prelude.{MatchOption}
use Rattle.std.proofs.lemmas.Bool.{cases_lt}
use Rattle.std.proofs.lemmas.Grind.{common_steps}
use Rattle.std.proofs.lemmas.List.Sums.{sum_by-cons}
use Rattle.std.specs.List.{range_with_len}
use Rattle.till_request.specs.Dates.{days_in, period_after}

by_count : (days_of : ℕ → ℕ) (first count rest days length : ℕ) → count ≡ suc rest → length ≡ days_of first → length ≤ days
    → period_after days_of first count days ≡ period_after days_of (first + 1) rest (days - length)
unfolding period_after
by_count days_of first zero rest days length e is long = absurd (omega (arith, e))
by_count days_of first (suc count) rest days length e is long =
    let same : count ≡ rest = omega (arith, e) in subst (λ r. period_after days_of first (suc count) days ≡ period_after days_of (first + 1) r (days - length)) same
    (search (rules, common_steps))

-- the first of the periods before `end` is over
pub passes : (days_of : ℕ → ℕ) (first end days length : ℕ) → first < end → length ≡ days_of first → length ≤ days
    → period_after days_of first (end - first) days ≡ period_after days_of (first + 1) (end - (first + 1)) (days - length)
passes days_of first end days length some is long = by_count days_of first (end - first) (end - (first + 1)) days length (omega (arith, some)) is long

-- the first of them isn't over
pub stays : (days_of : ℕ → ℕ) (first count days length : ℕ) → 0 < count → length ≡ days_of first → days < length
    → Some (first, days) ≡ period_after days_of first count days
unfolding period_after
stays days_of first zero days length some is short = absurd (omega (arith, some))
stays days_of first (suc count) days length some is short = search (rules, common_steps)

-- all are over
pub ends : (days_of : ℕ → ℕ) (first count days : ℕ) → count ≡ 0 → None ≡ period_after days_of first count days
unfolding period_after
ends days_of first zero days e = refl
ends days_of first (suc count) days e = absurd (omega (arith, e))

-- `p` is a period of `count` from `first` on, and how many of its own days are over when `days` days are
pub record IsAfter (days_of : ℕ → ℕ) (first count days : ℕ) (p : ℕ × ℕ) : Type 0 where
  pub from : first ≤ p.0
  pub to : p.0 < first + count
  pub part : p.1 < days_of p.0
  pub all : days_in days_of first (p.0 - first) + p.1 ≡ days

days_more : (days_of : ℕ → ℕ) (first count rest : ℕ) → count ≡ suc rest → days_in days_of first count ≡ days_of first + days_in days_of (first + 1) rest
days_more days_of first count rest e = subst (λ n. days_in days_of first n ≡ days_of first + days_in days_of (first + 1) rest) (sym e)
    (sum_by-cons days_of first (range_with_len (first + 1) rest))

days_none : (days_of : ℕ → ℕ) (first count : ℕ) → count ≡ 0 → days_in days_of first count ≡ 0
days_none days_of first count e = subst (λ n. days_in days_of first n ≡ 0) (sym e) refl

with_first : (days_of : ℕ → ℕ) (first count days : ℕ) → days_of first ≤ days → (found : Option (ℕ × ℕ))
    → MatchOption found (days_in days_of (first + 1) count ≤ days - days_of first) (IsAfter days_of (first + 1) count (days - days_of first))
    → MatchOption found (days_in days_of first (suc count) ≤ days) (IsAfter days_of first (suc count) days)
with_first days_of first count days long None h = omega (arith, h, long, days_more days_of first (suc count) count refl)
with_first days_of first count days long (Some p) h = record {
  from = omega (arith, h.from);
  to = omega (arith, h.to);
  part = h.part;
  all = omega (arith, h.all, long, h.from, days_more days_of first (p.0 - first) (p.0 - (first + 1)) (omega (arith, h.from)));
}

-- the period that is found is one of them, with exactly so many days before; none is found only if all are over
pub found : (days_of : ℕ → ℕ) (first count days : ℕ)
    → MatchOption (period_after days_of first count days) (days_in days_of first count ≤ days) (IsAfter days_of first count days)
found days_of first zero days =
    subst (λ p. MatchOption p (days_in days_of first zero ≤ days) (IsAfter days_of first zero days)) (ends days_of first zero days refl) (omega arith)
found days_of first (suc count) days = by_length (cases_lt days (days_of first)) (found days_of (first + 1) count (days - days_of first))
  where
    Found : Option (ℕ × ℕ) → Type 0
    Found p = MatchOption p (days_in days_of first (suc count) ≤ days) (IsAfter days_of first (suc count) days)

    by_length : (days < days_of first) ⊎ (days_of first ≤ days)
        → MatchOption (period_after days_of (first + 1) count (days - days_of first)) (days_in days_of (first + 1) count ≤ days - days_of first)
        (IsAfter days_of (first + 1) count (days - days_of first))
        → Found (period_after days_of first (suc count) days)
    by_length (inl short) later =
        subst Found (stays days_of first (suc count) days (days_of first) (omega arith) refl short)
        (record { from = omega arith; to = omega arith; part = short; all = omega (arith, days_none days_of first (first - first) (omega arith)) })
    by_length (inr long) later =
        subst Found (sym (by_count days_of first (suc count) count days (days_of first) refl refl long))
        (with_first days_of first count days long _ later)

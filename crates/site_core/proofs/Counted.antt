-- Two lists of 32 counters agree (`Agrees`) if each declared counter is the same in both. The entry of a run has the
-- values of the declared counters only, and these values don't depend on the other counters.
use Rattle.std.proofs.Common.{◌≡◌, ℕ, Bool, true, false, map, ◌/◌, ◌%◌, ◌^◌, ◌*◌, ◌<◌, ◌≤◌, ◌⊎◌, length, ◌∙◌, sym, ap, inl, inr, arith, eq-eqb, refl, replicate, Option, Some, None}
use Rattle.std.specs.Prelude.{IsTrue}
use Rattle.std.proofs.lemmas.List.{get_or_past}
use Rattle.std.proofs.lemmas.Bool.{cases_lt}
use Rattle.bpf_model.specs.Machine.{Counters, counter}
use Rattle.interp.specs.Depends.{Agrees}
use Rattle.site_core.specs.Decide.{is_declared, count_of, counts}
use Rattle.std.proofs.Math.Nat.{one-le-pow, div-lt_iff_lt-mul, div-eq_of_lt}
use Rattle.std.proofs.Math.Pow.{pow_mono}
use Rattle.std.specs.Prelude.{if◌then◌else◌, ◌==◌}
use Rattle.std.specs.List.{range_with_len}
use Rattle.verifier.specs.CounterChanges.{adopted}

at-place : (a b : Counters) (k : ℕ) → length a ≡ 32 → length b ≡ 32 → (k < 32 → counter a k ≡ counter b k) → (k < 32) ⊎ (32 ≤ k) → counter b k ≡ counter a k
at-place a b k la lb same (inl lt) = sym (same lt)
at-place a b k la lb same (inr le) = get_or_past b k (0, 0) (omega (arith, lb)) ∙ sym (get_or_past a k (0, 0) (omega (arith, la)))

pub all-agree : (declared : ℕ) (a b : Counters) → length a ≡ 32 → length b ≡ 32
    → ((k : ℕ) → k < 32 → IsTrue (is_declared declared k) → counter a k ≡ counter b k) → Agrees declared b a
all-agree declared a b la lb same = λ k bit. at-place a b k la lb (λ lt. same k lt (eq-eqb (declared / 2 ^ k % 2) 1 bit)) (cases_lt k 32)

-- If no counter from number c on is declared, and k is at least c, then the entry of a run has no values of counter k.
pub none_above : (mask : ℕ) (before after : Counters) (c k : ℕ) → mask / 2 ^ c ≡ 0 → c ≤ k → count_of mask before after k ≡ None
none_above mask before after c k e l =
    let some : 1 ≤ 2 ^ c = one-le-pow c 2 (omega arith) in
    let below : mask < 1 * 2 ^ c = (div-lt_iff_lt-mul {k = 2 ^ c} {x = mask} {y = 1} some).0 (omega (arith, e)) in
    let none : mask / 2 ^ k ≡ 0 = div-eq_of_lt (omega (arith, below, pow_mono {i = c} {j = k} l)) in
    ap (λ q. if q % 2 == 1 then Some ((counter before k).0, (counter after k).0) else None) none

-- If a program declares no counter, then the entry of its run has no values of counters.
pub none-counted : (before after : Counters) → counts 0 before after ≡ replicate 32 None
unfolding counts
none-counted before after = refl

kept-if : (d : Bool) (before after left new : ℕ × ℕ) → new ≡ (if d then after else left)
    → if◌then◌else◌ {A = Option (ℕ × ℕ)} d (Some (before.0, after.0)) None ≡ if◌then◌else◌ {A = Option (ℕ × ℕ)} d (Some (before.0, new.0)) None
kept-if true before after left new is = ap (λ (x : ℕ × ℕ). Some (before.0, x.0)) (sym is)
kept-if false before after left new is = refl

-- The entry of a run has the same values of counters, whether the counters after the run are `after` or `new`, if `new`
-- has the declared counters of `after` and all other counters of `own`. `own` are the counters before the run.
pub counts-adopted : (mask : ℕ) (own after new : Counters) → ((c : ℕ) → counter new c ≡ adopted mask after own c) → counts mask own after ≡ counts mask own new
unfolding counts
counts-adopted mask own after new is =
    λ i. map (λ c. kept-if (is_declared mask c) (counter own c) (counter after c) (counter own c) (counter new c) (is c) i) (range_with_len 0 32)

-- The lines that are read keep to the bound.
use Rattle.std.proofs.Common.{◌≡◌, ℕ, ◌+◌, ◌-◌, ◌*◌, ◌/◌, ◌<◌, ◌≤◌, min, max, List, [], ◌∷◌, Bool, true, false, if◌then◌else◌, refl, sym, ap, subst, ◌∙◌, arith, rules}
use Rattle.std.specs.Prelude.{nat_le}
use Rattle.std.proofs.Math.Nat.{add-mul, le-min, lt-div-mul-add, mul-add, mul-le-mul_right}
use Rattle.std.proofs.lemmas.Bool.{le-leb, leb-false}
use Rattle.site_server.specs.declared.pace.Bucket.{Bucket}
use Rattle.site_server.specs.Pace.{bucket_after, bucket_at_end, full_credit, is_allowed, lines_read, pause_until_line, refilled}
use Rattle.site_server.specs.Pacing.{IsBounded, IsPrompt}

module _ (bound : ℕ) where
  -- between the two buckets so many lines were read, and no more credit was taken than was there or came in
  record Keeps (count : ℕ) (before after : Bucket) : Type 0 where
    forwards : before.at ≤ after.at
    credit : count * 1000000 + after.credit ≤ before.credit + (after.at - before.at) * bound

  spent : (credit gained r : ℕ) → r ≤ credit + gained → 1000000 ≤ r → 1 * 1000000 + (r - 1000000) ≤ credit + gained
  spent credit gained r le enough = omega (arith, le, enough)

  gained : (now : ℕ) (bucket : Bucket) → (max now bucket.at - bucket.at) * bound ≡ (now - bucket.at) * bound
  gained now bucket = ap (λ (n : ℕ). n * bound) (omega arith)

  enough : (r : ℕ) → nat_le 1000000 r ≡ true → 1000000 ≤ r
  enough r is = search (rules, arith)

  one_turn : (now : ℕ) (bucket : Bucket) (v : Bool) → is_allowed bound now bucket ≡ v
      → Keeps (if v then 1 else 0) bucket (if v then record { at = max now bucket.at; credit = refilled bound now bucket - 1000000 } else bucket)
  one_turn now bucket false is = record { forwards = omega arith; credit = omega arith }
  one_turn now bucket true is = record {
    forwards = omega arith;
    credit = subst (λ (g : ℕ). 1 * 1000000 + (refilled bound now bucket - 1000000) ≤ bucket.credit + g) (sym (gained now bucket))
        (spent bucket.credit ((now - bucket.at) * bound) (refilled bound now bucket) (omega arith) (enough _ is));
  }

  both : (first later : ℕ) (a b c : Bucket) → Keeps first a b → Keeps later b c → Keeps (first + later) a c
  both first later a b c h k = record {
    forwards = (let (x, y) : (a.at ≤ b.at) × (b.at ≤ c.at) = (h.forwards, k.forwards) in omega (arith, x, y));
    credit =
        let between : c.at - a.at ≡ (b.at - a.at) + (c.at - b.at) = omega (arith, h.forwards, k.forwards) in
        let sum = ap (λ (n : ℕ). n * bound) between ∙ add-mul (b.at - a.at) (c.at - b.at) bound in
        omega (arith, h.credit, k.credit, sum);
  }

  all_turns : (moments : List ℕ) (bucket : Bucket) → Keeps (lines_read bound moments bucket) bucket (bucket_at_end bound moments bucket)
  all_turns [] bucket = record { forwards = omega arith; credit = omega arith }
  all_turns (now ∷ later) bucket =
      both _ _ bucket (bucket_after bound now bucket) _ (one_turn now bucket (is_allowed bound now bucket) refl) (all_turns later (bucket_after bound now bucket))

pub is_bounded : (bound : ℕ) (moments : List ℕ) (bucket : Bucket) → IsBounded bound moments bucket
is_bounded bound moments bucket =
    let kept = all_turns bound moments bucket in record {
      forwards = kept.forwards;
      credit = kept.credit;
      lines = λ full.
          let whole = mul-add bound 1000000 ((bucket_at_end bound moments bucket).at - bucket.at) in
          omega (arith, kept.credit, full, whole);
    }

-- `s` is the credit there is, less than a line's: after the pause it's a line's
enough_later : (bound s : ℕ) → 0 < bound → s < 1000000 → 1000000 ≤ s + (1000000 - s + (bound - 1)) / bound * bound
enough_later bound s some short = omega (arith, some, short, lt-div-mul-add {a = 1000000 - s + (bound - 1)} some)

one_second : (bound : ℕ) → 0 < bound → 1000000 ≤ full_credit bound
one_second bound some = subst (λ (n : ℕ). 1000000 ≤ n) refl (let more = mul-le-mul_right {m = 1} {n = bound} 1000000 some in omega (arith, more))

of_min : (full s : ℕ) → 1000000 ≤ full → min full s < 1000000 → min full s ≡ s
of_min full s enough short = omega (arith, enough, short)

later_at : (bound now : ℕ) (bucket : Bucket) (pause : ℕ) → bucket.at ≤ now → 1000000 ≤ full_credit bound
    → 1000000 ≤ (bucket.credit + (now - bucket.at) * bound) + pause * bound → 1000000 ≤ refilled bound (now + pause) bucket
later_at bound now bucket pause after full enough =
    let between : now + pause - bucket.at ≡ (now - bucket.at) + pause = omega (arith, after) in
    let sum = ap (λ (n : ℕ). n * bound) between ∙ add-mul (now - bucket.at) pause bound in
    le-min full (omega (arith, enough, sum))

pub is_prompt : (bound now : ℕ) (bucket : Bucket) → IsPrompt bound now bucket
is_prompt bound now bucket = λ some after refused.
    let s = bucket.credit + (now - bucket.at) * bound in
    let full = one_second bound some in
    let short = leb-false 1000000 (refilled bound now bucket) refused in
    let same = of_min (full_credit bound) s full short in
    let pause = pause_until_line bound now bucket in
    let exact : pause ≡ (1000000 - s + (bound - 1)) / bound = ap (λ (n : ℕ). (1000000 - n + (bound - 1)) / bound) same in
    le-leb 1000000 (refilled bound (now + pause) bucket)
    (later_at bound now bucket pause after full
    (subst (λ (n : ℕ). 1000000 ≤ s + n * bound) (sym exact) (enough_later bound s some (subst (λ (n : ℕ). n < 1000000) same short))))

-- For an accepted program, one fact is stored for the first unit and one for each other unit that a reached jump goes
-- to, and no others. So at most 512 facts are stored, and at most one more than there are different targets of jumps.
use Rattle.std.proofs.Common.{◌≡◌, ◌≢◌, ℕ, zero, suc, ◌+◌, ◌<◌, ◌≤◌, ◌⊎◌, List, [], ◌∷◌, Option, Some, None, Bool, true, false, refl, sym, ap, ◌∙◌, subst, inl}
use Rattle.std.proofs.Common.{inr, arith, length}
use Rattle.std.specs.Prelude.{ℤ, ◌==◌, ◌&&◌, ◌||◌, cond, is_some}
use Rattle.std.proofs.lemmas.Bool.{cases_eq, eq-eqb, ne_eqb, eqb-true, cond-true, cond-false}
use Rattle.bpf_model.specs.declared.instruction.Unit.{Unit as ProgramUnit}
use Rattle.bpf_model.specs.Reading.{units}
use Rattle.bpf_model.specs.Machine.{and_then, shifted}
use Rattle.bpf_model.specs.Flow.{target, distance_at, GoesForward}
use Rattle.bpf_model.proofs.Reading.{count_of_units}
use Rattle.verifier.specs.declared.types.LoadOptions.{LoadOptions}
use Rattle.verifier.specs.LoadOptions.{loaded_on}
use Rattle.verifier.specs.declared.types.Fact.{Fact}
use Rattle.verifier.specs.declared.types.StoredFact.{StoredFact}
use Rattle.verifier.specs.Facts.{stored, AreDistinct}
use Rattle.verifier.specs.Inference.{inferred, goes, is_entered, is_target, count_below, facts_in, targets_in}
use Rattle.verifier.specs.Passing.{IsAccepted, IsFactCount, IsBoundedByTargets}

truth : (b : Bool) → (b ≡ true) ⊎ (b ≡ false)
truth true = inl refl
truth false = inr refl

-- ---- `count_below` counts the numbers below n that a test accepts

counted : (n : ℕ) (p : ℕ → Bool) → p n ≡ true → count_below (suc n) p ≡ suc (count_below n p)
unfolding count_below
counted n p e = cond-true (p n) (suc (count_below n p)) (count_below n p) e

passed_by : (n : ℕ) (p : ℕ → Bool) → p n ≡ false → count_below (suc n) p ≡ count_below n p
unfolding count_below
passed_by n p e = cond-false (p n) (suc (count_below n p)) (count_below n p) e

none_counted : (p : ℕ → Bool) → count_below 0 p ≡ 0
unfolding count_below
none_counted p = refl

pub count_at_most : (n : ℕ) (p : ℕ → Bool) → count_below n p ≤ n
count_at_most zero p = let h = none_counted p in omega (arith, h)
count_at_most (suc n) p =
    let h = count_at_most n p in
    elim (truth (p n)) [ inl is ↦ (let e = counted n p is in omega (arith, e, h)) | inr not ↦ (let e = passed_by n p not in omega (arith, e, h)) ]

pub count_same : (n : ℕ) (p r : ℕ → Bool) → ((q : ℕ) → q < n → p q ≡ r q) → count_below n p ≡ count_below n r
count_same zero p r same = none_counted p ∙ sym (none_counted r)
count_same (suc n) p r same =
    let h = count_same n p r (λ q l. same q (omega (arith, l))) in
    let here : p n ≡ r n = same n (omega arith) in
    elim (truth (p n)) [
      | inl is ↦ counted n p is ∙ ap suc h ∙ sym (counted n r (sym here ∙ is))
      | inr not ↦ passed_by n p not ∙ h ∙ sym (passed_by n r (sym here ∙ not))
    ]

nothing_counted : (n : ℕ) → count_below n (λ q. false) ≡ 0
nothing_counted zero = none_counted (λ q. false)
nothing_counted (suc n) = passed_by n (λ q. false) refl ∙ nothing_counted n

-- if r accepts a number a below n that p rejects, and both agree on all others, then of the numbers below n, r accepts
-- one more than p does
one_more : (n a : ℕ) (p r : ℕ → Bool) → a < n → p a ≡ false → r a ≡ true → ((q : ℕ) → q ≢ a → r q ≡ p q) → count_below n r ≡ suc (count_below n p)
one_more zero a p r l not now others = absurd (omega (arith, l))
one_more (suc n) a p r l not now others =
    elim (cases_eq n a) [
      | inl same ↦
          counted n r (ap r same ∙ now)
          ∙ ap suc (count_same n r p (λ q m. others q (λ e. let x : n ≡ q = same ∙ sym e in absurd (omega (arith, m, x)))))
          ∙ sym (ap suc (passed_by n p (ap p same ∙ not)))
      | inr other ↦
          let inside : a < n = omega (arith, l, other) in
          let h = one_more n a p r inside not now others in
          elim (truth (p n)) [
            | inl is ↦ counted n r (others n other ∙ is) ∙ ap suc h ∙ sym (ap suc (counted n p is))
            | inr not ↦ passed_by n r (others n other ∙ not) ∙ h ∙ sym (ap suc (passed_by n p not))
          ]
    ]

-- if each number that p accepts is 0 or is accepted by r, then of the numbers below n, p accepts at most one more than
-- r does
one_less : (n : ℕ) (p r : ℕ → Bool) → ((q : ℕ) → p q ≡ true → (q ≡ 0) ⊎ (r q ≡ true)) → count_below n p ≤ 1 + count_below n r
one_less zero p r h = let e = none_counted p in omega (arith, e)
one_less (suc n) p r h =
    let before = one_less n p r h in
    let more : count_below n r ≤ count_below (suc n) r =
    elim (truth (r n)) [ inl is ↦ (let e = counted n r is in omega (arith, e)) | inr not ↦ (let e = passed_by n r not in omega (arith, e)) ]
    in
    elim (truth (p n)) [
      | inr not ↦ (let e = passed_by n p not in omega (arith, e, before, more))
      | inl is ↦
          let e = counted n p is in
          elim (h n is) [
            | inl first ↦ (let small = count_at_most n p in omega (arith, e, first, small))
            | inr target ↦ (let g = counted n r target in omega (arith, e, g, before))
          ]
    ]

-- ---- if no unit has two stored facts, there are as many stored facts as units that have one

stored_if : (t : Bool) (f : Fact) (o : Option Fact) → t ≡ false → is_some (cond t (Some f) o) ≡ is_some o
stored_if t f o e = ap is_some (cond-false t (Some f) o e)

-- if no unit has two facts, and only units below n have one, then there are as many stored facts as units that have one
pub count_of_stored : (n : ℕ) (facts : List StoredFact) → AreDistinct facts → ((q : ℕ) → is_some (stored facts q) ≡ true → q < n)
    → length facts ≡ count_below n (λ q. is_some (stored facts q))
unfolding AreDistinct
count_of_stored n [] d inside = sym (nothing_counted n)
count_of_stored n (s ∷ rest) d inside =
    let here : is_some (stored (s ∷ rest) s.at) ≡ true = ap is_some (cond-true (s.at == s.at) (Some s.fact) (stored rest s.at) (eq-eqb s.at s.at refl)) in
    let elsewhere : (q : ℕ) → q ≢ s.at → is_some (stored (s ∷ rest) q) ≡ is_some (stored rest q) =
    λ q other. stored_if (q == s.at) s.fact (stored rest q) (ne_eqb q s.at other) in
    let also : (q : ℕ) → is_some (stored rest q) ≡ true → q < n =
    λ q e. elim (cases_eq q s.at) [ inl same ↦ inside q (ap (λ k. is_some (stored (s ∷ rest) k)) same ∙ here) | inr other ↦ inside q (elsewhere q other ∙ e) ]
    in
    ap suc (count_of_stored n rest d.1 also)
    ∙ sym (one_more n s.at (λ q. is_some (stored rest q)) (λ q. is_some (stored (s ∷ rest) q)) (inside s.at here) (ap is_some d.0) here elsewhere)

-- ---- a stored fact is for the first unit or a jump's target; if jumps go forward, targets are inside the program

either_true : (a b : Bool) → (a || b) ≡ true → (a ≡ true) ⊎ (b ≡ true)
either_true true b e = inl refl
either_true false b e = inr e

right_true : (a b : Bool) → (a && b) ≡ true → b ≡ true
right_true true b e = e
right_true false b e = absurd (cc)

or_right : (a b : Bool) → b ≡ true → (a || b) ≡ true
or_right true b e = refl
or_right false b e = e

or_left : (a b : Bool) → a ≡ true → (a || b) ≡ true
or_left true b e = refl
or_left false b e = absurd (cc)

goes_is : (o : Option ℕ) (q : ℕ) → goes o q ≡ true → o ≡ Some q
goes_is None q e = absurd (cc)
goes_is (Some to) q e = ap Some (sym (eqb-true q to e))

module _ (us : List ProgramUnit) (options : LoadOptions) where
  target_more : (n q : ℕ) → is_target us n q ≡ true → is_target us (suc n) q ≡ true
  unfolding is_target
  target_more n q e = or_left (is_target us n q) (goes (target us n) q) e

  target_here : (n q : ℕ) → goes (target us n) q ≡ true → is_target us (suc n) q ≡ true
  unfolding is_target
  target_here n q e = or_right (is_target us n q) (goes (target us n) q) e

  -- a unit for which a fact is stored is the first one, or the target of a jump
  entered_target : (n q : ℕ) → is_entered us options n q ≡ true → (q ≡ 0) ⊎ (is_target us n q ≡ true)
  unfolding is_entered
  entered_target zero q e = inl (eqb-true q 0 e)
  entered_target (suc n) q e =
      elim (either_true (is_entered us options n q) (is_some (inferred us options n) && goes (target us n) q) e) [
        | inl before ↦ elim (entered_target n q before) [ inl first ↦ inl first | inr t ↦ inr (target_more n q t) ]
        | inr now ↦ inr (target_here n q (right_true (is_some (inferred us options n)) (goes (target us n) q) now))
      ]

  found : (o : Option ℤ) (go : ℤ → Option ℕ) (q : ℕ) → and_then o go ≡ Some q → (z : ℤ) × (o ≡ Some z) × (go z ≡ Some q)
  found None go q e = absurd (cc)
  found (Some z) go q e = (z, refl, e)

  target_inside : GoesForward us → (n q : ℕ) → is_target us n q ≡ true → q < length us
  unfolding is_target
  target_inside f zero q e = absurd (cc)
  target_inside f (suc n) q e =
      elim (either_true (is_target us n q) (goes (target us n) q) e) [
        | inl before ↦ target_inside f n q before
        | inr now ↦
            let x = found (distance_at us n) (λ z. shifted (n + 1) z 512) q (goes_is (target us n) q now) in
            let j = f.jumps n x.0 x.1 in
            let same : Some j.0 ≡ Some q = sym j.1 ∙ x.2 in
            let is : j.0 ≡ q = cc in
            let l = j.2.inside in
            omega (arith, l, is)
      ]

module _ (bytes : List ℕ) (us : List ProgramUnit) (options : LoadOptions) (facts : List StoredFact) (is : IsAccepted bytes options us facts) where
  inside : (q : ℕ) → is_some (stored facts q) ≡ true → q < length us
  inside q e =
      elim (entered_target us options (length us) q (sym (is.inferred_are.occupied q) ∙ e)) [
        | inl first ↦ (let n = count_of_units bytes us is.reads in let l = n.0 in omega (arith, first, l))
        | inr t ↦ target_inside us options is.forward (length us) q t
      ]

  pub facts_are : length facts ≡ facts_in us options
  facts_are =
      count_of_stored (length us) facts is.distinct inside
      ∙ count_same (length us) (λ q. is_some (stored facts q)) (is_entered us options (length us)) (λ q l. is.inferred_are.occupied q)

  pub facts_few : length facts ≤ 1 + targets_in us
  facts_few = let e = facts_are in let l =
      one_less (length us) (is_entered us options (length us)) (is_target us (length us)) (entered_target us options (length us)) in omega (arith, e, l)

  pub facts_small : length facts ≤ 512
  facts_small = let e = facts_are in let l = count_at_most (length us) (is_entered us options (length us)) in let n =
      (count_of_units bytes us is.reads).1 in omega (arith, e, l, n)

  same_units : (other : List ProgramUnit) → units bytes ≡ Some other → us ≡ other
  same_units other reads = let e : Some us ≡ Some other = sym is.reads ∙ reads in cc

  pub counts : IsFactCount (loaded_on bytes options) (length facts)
  counts other reads = facts_are ∙ ap (λ u. facts_in u options) (same_units other reads)

  pub few : IsBoundedByTargets bytes (length facts)
  few other reads = subst (λ u. length facts ≤ 1 + targets_in u) (same_units other reads) facts_few

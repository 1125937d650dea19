-- Lemmas on the list of stored facts and on its index (`IsIndexed`). If the fact of one unit is replaced or added, the
-- other units keep their facts, and each fact is still found by the index.
use Rattle.std.proofs.Common.{◌≡◌, ◌≢◌, ℕ, zero, suc, ◌+◌, ◌<◌, ◌≤◌, List, [], ◌∷◌, ◌++◌, Option, Some, None, Bool, true, false, refl, sym, ap, ◌∙◌, subst, inl}
use Rattle.std.proofs.Common.{inr, arith, length}
use Rattle.std.specs.Prelude.{◌==◌, cond, slice_index, slice_index_or, slice_set, is_some, replicate, IfSome, IsTrue}
use Rattle.std.proofs.lemmas.List.{get_or-set_other, get_or-set_same, get_or_append_left, get_or_past, get_or-replicate, length-set, length-append}
use Rattle.std.proofs.lemmas.List.{length-replicate}
use Rattle.std.proofs.Math.Seq.{get_or-append_seam}
use Rattle.std.proofs.lemmas.Bool.{cases_eq, cases_lt, eq-eqb, ne_eqb, cond-true, cond-false}
use Rattle.verifier.specs.declared.types.Fact.{Fact}
use Rattle.verifier.specs.declared.types.StoredFact.{StoredFact}
use Rattle.verifier.specs.Facts.{stored, IsPlace, IsIndexed, AreDistinct}
use Rattle.verifier.specs.Inference.{join_fact, taken_in, arrived}
use Rattle.verifier.specs.Passing.{IsSame, AreSame, IsJoined}
use Rattle.verifier.proofs.Inference.{AreSame-refl}

pub same_by : (a b : Option Fact) → a ≡ b → AreSame a b
same_by a b e = subst (AreSame a) e (AreSame-refl a)

pub not_arrived : (q to : ℕ) (fact : Fact) (o : Option Fact) → q ≢ to → arrived q fact to o ≡ o
not_arrived q to fact o n = cond-false (q == to) (Some (taken_in o fact)) o (ne_eqb q to n)

no_some : true ≡ false → ⊥
no_some e = absurd (cc)

nothing_twice : AreDistinct []
unfolding AreDistinct
nothing_twice = tt

abbrev pub stored_fact : ℕ → Fact → StoredFact
stored_fact at fact = record { at = at; fact = fact }

later : (s : StoredFact) (rest : List StoredFact) (at k : ℕ) → IsPlace (s ∷ rest) at (suc k) → IsPlace rest at k
later s rest at k p =
    record {
      inside = let l = p.inside in omega (arith, l);
      earlier = λ j d l. p.earlier (suc j) d (omega (arith, l));
      here = λ d. p.here d;
    }

not_first : (s : StoredFact) (rest : List StoredFact) (at k : ℕ) → IsPlace (s ∷ rest) at (suc k) → at ≢ s.at
not_first s rest at k p e = p.earlier 0 s (omega arith) (sym e)

pub stored_at : (facts : List StoredFact) (at k : ℕ) (d : StoredFact) → IsPlace facts at k → stored facts at ≡ Some (slice_index_or facts k d).fact
stored_at [] at k d p = absurd (let l = p.inside in omega (arith, l))
stored_at (s ∷ rest) at zero d p = cond-true (at == s.at) (Some s.fact) (stored rest at) (eq-eqb at s.at (sym (p.here d)))
stored_at (s ∷ rest) at (suc k) d p =
    cond-false (at == s.at) (Some s.fact) (stored rest at) (ne_eqb at s.at (not_first s rest at k p)) ∙ stored_at rest at k d (later s rest at k p)

twice : (t : Bool) (a b c : Option Fact) → cond t a b ≡ cond t a (cond t c b)
twice true a b c = refl
twice false a b c = refl

pub stored_set : (facts : List StoredFact) (at k : ℕ) (f : Fact) → IsPlace facts at k → (q : ℕ) → stored (slice_set facts k (stored_fact at f)) q
    ≡ cond (q == at) (Some f) (stored facts q)
stored_set [] at k f p q = absurd (let l = p.inside in omega (arith, l))
stored_set (s ∷ rest) at zero f p q =
    twice (q == at) (Some f) (stored rest q) (Some s.fact)
    ∙ ap (λ n. cond (q == at) (Some f) (cond (q == n) (Some s.fact) (stored rest q))) (sym (p.here s))
stored_set (s ∷ rest) at (suc k) f p q =
    let rest_is = ap (cond (q == s.at) (Some s.fact)) (stored_set rest at k f (later s rest at k p) q) in
    elim (cases_eq q at) [
      | inl e ↦
          rest_is
          ∙ cond-false (q == s.at) (Some s.fact) (cond (q == at) (Some f) (stored rest q)) (ne_eqb q s.at (λ x. not_first s rest at k p (sym e ∙ x)))
          ∙ cond-true (q == at) (Some f) (stored rest q) (eq-eqb q at e)
          ∙ sym (cond-true (q == at) (Some f) (stored (s ∷ rest) q) (eq-eqb q at e))
      | inr n ↦
          rest_is
          ∙ ap (cond (q == s.at) (Some s.fact)) (cond-false (q == at) (Some f) (stored rest q) (ne_eqb q at n))
          ∙ sym (cond-false (q == at) (Some f) (stored (s ∷ rest) q) (ne_eqb q at n))
    ]

none_of : (t : Bool) (a : Fact) (b : Option Fact) → cond t (Some a) b ≡ None → (t ≡ false) × (b ≡ None)
none_of true a b e = absurd (cc)
none_of false a b e = (refl, e)

pub stored_pushed : (facts : List StoredFact) (at : ℕ) (f : Fact) → stored facts at ≡ None → (q : ℕ)
    → stored (facts ++ stored_fact at f ∷ []) q ≡ arrived q f at (stored facts q)
stored_pushed [] at f none q = refl
stored_pushed (s ∷ rest) at f none q =
    let both = none_of (at == s.at) s.fact (stored rest at) none in
    let rest_is = ap (cond (q == s.at) (Some s.fact)) (stored_pushed rest at f both.1 q) in
    elim (cases_eq q at) [
      | inl e ↦
          let other : (q == s.at) ≡ false = ap (λ n. n == s.at) e ∙ both.0 in
          rest_is
          ∙ cond-false (q == s.at) (Some s.fact) (arrived q f at (stored rest q)) other
          ∙ ap (arrived q f at) (sym (cond-false (q == s.at) (Some s.fact) (stored rest q) other))
      | inr n ↦
          rest_is
          ∙ ap (cond (q == s.at) (Some s.fact)) (not_arrived q at f (stored rest q) n)
          ∙ sym (not_arrived q at f (stored (s ∷ rest) q) n)
    ]

pub stored_here : (facts : List StoredFact) (at k : ℕ) (f : Fact) → IsPlace facts at k → stored (slice_set facts k (stored_fact at f)) at ≡ Some f
stored_here facts at k f p = stored_set facts at k f p at ∙ cond-true (at == at) (Some f) (stored facts at) (eq-eqb at at refl)

-- The lemmas of this module are on the list of stored facts after the fact of unit `at`, which has index k in the list,
-- was replaced by f, its join with `fact`.
module _ (facts : List StoredFact) (at k : ℕ) (d : StoredFact) (f fact : Fact) (p : IsPlace facts at k)
    (same : IsSame f (join_fact (slice_index_or facts k d).fact fact)) where
  set_here : (q : ℕ) → q ≡ at → stored (slice_set facts k (stored_fact at f)) q ≡ Some f
  set_here q e = stored_set facts at k f p q ∙ cond-true (q == at) (Some f) (stored facts q) (eq-eqb q at e)

  set_elsewhere : (q : ℕ) → q ≢ at → stored (slice_set facts k (stored_fact at f)) q ≡ stored facts q
  set_elsewhere q n = stored_set facts at k f p q ∙ cond-false (q == at) (Some f) (stored facts q) (ne_eqb q at n)

  held_here : (q : ℕ) → q ≡ at → stored facts q ≡ Some (slice_index_or facts k d).fact
  held_here q e = ap (stored facts) e ∙ stored_at facts at k d p

  joined_each : (q : ℕ) → AreSame (stored (slice_set facts k (stored_fact at f)) q) (arrived q fact at (stored facts q))
  joined_each q =
      elim (cases_eq q at) [
        | inl e ↦
            let to : arrived q fact at (stored facts q) ≡ Some (join_fact (slice_index_or facts k d).fact fact) =
            cond-true (q == at) (Some (taken_in (stored facts q) fact)) (stored facts q) (eq-eqb q at e) ∙ ap (λ o. Some (taken_in o fact)) (held_here q e) in
            subst (λ o. AreSame o (arrived q fact at (stored facts q))) (sym (set_here q e)) (subst (λ o. AreSame (Some f) o) (sym to) same)
        | inr n ↦
            same_by (stored (slice_set facts k (stored_fact at f)) q) (arrived q fact at (stored facts q))
            (set_elsewhere q n ∙ sym (not_arrived q at fact (stored facts q) n))
      ]

  pub joined_is : IsJoined at fact (stored facts) (stored (slice_set facts k (stored_fact at f)))
  joined_is =
      record {
        each = joined_each;
        occupied = λ q. elim (cases_eq q at) [ inl e ↦ ap is_some (set_here q e) ∙ sym (ap is_some (held_here q e)) | inr n ↦ ap is_some (set_elsewhere q n) ];
      }

-- if a jump brings a fact to a unit with a stored fact, then the fact is joined into the stored one, and no other
-- stored fact changes
pub entered_at : (facts new : List StoredFact) (at : ℕ) (fact : Fact) (o : Option ℕ) (b : Bool) → is_some o ≡ true → IfSome o (λ k. IsPlace facts at k)
    → (IsTrue b → IsJoined at fact (stored facts) (stored new)) → (b ≡ false → stored facts at ≡ None) → (q : ℕ)
    → AreSame (stored new q) (arrived q fact at (stored facts q))
entered_at facts new at fact None b some place joined none q = absurd (no_some (sym some))
entered_at facts new at fact (Some k) true some place joined none q = (joined refl).each q
entered_at facts new at fact (Some k) false some place joined none q =
    absurd (no_some (ap is_some (sym (stored_at facts at k (stored_fact at fact) place) ∙ none refl)))

-- ---- after a stored fact was changed, or one was added, the index still gives the place of each fact (`IsIndexed`)

none_stored : (facts : List StoredFact) (at : ℕ) → stored facts at ≡ None → (j : ℕ) (d : StoredFact) → j < length facts → (slice_index_or facts j d).at ≢ at
none_stored [] at none j d l = absurd (omega (arith, l))
none_stored (s ∷ rest) at none zero d l =
    λ e. no_some (ap is_some (sym (cond-true (at == s.at) (Some s.fact) (stored rest at) (eq-eqb at s.at (sym e))) ∙ none))
none_stored (s ∷ rest) at none (suc j) d l = none_stored rest at (none_of (at == s.at) s.fact (stored rest at) none).1 j d (omega (arith, l))

-- changing the fact at index k doesn't change which unit each index of the list belongs to
at_kept : (facts : List StoredFact) (at k : ℕ) (f : Fact) → IsPlace facts at k → (j : ℕ) (d : StoredFact)
    → (slice_index_or (slice_set facts k (stored_fact at f)) j d).at ≡ (slice_index_or facts j d).at
at_kept facts at k f p j d =
    elim (cases_eq j k) [
      | inl e ↦
          ap (λ i. (slice_index_or (slice_set facts k (stored_fact at f)) i d).at) e
          ∙ ap (λ s. s.at) (get_or-set_same facts k (stored_fact at f) d p.inside)
          ∙ sym (ap (λ i. (slice_index_or facts i d).at) e ∙ p.here d)
      | inr n ↦ ap (λ s. s.at) (get_or-set_other facts k j (stored_fact at f) d n)
    ]

place_kept : (facts : List StoredFact) (at k : ℕ) (f : Fact) → IsPlace facts at k → (q j : ℕ) → IsPlace facts q j
    → IsPlace (slice_set facts k (stored_fact at f)) q j
place_kept facts at k f p q j is =
    record {
      inside = let n = length-set facts k (stored_fact at f) in let l = is.inside in omega (arith, n, l);
      earlier = λ i d l e. is.earlier i d l (sym (at_kept facts at k f p i d) ∙ e);
      here = λ d. at_kept facts at k f p j d ∙ is.here d;
    }

distinct_kept : (facts : List StoredFact) (at k : ℕ) (f : Fact) → IsPlace facts at k → AreDistinct facts → AreDistinct (slice_set facts k (stored_fact at f))
unfolding AreDistinct
distinct_kept [] at k f p h = absurd (let l = p.inside in omega (arith, l))
distinct_kept (s ∷ rest) at zero f p h = (ap (stored rest) (sym (p.here s)) ∙ h.0, h.1)
distinct_kept (s ∷ rest) at (suc k) f p h = (
  stored_set rest at k f (later s rest at k p) s.at
      ∙ cond-false (s.at == at) (Some f) (stored rest s.at) (ne_eqb s.at at (λ e. not_first s rest at k p (sym e))) ∙ h.0,
  distinct_kept rest at k f (later s rest at k p) h.1,
)

pub indexed_joined : (facts : List StoredFact) (places : List ℕ) (at k : ℕ) (f : Fact) → IsPlace facts at k → IsIndexed facts places
    → IsIndexed (slice_set facts k (stored_fact at f)) places
indexed_joined facts places at k f p is =
    record {
      many = is.many;
      none = λ q l e. elim (cases_eq q at) [
        | inl same ↦ absurd (no_some (ap is_some (sym (stored_at facts at k (stored_fact at f) p) ∙ ap (stored facts) (sym same) ∙ is.none q l e)))
        | inr other ↦ stored_set facts at k f p q ∙ cond-false (q == at) (Some f) (stored facts q) (ne_eqb q at other) ∙ is.none q l e
      ];
      some = λ q j e. place_kept facts at k f p q j (is.some q j e);
      distinct = distinct_kept facts at k f p is.distinct;
    }

distinct_pushed : (facts : List StoredFact) (at : ℕ) (f : Fact) → stored facts at ≡ None → AreDistinct facts → AreDistinct (facts ++ stored_fact at f ∷ [])
unfolding AreDistinct
distinct_pushed [] at f none h = (refl, tt)
distinct_pushed (s ∷ rest) at f none h =
    let other : s.at ≢ at = none_stored (s ∷ rest) at none 0 s (omega arith) in
    let without = (none_of (at == s.at) s.fact (stored rest at) none).1 in
    (stored_pushed rest at f without s.at ∙ not_arrived s.at at f (stored rest s.at) other ∙ h.0, distinct_pushed rest at f without h.1)

place_pushed : (facts : List StoredFact) (e : StoredFact) (q j : ℕ) → IsPlace facts q j → IsPlace (facts ++ e ∷ []) q j
place_pushed facts e q j is =
    let inside = is.inside in
    record {
      inside = let n = length-append facts (e ∷ []) in omega (arith, n, inside);
      earlier = λ i d l same. is.earlier i d l (sym (ap (λ s. s.at) (get_or_append_left facts (e ∷ []) d i (omega (arith, l, inside)))) ∙ same);
      here = λ d. ap (λ s. s.at) (get_or_append_left facts (e ∷ []) d j inside) ∙ is.here d;
    }

place_new : (facts : List StoredFact) (at : ℕ) (f : Fact) → stored facts at ≡ None → IsPlace (facts ++ stored_fact at f ∷ []) at (length facts)
place_new facts at f none =
    record {
      inside = let n = length-append facts (stored_fact at f ∷ []) in omega (arith, n);
      earlier = λ i d l same. none_stored facts at none i d l (sym (ap (λ s. s.at) (get_or_append_left facts (stored_fact at f ∷ []) d i l)) ∙ same);
      here = λ d. ap (λ s. s.at) (get_or-append_seam facts (stored_fact at f) [] d);
    }

pub indexed_pushed : (facts : List StoredFact) (places : List ℕ) (at : ℕ) (f : Fact) → at ≤ 512 → stored facts at ≡ None → IsIndexed facts places
    → IsIndexed (facts ++ stored_fact at f ∷ []) (slice_set places at (length facts + 1))
indexed_pushed facts places at f l none is =
    let long = is.many in
    let set = slice_set places at (length facts + 1) in
    let here : slice_index set at ≡ length facts + 1 = get_or-set_same places at (length facts + 1) 0 (omega (arith, l, long)) in
    let elsewhere : (q : ℕ) → q ≢ at → slice_index set q ≡ slice_index places q = λ q n. get_or-set_other places at q (length facts + 1) 0 n in
    record {
      many = length-set places at (length facts + 1) ∙ is.many;
      none = λ q m e. elim (cases_eq q at) [
        | inl same ↦ absurd (let h = ap (slice_index set) (sym same) ∙ e in omega (arith, h, here))
        | inr other ↦ stored_pushed facts at f none q ∙ not_arrived q at f (stored facts q) other ∙ is.none q m (sym (elsewhere q other) ∙ e)
      ];
      some = λ q k e. elim (cases_eq q at) [
        | inl same ↦
            let h = ap (slice_index set) (sym same) ∙ e in
            let last : length facts ≡ k = omega (arith, h, here) in
            subst (λ j. IsPlace (facts ++ stored_fact at f ∷ []) q j) last
            (subst (λ u. IsPlace (facts ++ stored_fact at f ∷ []) u (length facts)) (sym same) (place_new facts at f none))
        | inr other ↦ place_pushed facts (stored_fact at f) q k (is.some q k (sym (elsewhere q other) ∙ e))
      ];
      distinct = distinct_pushed facts at f none is.distinct;
    }

no_places : List ℕ
no_places = replicate 513 0

no_places_long : length no_places ≡ 513
unfolding no_places
no_places_long = length-replicate {A = ℕ} 513 0

nowhere : (q : ℕ) → slice_index no_places q ≡ 0
unfolding no_places
nowhere q =
    elim (cases_lt q 513) [
      | inl l ↦ get_or-replicate {A = ℕ} 513 q 0 0 l
      | inr l ↦ get_or_past no_places q 0 (let n = no_places_long in omega (arith, n, l))
    ]

pub indexed_start : (f : Fact) → IsIndexed (stored_fact 0 f ∷ []) (slice_set (replicate 513 0) 0 1)
unfolding no_places
indexed_start f =
    let empty : IsIndexed [] no_places =
    record { many = no_places_long; none = λ q l e. refl; some = λ q k e. absurd (let n = nowhere q in omega (arith, n, e)); distinct = nothing_twice } in
    indexed_pushed [] no_places 0 f (omega arith) refl empty

-- A worker that has served some connections and then serves one more has served all of them.
use Rattle.std.proofs.Common.{◌≡◌, ℕ, ◌+◌, List, [], ◌∷◌, ◌++◌, None, refl, inl, inr, subst, arith, length, length-append}
use Rattle.line_session.specs.Serving.{Outcome, ServesConnections, Serves, good, one_good}

good_more : (outcomes : List Outcome) (outcome : Outcome) → good (outcomes ++ outcome ∷ []) ≡ good outcomes + one_good outcome
good_more [] outcome = omega arith
good_more (o ∷ outcomes) outcome = omega (arith, good_more outcomes outcome)

-- all connections that were asked for were served
abbrev pub ServesAll : {D S : Type 0} → (Outcome → D → S → D → S → Type 0) → ℕ → ℕ → D → S → D → S → Type 0
ServesAll serves_connection = Serves serves_connection (λ d. ⊥)

module _ {D S : Type 0} (serves_connection : Outcome → D → S → D → S → Type 0) where
  visits_more : (outcomes : List Outcome) (outcome : Outcome) (d : D) (s : S) (m : D) (t : S) (d' : D) (s' : S)
      → ServesConnections serves_connection outcomes d s m t → serves_connection outcome m t d' s' → ServesConnections serves_connection (outcomes ++ outcome ∷ []) d s d' s'
  visits_more [] outcome d s m t d' s' h k = (d', s', rw (← h.0, ← h.1) k, (refl, refl))
  visits_more (o ∷ outcomes) outcome d s m t d' s' h k = (h.0, h.1, h.2, visits_more outcomes outcome h.0 h.1 m t d' s' h.3 k)

  all_of : (asked clean : ℕ) (d : D) (s : S) (d' : D) (s' : S) (h : ServesAll serves_connection asked clean d s d' s') → length h.outcomes ≡ asked
  all_of asked clean d s d' s' h = elim h.all_asked [ inl all ↦ all | inr none ↦ absurd none ]

  pub serves_more : (asked clean one : ℕ) (d : D) (s : S) (m : D) (t : S) (d' : D) (s' : S) (outcome : Outcome)
      → ServesAll serves_connection asked clean d s m t → serves_connection outcome m t d' s' → one ≡ one_good outcome → ServesAll serves_connection (asked + 1) (clean + one) d s d' s'
  serves_more asked clean one d s m t d' s' outcome h k is =
      let all = all_of asked clean d s m t h in
      record {
        outcomes = h.outcomes ++ outcome ∷ [];
        each = visits_more h.outcomes outcome d s m t d' s' h.each k;
        most = omega (arith, length-append h.outcomes (outcome ∷ []), all);
        all_asked = inl (omega (arith, length-append h.outcomes (outcome ∷ []), all));
        counted = omega (arith, good_more h.outcomes outcome, h.counted, is);
      }

  -- a connection that couldn't be opened counts as served, but not as ended without a SessionFault
  pub serves_unopened : (asked clean : ℕ) (d : D) (s : S) (m : D) (t : S) (d' : D) (s' : S)
      → ServesAll serves_connection asked clean d s m t → serves_connection None m t d' s' → ServesAll serves_connection (asked + 1) clean d s d' s'
  serves_unopened asked clean d s m t d' s' h k =
      subst (λ n. ServesAll serves_connection (asked + 1) n d s d' s') (omega arith) (serves_more asked clean 0 d s m t d' s' None h k refl)

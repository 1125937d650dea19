-- A worker serves round after round of connections. What all rounds together did to the clock and the pass is what each
-- did, one after another.
use Rattle.std.proofs.Common.{◌≡◌, ◌≤◌, ◌⊎◌, ◌+◌, ◌-◌, ◌^◌, ℕ, List, [], ◌∷◌, ◌++◌, length, Option, Some, None, Bool, true, false, refl, subst, ap, inl, inr, arith, length-append}
use Rattle.std.specs.Prelude.{is_some, min, unwrap_or}
use Rattle.till_request.specs.declared.act.Role.{Role}
use Rattle.line_session.specs.Serving.{Outcome, good}
use Rattle.site_lock.specs.Passes.{PassView, Opened}
use Rattle.site_server.specs.declared.shift.Shift.{Shift}
use Rattle.site_server.specs.Tasks.{AnswersConnections, Fills, Worked}

-- A round of at most `asked` connections led from s to t, and `clean` of them ended without a SessionFault. There were
-- fewer only if `may_close`.
pub record Round (f : Opened) (may_fail : Type 0) (day : ℕ) (role : Role) (asked clean : ℕ) (may_close : Type 0) (s t : ℕ × PassView) : Type 0 where
  pub outcomes : List Outcome
  pub each : AnswersConnections f may_fail day role outcomes s t
  pub counted : clean ≡ good outcomes
  pub most : length outcomes ≤ asked
  pub all_asked : (length outcomes ≡ asked) ⊎ may_close

-- Rounds with these outcomes led from s to t, and `clean` counts those without a SessionFault. If the number of
-- connections is given, none were served yet.
pub record Going (f : Opened) (may_fail : Type 0) (day : ℕ) (role : Role) (shift : Shift) (clean : ℕ) (s t : ℕ × PassView) : Type 0 where
  pub outcomes : List Outcome
  pub each : AnswersConnections f may_fail day role outcomes s t
  pub counted : clean ≡ min (good outcomes) (2 ^ 64 - 1)
  pub first : is_some shift.connections ≡ true → outcomes ≡ []

good_together : (outcomes more : List Outcome) → good (outcomes ++ more) ≡ good outcomes + good more
good_together [] more = omega arith
good_together (outcome ∷ outcomes) more = omega (arith, good_together outcomes more)

capped : (a b clean next : ℕ) → clean ≡ min a (2 ^ 64 - 1) → next ≡ min (clean + b) (2 ^ 64 - 1) → next ≡ min (a + b) (2 ^ 64 - 1)
capped a b clean next is more = omega (arith, is, more)

fills : (c : Option ℕ) (may_stop : Bool) (before after : List Outcome) (asked : ℕ) (may_close : Type 0) → asked ≡ unwrap_or c 4294967295
    → (is_some c ≡ true → before ≡ []) → length after ≤ asked → (length after ≡ asked) ⊎ may_close → (may_close → may_stop ≡ true)
    → (is_some c ≡ true) ⊎ (may_stop ≡ true) → Fills c may_stop (length (before ++ after))
fills None may_stop before after asked may_close is first most all stops (inl given) = absurd (cc)
fills None may_stop before after asked may_close is first most all stops (inr stop) = stop
fills (Some n) may_stop before after asked may_close is first most (inl all) stops why =
    let same : length (before ++ after) ≡ length after = ap (λ (b : List Outcome). length (b ++ after)) (first refl) in
    (omega (arith, same, most, is), λ stays. omega (arith, same, all, is))
fills (Some n) may_stop before after asked may_close is first most (inr may) stops why =
    let same : length (before ++ after) ≡ length after = ap (λ (b : List Outcome). length (b ++ after)) (first refl) in
    let stop = stops may in (omega (arith, same, most, is), λ stays. absurd (cc))

module _ (f : Opened) (may_fail : Type 0) (day : ℕ) (role : Role) where
  one_after_another : (outcomes more : List Outcome) (s m t : ℕ × PassView) → AnswersConnections f may_fail day role outcomes s m
      → AnswersConnections f may_fail day role more m t → AnswersConnections f may_fail day role (outcomes ++ more) s t
  one_after_another [] more s m t h k = subst (λ (x : ℕ × PassView). AnswersConnections f may_fail day role more x t) h k
  one_after_another (outcome ∷ outcomes) more s m t h k = (h.0, h.1, one_after_another outcomes more h.0 m t h.2 k)

  pub begins : (shift : Shift) (clean moment : ℕ) (p q : PassView) → clean ≡ 0 → moment ≡ 0 → q ≡ p → Going f may_fail day role shift clean (0, p) (moment, q)
  begins shift clean moment p q none start same = record { outcomes = []; each = rw (start, same) refl; counted = omega (arith, none); first = λ given. refl }

  pub goes_on : (shift : Shift) (clean asked more next : ℕ) (may_close : Type 0) (s m t : ℕ × PassView) → is_some shift.connections ≡ false
      → next ≡ min (clean + more) (2 ^ 64 - 1) → Going f may_fail day role shift clean s m → Round f may_fail day role asked more may_close m t
      → Going f may_fail day role shift next s t
  goes_on shift clean asked more next may_close s m t endless sum h k = record {
    outcomes = h.outcomes ++ k.outcomes;
    each = one_after_another h.outcomes k.outcomes s m t h.each k.each;
    counted = rw (good_together h.outcomes k.outcomes, ← k.counted) (capped (good h.outcomes) more clean next h.counted sum);
    first = λ given. absurd (cc);
  }

  pub is_done : (shift : Shift) (clean asked more next : ℕ) (may_close : Type 0) (p q : PassView) (m : ℕ × PassView) (moment : ℕ) → asked ≡ unwrap_or shift.connections 4294967295
      → next ≡ min (clean + more) (2 ^ 64 - 1) → Going f may_fail day role shift clean (0, p) m → Round f may_fail day role asked more may_close m (moment, q)
      → (may_close → shift.may_stop ≡ true) → (is_some shift.connections ≡ true) ⊎ (shift.may_stop ≡ true) → Worked f may_fail day role shift next p q
  is_done shift clean asked more next may_close p q m moment is sum h k stops why = record {
    moment = moment;
    outcomes = h.outcomes ++ k.outcomes;
    each = one_after_another h.outcomes k.outcomes (0, p) m (moment, q) h.each k.each;
    all_asked = fills shift.connections shift.may_stop h.outcomes k.outcomes asked may_close is h.first k.most k.all_asked stops why;
    counted = rw (good_together h.outcomes k.outcomes, ← k.counted) (capped (good h.outcomes) more clean next h.counted sum);
  }

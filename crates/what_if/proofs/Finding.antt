-- Lists of 32 counters, and what is found in a history with one more step.
use Rattle.std.proofs.Common.{◌≡◌, ℕ, List, [], ◌∷◌, ◌++◌, map, length, ◌<◌, ◌≤◌, Option, All, replicate, refl, sym, ◌∙◌, arith}
use Rattle.std.specs.List.{range_with_len}
use Rattle.std.proofs.lemmas.List.{ext_get_or}
use Rattle.std.proofs.lemmas.List.Elements.{All-replicate}
use Rattle.std.proofs.lemmas.List.FromFn.{length-map-range_with_len, get_or-map-range_with_len}
use Rattle.std.proofs.lemmas.List.Sums.{fold_push}
use Rattle.bpf_model.specs.Machine.{Counters, counter}
use Rattle.bpf_model.specs.Program.{ProgramText}
use Rattle.verifier.specs.CounterChanges.{adopted}
use Rattle.site_core.specs.Steps.{StepValue}
use Rattle.what_if.specs.Comparisons.{HasFound, HasLookedAt, found_by}
use Rattle.what_if.specs.Decisions.{decision_in}
use Rattle.what_if.specs.Rows.{after_any, after_step, found_in, nothing_found, preset_of, taken_over}
use Rattle.what_if.specs.declared.comparison.Comparison.{Comparison}
use Rattle.what_if.specs.declared.comparison.Reading.{Reading}
use Rattle.what_if.specs.declared.decisions.Decision.{Decision}

-- Counters that are one by one those that were taken over are these.
pub is-taken_over : (declared : ℕ) (own site new : Counters) → length new ≡ 32 → ((c : ℕ) → counter new c ≡ adopted declared own site c)
    → new ≡ taken_over declared own site
is-taken_over declared own site new many each =
    let all : Counters = taken_over declared own site in
    let as_many : length all ≡ 32 = length-map-range_with_len (λ c. adopted declared own site c) 0 32 in
    ext_get_or (0, 0) new all (many ∙ sym as_many)
    (λ i below. each i ∙ sym (get_or-map-range_with_len (λ c. adopted declared own site c) 0 32 i i (0, 0) (omega (arith, below, many)) (omega arith)))

pub found-none : (rule : ProgramText) (slot : ℕ) (reading : Reading) → nothing_found ≡ found_in rule slot reading []
unfolding found_in
found-none rule slot reading = refl

pub found-more : (rule : ProgramText) (slot : ℕ) (reading : Reading) (steps : List StepValue) (step : StepValue)
    → after_step rule slot reading (found_in rule slot reading steps) step ≡ found_in rule slot reading (steps ++ step ∷ [])
unfolding found_in
found-more rule slot reading steps step = sym (fold_push (after_step rule slot reading) nothing_found steps step)

-- A comparison that takes the decision of one more step, if there is one, has found what the steps show with it.
pub has-found-more : (old new : Comparison) (steps : List StepValue) (step : StepValue) (preset : ℕ) (decision : Option Decision)
    → HasLookedAt old step.before → HasFound old steps → preset ≡ preset_of step.change.before → decision ≡ decision_in old.slot step.entry
    → found_by new ≡ after_any old.rule.now old.reading old.view old.counters preset (found_by old) decision
    → new.rule.now ≡ old.rule.now → new.slot ≡ old.slot → new.reading ≡ old.reading → HasFound new (steps ++ step ∷ [])
has-found-more old new steps step preset decision looked found at is taken rule slot reading =
    taken
    ∙ (λ i. after_any old.rule.now old.reading (looked.view i) (looked.counters i) (at i) (found i) (is i))
    ∙ found-more old.rule.now old.slot old.reading steps step
    ∙ (λ i. found_in (sym rule i) (sym slot i) (sym reading i) (steps ++ step ∷ []))

-- All counters at 0, within bounds of 0.
pub zero-counters : All (λ (c : ℕ × ℕ). c.0 ≤ c.1) (replicate 32 (0, 0))
zero-counters = All-replicate (λ (c : ℕ × ℕ). c.0 ≤ c.1) 32 (0, 0) (omega arith)

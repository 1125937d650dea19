-- A picture divides time, or the entries of a history, into steps, and each step shows one state of each point. The
-- loop over the steps finds the states that the picture shows: first the states of all points in step 0, then those in
-- step 1, and so on.
use Rattle.std.proofs.Common.{◌≡◌, ℕ, ◌+◌, ◌-◌, ◌<◌, ◌≤◌, List, [], ◌∷◌, ◌++◌, length, take, drop, append_assoc, arith, Option, Some, None, ap, ◌∙◌, sym, subst, get_or}
use Rattle.std.specs.Prelude.{nat_lt, if◌then◌else◌}
use Rattle.std.proofs.Math.Seq.{take-append-add}
use Rattle.std.proofs.lemmas.Bool.{cond_both, cond-false, le-ltb, ltb-false}
use Rattle.std.proofs.lemmas.Grind.{common_steps}
use Rattle.std.proofs.lemmas.List.{drop_more, take-append-drop}
use Rattle.std.proofs.lemmas.List.Sums.{fold-append}
use Rattle.fuelling_point.specs.declared.kinds.State.{State}
use Rattle.day_report.specs.declared.steps.Axis.{Axis}
use Rattle.day_report.specs.declared.steps.Mark.{Mark}
use Rattle.day_report.specs.Picture.{AreStepEnds, cut_from, is_behind, marks_between, put_state, states_after, step_at, step_shows, steps_show}

-- ---- These lemmas show that a step ends no earlier than any step before it, and no later than the history ends.

module _ (axis : Axis) (steps : ℕ) where
  at_least : (k place : ℕ) (marks : List Mark) → place ≤ cut_from axis steps k place marks
  at_least k place [] = omega arith
  at_least k place (m ∷ marks) =
      cond_both (is_behind k (step_at axis place m.moment steps)) place (cut_from axis steps k (place + 1) marks) (λ x. place ≤ x) (λ _. omega arith)
      (λ _. omega (arith, at_least k (place + 1) marks))

  at_most : (k place : ℕ) (marks : List Mark) → cut_from axis steps k place marks ≤ place + length marks
  at_most k place [] = omega arith
  at_most k place (m ∷ marks) =
      cond_both (is_behind k (step_at axis place m.moment steps)) place (cut_from axis steps k (place + 1) marks) (λ x. x ≤ place + length (m ∷ marks))
      (λ _. omega arith) (λ _. omega (arith, at_most k (place + 1) marks))

  -- If step j ends no later than step k in a list of marks, then this is still so after a mark of step `s`, at place x,
  -- is put before the list. a and b are the places where steps j and k end in the list. j must be at most k, and x at
  -- most b.
  behind_both : (s : Option ℕ) (j k : ℕ) → j ≤ k → (x a b : ℕ) → x ≤ b → a ≤ b → (if is_behind j s then x else a) ≤ (if is_behind k s then x else b)
  behind_both None j k le x a b low up = up
  behind_both (Some step) j k le x a b low up =
      cond_both (nat_lt j step) x a (λ y. y ≤ (if nat_lt k step then x else b))
      (λ _. cond_both (nat_lt k step) x b (λ z. x ≤ z) (λ _. omega arith) (λ _. low))
      (λ f. subst (λ z. a ≤ z) (sym (cond-false (nat_lt k step) x b (le-ltb k step (omega (arith, le, ltb-false j step f))))) up)

  ascend : (j k : ℕ) → j ≤ k → (place : ℕ) (marks : List Mark) → cut_from axis steps j place marks ≤ cut_from axis steps k place marks
  ascend j k le place [] = omega arith
  ascend j k le place (m ∷ marks) =
      behind_both (step_at axis place m.moment steps) j k le place (cut_from axis steps j (place + 1) marks) (cut_from axis steps k (place + 1) marks)
      (omega (arith, at_least k (place + 1) marks)) (ascend j k le (place + 1) marks)

  module _ (marks : List Mark) (step_ends : List ℕ) (are : AreStepEnds axis steps marks step_ends) where
    cut_is : (k : ℕ) → k < length step_ends → get_or step_ends k 0 ≡ cut_from axis steps k 0 marks
    cut_is k lt = are.each k (omega (arith, lt, are.long))

    pub cut_fits : (k : ℕ) → k < length step_ends → get_or step_ends k 0 ≤ length marks
    cut_fits k lt = omega (arith, cut_is k lt, at_most k 0 marks)

    pub cuts_ascend : (j k : ℕ) → j ≤ k → k < length step_ends → get_or step_ends j 0 ≤ get_or step_ends k 0
    cuts_ascend j k le lt = omega (arith, cut_is j (omega (arith, le, lt)), cut_is k lt, ascend j k le 0 marks)

-- ---- `Stands` is the invariant of the loop over the steps. The lemma `next` shows that it holds after each step.

-- A loop over `step_ends` has come to step i, and has followed the first `done` entries:
-- - `now` are the states of the points after these entries.
-- - No step from step i on ends before place `done`.
-- - `shown`, followed by what the steps from step i on show, is what all steps show.
pub record Stands (states : List State) (marks : List Mark) (step_ends : List ℕ) (i done : ℕ) (now shown : List State) : Type 0 where
  pub within_limit : done ≤ length marks
  pub stood : now ≡ states_after states (take done marks)
  pub ahead : (k : ℕ) → i ≤ k → k < length step_ends → done ≤ get_or step_ends k 0
  pub told : shown ++ steps_show states marks done (drop i step_ends) ≡ steps_show states marks 0 step_ends

-- The first `done` marks, followed by the marks from place `done` to before place `cut`, are the first `cut` marks.
joined : (marks : List Mark) (done cut : ℕ) → done ≤ cut → cut ≤ length marks → take done marks ++ marks_between marks done cut ≡ take cut marks
joined marks done cut le within_limit =
    let front = take done marks in
    let long : length front ≡ done = grind (arith, common_steps) in
    let sum : length front + (cut - done) ≡ cut = omega (arith, long, le) in
    sym (take-append-add front (drop done marks) (cut - done)) ∙ (λ j. take (sum j) (take-append-drop done marks j))

module _ (states : List State) (marks : List Mark) (step_ends : List ℕ) (i done cut : ℕ) (now new shown step more : List State) where
  pub next : i < length step_ends → cut ≡ get_or step_ends i 0 → ((j k : ℕ) → j ≤ k → k < length step_ends → get_or step_ends j 0 ≤ get_or step_ends k 0) → cut ≤ length marks
      → Stands states marks step_ends i done now shown
      → new ≡ states_after now (marks_between marks done cut)
      → step ≡ step_shows now (marks_between marks done cut)
      → more ≡ shown ++ step
      → Stands states marks step_ends (i + 1) cut new more
  next lt is ascends within_limit h stood shows pushed =
      let le : done ≤ cut = subst (λ n. done ≤ n) (sym is) (h.ahead i (omega arith) lt) in
      let between = marks_between marks done cut in
      let rest = steps_show states marks cut (drop (i + 1) step_ends) in
      let first : step ≡ step_shows (states_after states (take done marks)) between = shows ∙ ap (λ s. step_shows s between) h.stood in
      let all : steps_show states marks done (drop i step_ends) ≡ step_shows (states_after states (take done marks)) between ++ rest =
      ap (steps_show states marks done) (drop_more step_ends i 0 lt ∙ ap (λ n. n ∷ drop (i + 1) step_ends) (sym is)) in
      record {
        within_limit = within_limit;
        stood =
            stood
            ∙ ap (λ s. states_after s between) h.stood
            ∙ sym (fold-append (λ s (m : Mark). put_state s m.touched) states (take done marks) between)
            ∙ ap (states_after states) (joined marks done cut le within_limit);
        ahead = λ k up below. subst (λ n. n ≤ get_or step_ends k 0) (sym is) (ascends i k (omega (arith, up)) below);
        told =
            ap (λ s. s ++ rest) pushed
            ∙ append_assoc shown step rest
            ∙ ap (λ s. shown ++ (s ++ rest)) first
            ∙ ap (λ s. shown ++ s) (sym all)
            ∙ h.told;
      }

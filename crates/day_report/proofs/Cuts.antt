-- The invariant of the loop that divides a history into the steps of its picture. The steps are equal parts of an axis,
-- which is time or the entries. The loop finds the place in the history where each step ends.
use Rattle.std.proofs.Common.{◌≡◌, ℕ, ◌<◌, ◌≤◌, List, length, drop, get_or}
use Rattle.day_report.specs.declared.steps.Mark.{Mark}
use Rattle.day_report.specs.declared.steps.Axis.{Axis}
use Rattle.day_report.specs.Picture.{cut_from}

-- A loop over `marks` has come to place i. So far `step_ends` has the ends of the first steps, at most `steps` of
-- them. The ends of all later steps follow from the marks from place i on.
pub record Cuts (axis : Axis) (steps : ℕ) (marks : List Mark) (i : ℕ) (step_ends : List ℕ) : Type 0 where
  pub within_limit : length step_ends ≤ steps
  pub known : (k : ℕ) → k < length step_ends → get_or step_ends k 0 ≡ cut_from axis steps k 0 marks
  pub ahead : (k : ℕ) → length step_ends ≤ k → cut_from axis steps k 0 marks ≡ cut_from axis steps k i (drop i marks)

-- The invariant of the loop that reads the moments of the marks, to choose the axis of a day's picture: time or the
-- entries.
use Rattle.std.proofs.Common.{◌≡◌, ℕ, List, drop}
use Rattle.day_report.specs.declared.steps.Mark.{Mark}
use Rattle.day_report.specs.Picture.{moments_in, never_fall, first_in, last_in, first_or}

-- The loop has come to place i of `marks`. `first` and `last` are the first and the last moment of the marks before
-- this place, or 0 if none of these marks has a moment. From these two and the marks from place i on, the loop can
-- still find:
-- - whether the moments of all marks never decrease
-- - the first moment of all marks
-- - the last moment of all marks
pub record Remains (marks : List Mark) (i first last : ℕ) : Type 0 where
  pub steady : never_fall 0 (moments_in marks) ≡ never_fall last (moments_in (drop i marks))
  pub first_is : first_in (moments_in marks) ≡ first_or first (first_in (moments_in (drop i marks)))
  pub last_is : last_in 0 (moments_in marks) ≡ last_in last (moments_in (drop i marks))

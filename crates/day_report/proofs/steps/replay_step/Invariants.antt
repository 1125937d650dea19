use Rattle.std.proofs.Common.{◌≡◌, take}
use Rattle.day_report.specs.Picture.{states_after, step_shows}
use Rattle.day_report.proofs.steps.replay_step.Given as goal

abbrev pub invariant-loop-mark : goal.invariant-loop-mark
invariant-loop-mark l =
    (l.now ≡ states_after l.initial.now (take l.mark-index l.marks)) × (l.shown ≡ step_shows l.initial.shown (take l.mark-index l.marks))

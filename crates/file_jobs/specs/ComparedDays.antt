-- Definitions: the days with which a rule is compared (source: this project).
use Rattle.days.specs.EndedDays.{DayEnd}
use Rattle.site_core.specs.Steps.{steps_of}
use Rattle.what_if.specs.Days.{DaySteps}

-- The number of a day that has ended, and the steps of its history.
abbrev pub steps_of_end : DayEnd → DaySteps
steps_of_end end = (end.number, steps_of end.site.config end.site.history)

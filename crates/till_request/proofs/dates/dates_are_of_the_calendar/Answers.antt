use Rattle.till_request.proofs.Calendar.{of_the_calendar}
use Rattle.till_request.proofs.dates.dates_are_of_the_calendar.Goals as goal

pub returns : goal.returns
returns c = of_the_calendar

use Rattle.day_export.proofs.Telling.{telling}
use Rattle.day_export.proofs.laws.law_of_rows.Goals as goal

pub returns : goal.returns
returns c = telling

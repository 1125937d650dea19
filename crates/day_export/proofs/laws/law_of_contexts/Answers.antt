use Rattle.day_export.proofs.Contexts.{telling}
use Rattle.day_export.proofs.laws.law_of_contexts.Goals as goal

pub returns : goal.returns
returns c = telling

use Rattle.day_report.proofs.Wholes.{parts-come}
use Rattle.day_report.proofs.laws.law_of_sums.Goals as goal

pub returns : goal.returns
returns c = parts-come

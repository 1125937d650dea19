use Rattle.day_report.proofs.Deliveries.{deliveries-known}
use Rattle.day_report.proofs.laws.law_of_deliveries.Goals as goal

pub returns : goal.returns
returns c = deliveries-known

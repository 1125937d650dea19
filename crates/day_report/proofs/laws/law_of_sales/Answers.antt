use Rattle.day_report.proofs.SiteSales.{sales-agree}
use Rattle.day_report.proofs.laws.law_of_sales.Goals as goal

pub returns : goal.returns
returns c = sales-agree

use Rattle.day_report.proofs.SiteDecisions.{versions-count-all}
use Rattle.day_report.proofs.laws.law_of_decisions.Goals as goal

pub returns : goal.returns
returns c = versions-count-all

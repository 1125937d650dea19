use Rattle.day_report.proofs.Off.{first_of}
use Rattle.day_report.proofs.sums.OffSales.first.Goals as goal

pub returns : goal.returns
returns c = λ sales o. first_of c.args.self.now sales c.min-count.result o c.min-count.ensures

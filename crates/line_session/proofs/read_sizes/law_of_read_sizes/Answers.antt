use Rattle.line_session.proofs.Cutting.{cuts_alike}
use Rattle.line_session.proofs.read_sizes.law_of_read_sizes.Goals as goal

pub returns : goal.returns
returns g c = λ handler determined. cuts_alike _ determined

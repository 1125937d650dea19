use Rattle.line_session.proofs.Cutting.{desk_cuts_alike}
use Rattle.line_session.proofs.read_sizes.law_of_read_sizes_at_desks.Goals as goal

pub returns : goal.returns
returns g c = λ role tells answers. desk_cuts_alike _ _ _ tells answers role

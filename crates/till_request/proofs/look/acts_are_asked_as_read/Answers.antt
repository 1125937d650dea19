use Rattle.till_request.proofs.Looking.{asks_for_acts}
use Rattle.till_request.proofs.look.acts_are_asked_as_read.Goals as goal

pub returns : goal.returns
returns c = asks_for_acts

use Rattle.till_request.proofs.Spelled.{reads_back}
use Rattle.till_request.proofs.spelling.spelling_is_read.Goals as goal

pub returns : goal.returns
returns c = reads_back

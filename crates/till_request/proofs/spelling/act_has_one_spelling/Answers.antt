use Rattle.till_request.proofs.OneSpelling.{one_spelling}
use Rattle.till_request.proofs.spelling.act_has_one_spelling.Goals as goal

pub returns : goal.returns
returns c = one_spelling

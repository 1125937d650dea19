use Rattle.till_request.proofs.Looking.{too_few}
use Rattle.till_request.proofs.look.look_behind_first.Goals as goal

pub returns-in_default-clause-value : goal.returns-in_default-clause-value
returns-in_default-clause-value c = too_few c.args.words.now c.in_default.len_below

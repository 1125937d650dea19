use Rattle.verifier.proofs.Stack.{tells_all}
use Rattle.verifier.proofs.rules.are_set.Goals as goal

pub returns : goal.returns
returns c = tells_all c.args.set.now c.args.at c.args.len c.all_set.result c.all_set.ensures.0 c.all_set.ensures.1

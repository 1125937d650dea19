use Rattle.what_if.proofs.SameRule.{same-rule}
use Rattle.what_if.proofs.laws.law_of_the_same_rule.Goals as goal

pub returns : goal.returns
returns c = same-rule

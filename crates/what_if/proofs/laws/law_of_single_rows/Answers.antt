use Rattle.what_if.proofs.Alone.{stand-alone}
use Rattle.what_if.proofs.laws.law_of_single_rows.Goals as goal

pub returns : goal.returns
returns c = stand-alone

use Rattle.std.proofs.Common.{FitsSigned, w64, rules}
use Rattle.std.proofs.lemmas.Int.{to_z-of_z}
use Rattle.zones.proofs.ends.end_on.Goals as goal

pub returns : goal.returns
returns c =
    let fits : FitsSigned w64 c.second_on.result = search rules in
    let small : FitsSigned w64 c.args.date = search rules in
    (c.shown_at.result, rw (to_z-of_z w64 c.second_on.result fits, c.second_on.ensures.second, to_z-of_z w64 c.args.date small) at c.shown_at.ensures, c.reached.ensures)

use Rattle.std.proofs.Common.{◌+◌, sym, eqb, arith, length-drop}
use Rattle.till_request.proofs.Parted.{cut_first, cut_nowhere, rest_behind}
use Rattle.till_request.proofs.parts.first_part.Goals as goal

pub returns-in-Some : goal.returns-in-Some
returns-in-Some c =
    let cut = cut_first (λ b. eqb b c.args.separator) c.args.text.now c.in-Some.at (sym c.in-Some.ensures) in
    rw (rest_behind c.args.text.now (c.in-Some.at + 1)) (cut.1, omega (arith, cut.0, length-drop (c.in-Some.at + 1) c.args.text.now))

pub returns-in-None : goal.returns-in-None
returns-in-None c = cut_nowhere (λ b. eqb b c.args.separator) c.args.text.now (sym c.in-None.ensures)

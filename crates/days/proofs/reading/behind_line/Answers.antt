use Rattle.days.proofs.Compared.{lacks_cut, none_found}
use Rattle.days.proofs.reading.behind_line.Goals as goal

pub returns-in_default : goal.returns-in_default
returns-in_default c =
    lacks_cut c.args.text.now c.first_part.result.0.now c.args.line.now (none_found c.first_part.result.1 _ _ c.in_default.not-Some c.first_part.ensures)

use Rattle.std.proofs.Common.{ap, codes, false, option_and_then, sym, ◌∙◌}
use Rattle.clap.specs.Words.{found_of}
use Rattle.clap.proofs.WalkLemmas.{first_value-rows}
use Rattle.file_jobs.specs.Mask.{number_of}
use Rattle.file_jobs.proofs.command_line.number_of.Goals as goal

pub returns-in-Some : goal.returns-in-Some
returns-in-Some c =
    c.decimal_named.ensures
    ∙ sym (ap (option_and_then (number_of false)) (sym (first_value-rows (found_of c.args.matches.now) (codes "entry"))
    ∙ (rw c.in-Some.is at (sym c.get_str.ensures))))

pub returns-in-None : goal.returns-in-None
returns-in-None c =
    sym (ap (option_and_then (number_of false)) (sym (first_value-rows (found_of c.args.matches.now) (codes "entry"))
    ∙ (rw c.in-None.is at (sym c.get_str.ensures))))

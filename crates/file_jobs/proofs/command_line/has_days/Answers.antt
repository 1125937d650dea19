use Rattle.std.proofs.Common.{◌∙◌, ap, codes, is_some, sym}
use Rattle.clap.specs.Words.{found_of}
use Rattle.clap.proofs.WalkLemmas.{first_value-rows}
use Rattle.file_jobs.proofs.command_line.has_days.Goals as goal

pub returns-in-Some : goal.returns-in-Some
returns-in-Some c =
    ap is_some
    (sym (sym (first_value-rows (found_of c.args.matches.now) (codes "days")) ∙ (rw c.in-Some.is at (sym c.get_str.ensures))))

pub returns-in-None : goal.returns-in-None
returns-in-None c =
    ap is_some
    (sym (sym (first_value-rows (found_of c.args.matches.now) (codes "days")) ∙ (rw c.in-None.is at (sym c.get_str.ensures))))

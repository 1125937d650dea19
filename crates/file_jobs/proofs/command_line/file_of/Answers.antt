use Rattle.std.proofs.Common.{Some, ap, sym, ◌∙◌}
use Rattle.clap.specs.Words.{found_of}
use Rattle.clap.proofs.WalkLemmas.{first_value-rows}
use Rattle.file_jobs.proofs.command_line.file_of.Goals as goal

pub returns-in_ok-name-in-Some : goal.returns-in_ok-name-in-Some
returns-in_ok-name-in-Some c =
    sym (first_value-rows (found_of c.args.matches.now) c.args.id.now) ∙ (rw c.in-Some.is at (sym c.get_str.ensures))
    ∙ ap Some (sym c.in_ok-name-in-Some.ensures.ok)

pub returns-in-None : goal.returns-in-None
returns-in-None c = sym (first_value-rows (found_of c.args.matches.now) c.args.id.now) ∙ (rw c.in-None.is at (sym c.get_str.ensures))

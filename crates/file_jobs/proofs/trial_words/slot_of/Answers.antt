use Rattle.std.proofs.Common.{ap, codes, option_and_then, sym, ◌∙◌}
use Rattle.clap.specs.Words.{found_of}
use Rattle.clap.proofs.WalkLemmas.{first_value-rows}
use Rattle.file_jobs.specs.JobRequest.{slot_named}
use Rattle.file_jobs.proofs.trial_words.slot_of.Goals as goal

pub returns-in-Some : goal.returns-in-Some
returns-in-Some c =
    c.slot_named.ensures
    ∙ sym (ap (option_and_then slot_named) (sym (first_value-rows (found_of c.args.matches.now) (codes "slot"))
    ∙ (rw c.in-Some.is at (sym c.get_str.ensures))))

pub returns-in-None : goal.returns-in-None
returns-in-None c =
    sym (ap (option_and_then slot_named) (sym (first_value-rows (found_of c.args.matches.now) (codes "slot"))
    ∙ (rw c.in-None.is at (sym c.get_str.ensures))))

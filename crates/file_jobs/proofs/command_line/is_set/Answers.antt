use Rattle.std.proofs.Common.{◌∙◌, ℕ, List, ap, codes, false, sym}
use Rattle.std.specs.Option.{option_map_or}
use Rattle.std.specs.Str.{bytes_eq}
use Rattle.clap.specs.Words.{found_of}
use Rattle.clap.proofs.WalkLemmas.{first_value-rows}
use Rattle.file_jobs.proofs.command_line.is_set.Goals as goal

pub returns-in-Some : goal.returns-in-Some
returns-in-Some c =
    c.eq.ensures
    ∙ ap (λ o. option_map_or (λ (t : List ℕ). bytes_eq t (codes "true")) o false)
    (sym (sym (first_value-rows (found_of c.args.matches.now) c.args.id.now) ∙ (rw c.in-Some.is at (sym c.get_str.ensures))))

pub returns-in-None : goal.returns-in-None
returns-in-None c =
    ap (λ o. option_map_or (λ (t : List ℕ). bytes_eq t (codes "true")) o false)
    (sym (sym (first_value-rows (found_of c.args.matches.now) c.args.id.now) ∙ (rw c.in-None.is at (sym c.get_str.ensures))))

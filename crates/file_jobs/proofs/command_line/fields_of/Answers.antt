use Rattle.std.proofs.Common.{◌≡◌, ◌∙◌, ℕ, [], IfOk, List, ap, codes, map, string_bytes, subst, unwrap_or}
use Rattle.clap.specs.Words.{found_of}
use Rattle.clap.proofs.WalkLemmas.{raw_values-rows}
use Rattle.file_jobs.proofs.command_line.fields_of.Goals as goal

pub returns-in-Some : goal.returns-in-Some
returns-in-Some c =
    subst (λ (given : List (List ℕ)). IfOk c.copies_of.result (λ copies. map string_bytes copies.items ≡ given))
    (ap (λ given. unwrap_or given [])
    (rw c.in-Some.is at (c.get_strs.ensures ∙ raw_values-rows (found_of c.args.matches.now) (codes "fields"))))
    c.copies_of.ensures

pub returns-in-None : goal.returns-in-None
returns-in-None c =
    ap (map string_bytes) c.new.ensures.items
    ∙ ap (λ given. unwrap_or given [])
    (rw c.in-None.is at (c.get_strs.ensures ∙ raw_values-rows (found_of c.args.matches.now) (codes "fields")))

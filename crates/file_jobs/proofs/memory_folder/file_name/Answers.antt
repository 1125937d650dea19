use Rattle.std.proofs.Common.{◌≡◌, ◌∷◌, ◌++◌, IfOk, string_bytes, subst, ap, ◌∙◌}
use Rattle.std.specs.Fmt.{styled_decimal}
use Rattle.file_jobs.specs.Days.{six_digits}
use Rattle.file_jobs.proofs.Padded.{padded-six}
use Rattle.file_jobs.proofs.memory_folder.file_name.Goals as goal

pub returns : goal.returns
returns c =
    let ending = c.ending-ending.result.now in
    let day = c.args.day in
    let padded = subst (λ ds. IfOk c.format.result (λ s. string_bytes s ≡ ds ++ (46 ∷ ending)))
    (ap (λ spec. styled_decimal spec day) c.laid_out.ensures ∙ padded-six day) c.format.ensures.ok in
    subst (λ e. IfOk c.format.result (λ s. string_bytes s ≡ six_digits day ++ (46 ∷ e))) c.ending-ending.ensures padded

use Rattle.std.proofs.Common.{◌≡◌, ◌∷◌, ◌++◌, IfOk, string_bytes, subst, ap, ◌∙◌}
use Rattle.std.specs.Fmt.{styled_decimal}
use Rattle.file_jobs.specs.Days.{six_digits}
use Rattle.file_jobs.proofs.Padded.{padded-six}
use Rattle.file_jobs.proofs.folder.Folder.file.Goals as goal

pub returns : goal.returns
returns c =
    let path = c.args.self.path.now in
    let ending = c.ending-ending.result.now in
    let day = c.args.day in
    let padded = subst (λ ds. IfOk c.format.result (λ s. string_bytes s ≡ path ++ (47 ∷ (ds ++ (46 ∷ ending)))))
    (ap (λ spec. styled_decimal spec day) c.laid_out.ensures ∙ padded-six day) c.format.ensures.ok in
    subst (λ e. IfOk c.format.result (λ s. string_bytes s ≡ path ++ (47 ∷ (six_digits day ++ (46 ∷ e))))) c.ending-ending.ensures padded

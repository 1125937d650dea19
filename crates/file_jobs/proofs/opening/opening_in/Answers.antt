use Rattle.std.proofs.Common.{◌≡◌, ◌∙◌, [], refl, subst, sym}
use Rattle.days.specs.Flaws.{IsFlaw}
use Rattle.days.specs.declared.file.OpeningFlaw.TheVariants as flaws
use Rattle.file_jobs.specs.FileRefusals.{RefusesOpening}
use Rattle.file_jobs.specs.JobErrors.{Ends}
use Rattle.file_jobs.specs.declared.job_error.JobError.{JobError}
use Rattle.file_jobs.proofs.GoodOpenings.{flaw_is_memory}
use Rattle.file_jobs.proofs.opening.opening_in.Goals as goal

pub returns-clause-none : goal.returns-clause-none
returns-clause-none g c = λ text is short some.
    let flaw = c.in-Err.flaw in
    let error = c.refuse_opening.result in
    let memory : flaw ≡ flaws.OutOfMemory =
    flaw_is_memory text flaw (subst (λ t. IsFlaw t flaw) (c.deref.ensures.value ∙ c.in_ok-bytes.ensures.all text is) c.in-Err.ensures.flaw) some in
    let told = subst (λ f. RefusesOpening f error) memory c.refuse_opening.ensures.refused in
    subst (λ (e : JobError). Ends 3 [] e) (sym told) (refl, refl)

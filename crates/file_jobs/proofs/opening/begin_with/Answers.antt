use Rattle.std.proofs.Common.{◌≡◌, ◌∙◌, [], ap, refl, subst, sym}
use Rattle.days.specs.Fitting.{BeginsWith}
use Rattle.days.specs.Misfits.{IsOutOfMemory}
use Rattle.days.specs.declared.file.OpeningFile.{OpeningFile}
use Rattle.file_jobs.specs.JobErrors.{Ends}
use Rattle.file_jobs.specs.declared.job_error.JobError.{JobError}
use Rattle.file_jobs.proofs.GoodOpenings.{unfit_is_memory}
use Rattle.file_jobs.proofs.opening.begin_with.Goals as goal

pub returns-in-Err-clause-none : goal.returns-in-Err-clause-none
returns-in-Err-clause-none g c = λ text day begun is short begins.
    let file = c.in_ok-file.file in
    let same : begins.0 ≡ file = c.in_ok-file.ensures.only text is begins.0 begins.1 begins.2 begins.3 in
    let begun_by = subst (λ (f : OpeningFile). BeginsWith c.args.config f.opening begun) same begins.5 in
    let memory : IsOutOfMemory c.in-Err.unfit = unfit_is_memory c.in-Err.unfit (λ no. c.in-Err.ensures.none no begun begun_by) in
    subst (λ (e : JobError). Ends 3 [] e) (sym (c.refuse_unfit.ensures.memory memory)) (refl, refl)

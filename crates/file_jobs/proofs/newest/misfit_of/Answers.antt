use Rattle.std.proofs.Common.{MatchOption, subst, sym}
use Rattle.file_jobs.specs.Days.{IsUnfitting, file_of}
use Rattle.file_jobs.specs.declared.folder.Part.TheVariants as part
use Rattle.file_jobs.proofs.Compared.{Unfits, compared}
use Rattle.file_jobs.proofs.Opened.{opened}
use Rattle.file_jobs.proofs.newest.misfit_of.Goals as goal

pub returns-clause-misfit : goal.returns-clause-misfit
returns-clause-misfit g c = λ texts known.
    let day = c.args.day in
    let config = c.args.config.now in
    let read = c.in_ok-file in
    opened g.F.File.Read.remaining c.in-Some.source c.in_ok-source.field-0 (file_of texts day part.Opening)
    (λ file. MatchOption c.first_misfit.result (¬ Unfits config day file) (λ _. Unfits config day file)) c.in-Some.is
    (c.in_ok-source.ensures.file texts known)
    (λ text is. compared config day text read.file c.first_misfit.result c.if-day-eq1.false read.ensures.good read.ensures.fits (read.ensures.text text is)
    (read.ensures.only text is) c.if-file-day.false c.first_misfit.ensures)

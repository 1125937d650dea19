use Rattle.std.proofs.Common.{◌≡◌, ◌∙◌, [], Some, subst}
use Rattle.days.specs.Chain.{BeginsBy}
use Rattle.file_jobs.specs.Days.{file_of}
use Rattle.file_jobs.specs.declared.folder.Part.TheVariants as part
use Rattle.file_jobs.specs.JobErrors.{Ends}
use Rattle.file_jobs.proofs.Opened.{opened}
use Rattle.file_jobs.proofs.newest.begin_day.Goals as goal

pub returns-clause-opening : goal.returns-clause-opening
returns-clause-opening g c = λ texts known later.
    let day = c.args.number in
    let file = file_of texts day part.Opening in
    subst (λ n. BeginsBy n c.args.config file c.in-Ok.begun.0) c.if-of-number.false
    (opened g.F.File.Read.remaining c.in-Some.source c.in_ok-source.field-0 file (λ f. BeginsBy c.in-Ok.begun.1 c.args.config f c.in-Ok.begun.0) c.in-Some.is
    (c.in_ok-source.ensures.file texts known) c.in-Ok.ensures.text)

pub returns-in-Err-clause-none : goal.returns-in-Err-clause-none
returns-in-Err-clause-none g c = λ texts text begun known is short begins.
    opened g.F.File.Read.remaining c.in-Some.source c.in_ok-source.field-0 (file_of texts c.args.number part.Opening)
    (λ f. f ≡ Some text → Ends 3 [] c.in-Err.job_error) c.in-Some.is (c.in_ok-source.ensures.file texts known)
    (λ t ahead same. c.in-Err.ensures.none text c.args.number begun (ahead ∙ same) short begins) is

pub returns-then-of-number-clause-none : goal.returns-then-of-number-clause-none
returns-then-of-number-clause-none g c = λ texts text begun known is short begins.
    absurd (opened g.F.File.Read.remaining c.in-Some.source c.in_ok-source.field-0 (file_of texts c.args.number part.Opening)
    (λ f. f ≡ Some text → ⊥) c.in-Some.is (c.in_ok-source.ensures.file texts known)
    (λ t ahead same. c.if-of-number.true (c.in-Ok.ensures.day text c.args.number begun (ahead ∙ same) begins)) is)

use Rattle.std.proofs.Common.{subst, sym}
use Rattle.site_core.specs.declared.flaw.EntryFlaw.{EntryFlaw}
use Rattle.file_jobs.specs.Unopened.{SaysUnopened}
use Rattle.file_jobs.proofs.unopened.refuse_unopened.Goals as goal

pub returns-in-Entry-clause-says : goal.returns-in-Entry-clause-says
returns-in-Entry-clause-says c =
    subst (λ (f : EntryFlaw). SaysUnopened c.args.word.now f c.refuse_difference.result) (sym c.in-Entry.is) c.refuse_difference.ensures.says

use Rattle.file_jobs.specs.Days.{file_of, own_config}
use Rattle.file_jobs.specs.declared.folder.Part.TheVariants as part
use Rattle.file_jobs.proofs.FolderDays.{given_day}
use Rattle.file_jobs.proofs.chained.FolderIn.day.Goals as goal

pub returns-clause-given : goal.returns-clause-given
returns-clause-given g c = λ texts known.
    let n = c.args.number in
    given_day (λ j. g.F.File.Read.remaining j.input.reader) c.args.self.now.config (own_config (file_of texts n part.Config)) (file_of texts n part.Opening)
    (file_of texts n part.Journal) _ (c.in_ok-config.ensures.own texts known) (c.in_ok-opening.ensures.bytes texts known) (c.in_ok-journal.ensures.text texts known)

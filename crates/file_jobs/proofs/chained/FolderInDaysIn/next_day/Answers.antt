use Rattle.file_jobs.proofs.FolderDays.{gives_first}
use Rattle.file_jobs.proofs.chained.FolderInDaysIn.next_day.Goals as goal

pub returns-in-Ok-day-clause-gives : goal.returns-in-Ok-day-clause-gives
returns-in-Ok-day-clause-gives g c = λ days known.
    let before = c.args.self.now in
    gives_first (λ j. g.F.File.Read.remaining j.input.reader) (g.F.DayFiles.files before.folder) before.config c.in-Some.number before.newest before.next
    c.day_after-self.result c.in-Ok-day.day days c.in-Some.is c.day_after-self.ensures known c.in-Ok-day.ensures.given

-- Definitions: how a play ends, and the error with which a job ends if a journal or the days of a folder are refused
-- (source: this project).
use Rattle.std.specs.Prelude.{◌≡◌, ◌≢◌, ◌++◌, ℕ, ⊤, [], codes, decimal, Option, Some, None, unwrap_or, Result, Ok, Err}
use Rattle.line_session.specs.declared.answering.Ended.{Ended}
use Rattle.line_session.specs.declared.answering.SessionFault.{SessionFault}
use Rattle.line_session.specs.declared.answering.SessionFault.TheVariants as session
use Rattle.file_jobs.specs.AuditOutput.{line_of_flaw}
use Rattle.site_core.specs.declared.opening.OpeningFault.TheVariants as opening
use Rattle.days.specs.declared.beginning.Unfit.TheVariants as unfit
use Rattle.days.specs.declared.chain_fault.Unbegun.{Unbegun}
use Rattle.days.specs.declared.chain_fault.Unbegun.TheVariants as unbegun
use Rattle.days.specs.declared.chain_fault.NoNextOpening.TheVariants as no_next_opening
use Rattle.days.specs.declared.chain_fault.Unclosed.{Unclosed}
use Rattle.days.specs.declared.chain_fault.Unclosed.TheVariants as unclosed
use Rattle.days.specs.declared.chain_fault.Cause.{Cause}
use Rattle.days.specs.declared.chain_fault.Cause.TheVariants as cause
use Rattle.days.specs.declared.file.Uncarried.TheVariants as uncarried
use Rattle.file_jobs.specs.declared.job_error.JobError.{JobError}
use Rattle.file_jobs.specs.declared.job_error.JobError.TheVariants as job_error
use Rattle.file_jobs.specs.JobErrors.{Ends, EndsOrRunsOut}
use Rattle.file_jobs.specs.FileRefusals.{RefusesOpening, RefusesText}

-- a play that was broken off
abbrev pub BreaksOff : SessionFault → JobError → Type 0
BreaksOff session.Read error = Ends 3 [] error
BreaksOff session.ReadsSpent error = Ends 3 [] error
BreaksOff session.Write error = Ends 3 [] error
BreaksOff session.Journal error = Ends 3 [] error
BreaksOff session.NextDay error = Ends 3 [] error
BreaksOff session.OutOfMemory error = error ≡ job_error.OutOfMemory

-- A script that is read to its end is done; one that a line stops is refused.
abbrev pub EndsAt : {T U : Type 0} → Option T → Result U JobError → Type 0
EndsAt None (Ok done) = ⊤
EndsAt None (Err error) = ⊥
EndsAt (Some fault) (Ok done) = ⊥
EndsAt (Some fault) (Err error) = Ends 1 [] error

abbrev pub IsPlayed : {U : Type 0} → Result Ended SessionFault → Result U JobError → Type 0
IsPlayed (Ok ended) result = EndsAt ended.cut result
IsPlayed (Err fault) (Ok done) = ⊥
IsPlayed (Err fault) (Err error) = BreaksOff fault error

-- a day that doesn't follow the day before it
abbrev pub BreaksLink : ℕ → JobError → Type 0
BreaksLink day error = EndsOrRunsOut 1 (codes "O1 " ++ (decimal day ++ codes "\n")) error

-- a day that can't begin for this reason, such as a missing opening
abbrev pub RefusesBeginning : ℕ → Unbegun → JobError → Type 0
RefusesBeginning day unbegun.NoOpening error = BreaksLink day error
RefusesBeginning day unbegun.HasOpening error = BreaksLink day error
RefusesBeginning day (unbegun.Flawed flaw) error = RefusesOpening flaw error
RefusesBeginning day (unbegun.OtherDay other) error = BreaksLink day error
RefusesBeginning day (unbegun.Unfit why) error =
    (why ≢ unfit.Fault opening.OutOfMemory → Ends 1 [] error) × (why ≡ unfit.Fault opening.OutOfMemory → error ≡ job_error.OutOfMemory)

-- a day that can't be closed for this reason: its journal can't be read or is refused
abbrev pub RefusesJournal : {J : Type 0} → Unclosed J → JobError → Type 0
RefusesJournal (unclosed.Text journal fault) error = RefusesText fault error
RefusesJournal (unclosed.History flaw) error = EndsOrRunsOut 1 (line_of_flaw flaw) error
RefusesJournal unclosed.OutOfMemory error = error ≡ job_error.OutOfMemory

-- Days of a folder that are refused at this day for this cause. `Unread` means that a day couldn't be read, and `Untold`
-- that its end couldn't be told: the optional error says why.
abbrev pub RefusesDays : {J : Type 0} → ℕ → Cause J → Option JobError → JobError → Type 0
RefusesDays day cause.NoDays kept error = Ends 1 [] error
RefusesDays day cause.Unread kept error = error ≡ unwrap_or kept job_error.OutOfMemory
RefusesDays day cause.Untold kept error = error ≡ unwrap_or kept job_error.OutOfMemory
RefusesDays day (cause.NoNextOpening no_next_opening.NoJournal) kept error = BreaksLink day error
RefusesDays day (cause.NoNextOpening (no_next_opening.Uncarried why)) kept error =
    (why ≢ uncarried.Fault opening.OutOfMemory → Ends 1 [] error) × (why ≡ uncarried.Fault opening.OutOfMemory → error ≡ job_error.OutOfMemory)
RefusesDays day (cause.Unfollowed why) kept error = BreaksLink day error
RefusesDays day (cause.Unbegun why) kept error = RefusesBeginning day why error
RefusesDays day (cause.Unclosed why) kept error = RefusesJournal why error

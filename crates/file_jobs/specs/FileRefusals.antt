-- Definitions: the exit status of a job whose configuration, opening or journal is refused, and what it prints on
-- standard output (source: this project).
use Rattle.std.specs.Prelude.{◌≡◌, ◌⊎◌, ◌++◌, [], Result, Ok, Err, codes, decimal}
use Rattle.site_config.specs.declared.fault.ConfigFault.{ConfigFault}
use Rattle.site_config.specs.declared.fault.ConfigFault.TheVariants as config
use Rattle.days.specs.declared.file.OpeningFlaw.{OpeningFlaw}
use Rattle.days.specs.declared.file.OpeningFlaw.TheVariants as opening
use Rattle.decision_journal.specs.declared.fault.JournalFault.{JournalFault}
use Rattle.decision_journal.specs.declared.fault.JournalFault.TheVariants as journal
use Rattle.file_jobs.specs.declared.job_error.JobError.{JobError}
use Rattle.file_jobs.specs.declared.job_error.JobError.TheVariants as job_error
use Rattle.verifier.specs.Refusals.{refusal_numbers}
use Rattle.file_jobs.specs.AuditOutput.{program_text}
use Rattle.file_jobs.specs.JobErrors.{Ends, EndsOrRunsOut}

-- a configuration with this fault
abbrev pub RefusesConfig : ConfigFault → JobError → Type 0
RefusesConfig config.K1 error = EndsOrRunsOut 1 (codes "K1\n") error
RefusesConfig config.K2 error = EndsOrRunsOut 1 (codes "K2\n") error
RefusesConfig config.K3 error = EndsOrRunsOut 1 (codes "K3\n") error
RefusesConfig config.OutOfMemory error = error ≡ job_error.OutOfMemory

-- a text with this configuration or this fault of it; a good one is only refused where memory ran out
abbrev pub RefusesSettings : {T : Type 0} → Result T ConfigFault → JobError → Type 0
RefusesSettings (Ok settings) error = error ≡ job_error.OutOfMemory
RefusesSettings (Err fault) error = (error ≡ job_error.OutOfMemory) ⊎ RefusesConfig fault error

-- a file that couldn't be read, or that is too long (L1)
abbrev pub IsUnreadFile : JobError → Type 0
IsUnreadFile error = Ends 3 [] error ⊎ EndsOrRunsOut 1 (codes "L1\n") error

-- an opening with this flaw
abbrev pub RefusesOpening : OpeningFlaw → JobError → Type 0
RefusesOpening (opening.BadLine line) error = EndsOrRunsOut 1 (codes "J1 " ++ (decimal line ++ codes "\n")) error
RefusesOpening (opening.CutLine line) error = EndsOrRunsOut 1 (codes "J2 " ++ (decimal line ++ codes "\n")) error
RefusesOpening (opening.Ends line) error = EndsOrRunsOut 1 (codes "J1 " ++ (decimal line ++ codes "\n")) error
RefusesOpening (opening.BadProgram line slot program refusal) error = EndsOrRunsOut 1 (program_text line (refusal_numbers refusal)) error
RefusesOpening opening.OutOfMemory error = error ≡ job_error.OutOfMemory

-- a journal whose text has this fault, or can't be read
abbrev pub RefusesText : JournalFault → JobError → Type 0
RefusesText (journal.BadEntry line) error = EndsOrRunsOut 1 (codes "J1 " ++ (decimal line ++ codes "\n")) error
RefusesText journal.Cut error = EndsOrRunsOut 1 (codes "J2\n") error
RefusesText journal.Device error = Ends 3 [] error
RefusesText journal.OutOfMemory error = error ≡ job_error.OutOfMemory

-- Definitions: what the message of a job says whose configuration, history, journal, opening, day or script is refused:
-- the file, the line if there is one, why, and the fault's number (source: this project).
use Rattle.std.specs.Prelude.{◌≡◌, ◌≢◌, ◌⊎◌, ℕ, ◌+◌, ◌-◌, ⊤, List, [], ◌++◌, codes, decimal, min, Option, Some, None, IfSome, option_map, Result, Ok, Err}
use Rattle.std.specs.Prelude.{string_bytes}
use Rattle.std.specs.Str.{IsUtf8}
use Rattle.till_request.specs.declared.act.LineFault.{LineFault}
use Rattle.till_request.specs.declared.act.LineFault.TheVariants as line_fault
use Rattle.decision_journal.specs.declared.fault.JournalFault.{JournalFault}
use Rattle.decision_journal.specs.declared.fault.JournalFault.TheVariants as journal
use Rattle.decision_journal.specs.Words.{journal_fault_text}
use Rattle.line_session.specs.declared.answering.SessionFault.{SessionFault}
use Rattle.line_session.specs.declared.answering.SessionFault.TheVariants as session
use Rattle.line_session.specs.Words.{session_fault_text}
use Rattle.line_session.specs.declared.answering.Ended.{Ended}
use Rattle.site_config.specs.declared.fault.ConfigFault.{ConfigFault}
use Rattle.site_config.specs.declared.fault.ConfigFault.TheVariants as config
use Rattle.site_config.specs.declared.flaw.ConfigFlaw.{ConfigFlaw}
use Rattle.site_config.specs.Flaws.{fault_of, position_of}
use Rattle.site_config.specs.Words.{flaw_text as config_flaw_text}
use Rattle.site_core.specs.declared.flaw.EntryFlaw.{EntryFlaw}
use Rattle.site_core.specs.declared.flaw.EntryFlaw.TheVariants as entry
use Rattle.verifier.specs.declared.refusal.Refusal.{Refusal}
use Rattle.days.specs.declared.file.OpeningFlaw.{OpeningFlaw}
use Rattle.days.specs.declared.file.OpeningFlaw.TheVariants as opening
use Rattle.days.specs.declared.chain_fault.Unbegun.{Unbegun}
use Rattle.days.specs.declared.chain_fault.Unbegun.TheVariants as unbegun
use Rattle.days.specs.declared.chain_fault.Unfollowed.{Unfollowed}
use Rattle.days.specs.declared.chain_fault.Unfollowed.TheVariants as unfollowed
use Rattle.days.specs.declared.chain_fault.NoNextOpening.TheVariants as no_next_opening
use Rattle.days.specs.declared.chain_fault.Cause.{Cause}
use Rattle.days.specs.declared.chain_fault.Cause.TheVariants as cause
use Rattle.days.specs.Words.{uncarried_text, unfit_text}
use Rattle.file_jobs.specs.declared.job_error.JobError.{JobError}
use Rattle.file_jobs.specs.declared.job_error.JobError.TheVariants as job_error
use Rattle.file_jobs.specs.declared.journal_reasons.JournalFlaw.{JournalFlaw}
use Rattle.file_jobs.specs.declared.journal_reasons.JournalFlaw.TheVariants as flaw
use Rattle.file_jobs.specs.declared.reasons.RefusedProgram.{RefusedProgram}
use Rattle.file_jobs.specs.Chained.{IsOtherLine}
use Rattle.file_jobs.specs.FlawTexts.{flaw_text}
use Rattle.file_jobs.specs.JournalFlaws.{Explains}
use Rattle.file_jobs.specs.Reasons.{Names}
use Rattle.file_jobs.specs.JobErrors.{Says, SaysOf, named_place, numbered_words}
use Rattle.file_jobs.specs.StandardInput.{name_of}

-- the number of the fault of an entry
abbrev pub flaw_code : EntryFlaw → List ℕ
flaw_code (entry.Number place number) = codes "F1"
flaw_code (entry.Program place slot bytes refusal) = codes "F2"
flaw_code (entry.Entry place difference) = codes "F3"
flaw_code (entry.Full place) = codes "F3"

-- The job says this of the fault with this number.
abbrev pub SaysFault : List ℕ → Option ℕ → List ℕ → List ℕ → JobError → Type 0
SaysFault word line words code error = SaysOf word line (numbered_words words code) error

-- of a history: the place of the entry, and why it is refused
abbrev pub SaysEntry : List ℕ → EntryFlaw → JobError → Type 0
SaysEntry word found error =
    (error ≡ job_error.OutOfMemory)
    ⊎ ((at : ℕ) × (reported : JournalFlaw) × Explains found at reported × SaysFault word (Some at) (flaw_text reported) (flaw_code found) error)

-- of a program of these bytes in a line of an opening, which the verifier refuses
abbrev pub SaysRule : List ℕ → ℕ → ℕ → List ℕ → Refusal → JobError → Type 0
SaysRule word line slot bytes refusal error =
    (error ≡ job_error.OutOfMemory)
    ⊎ ((reported : RefusedProgram) × (reported.refusal ≡ refusal) × Names bytes reported
    × SaysFault word (Some line) (flaw_text (flaw.Program slot reported)) (codes "F2") error)

-- of a configuration with this flaw, which has a position if it is none of TOML
abbrev pub SaysFlaw : List ℕ → ConfigFlaw → List ℕ → JobError → Type 0
SaysFlaw word found code error =
    Says (named_place (name_of word) (option_map (λ p. p.0) (position_of found)) (option_map (λ p. p.1) (position_of found))
    ++ (codes ": " ++ numbered_words (config_flaw_text found) code)) error

abbrev pub config_code : ConfigFault → List ℕ
config_code config.K1 = codes "K1"
config_code config.K2 = codes "K2"
config_code config.K3 = codes "K3"
config_code config.OutOfMemory = []

abbrev pub SaysConfig : List ℕ → ConfigFlaw → JobError → Type 0
SaysConfig word found error = SaysFlaw word found (config_code (fault_of found)) error

-- of a text that is no journal; nothing is claimed of a journal that can't be read, of which the system has words
abbrev pub SaysText : List ℕ → JournalFault → JobError → Type 0
SaysText word (journal.BadEntry line) error = SaysFault word (Some line) (journal_fault_text (journal.BadEntry line)) (codes "J1") error
SaysText word journal.Cut error = SaysFault word None (journal_fault_text journal.Cut) (codes "J2") error
SaysText word fault error = ⊤

-- of a text that is no opening
abbrev pub SaysOpening : List ℕ → OpeningFlaw → JobError → Type 0
SaysOpening word (opening.BadLine line) error = SaysFault word (Some line) (codes "no line of an opening") (codes "J1") error
SaysOpening word (opening.CutLine line) error = SaysFault word (Some line) (codes "the last line has no LF") (codes "J2") error
SaysOpening word (opening.Ends line) error = SaysFault word (Some line) (codes "the opening ends before its line 'journal'") (codes "J1") error
SaysOpening word (opening.BadProgram line slot program refusal) error =
    SaysRule word line slot program.items refusal error
SaysOpening word opening.OutOfMemory error = ⊤

-- of a day that can't begin; `word` names its opening
abbrev pub SaysUnbegun : List ℕ → Unbegun → JobError → Type 0
SaysUnbegun word unbegun.NoOpening error = SaysFault word None (codes "the day has no opening") (codes "O1") error
SaysUnbegun word unbegun.HasOpening error = SaysFault word None (codes "the first day has no opening") (codes "O1") error
SaysUnbegun word (unbegun.Flawed why) error = SaysOpening word why error
SaysUnbegun word (unbegun.OtherDay day) error = SaysFault word None (codes "this is the opening of day " ++ decimal day) (codes "O1") error
SaysUnbegun word (unbegun.Unfit why) error = SaysOf word None (unfit_text why) error

-- of an opening whose line `number` should be `line`, which day `day` - 1 left; nothing is quoted of a line that is
-- empty or no text
abbrev pub SaysOtherLine : List ℕ → ℕ → ℕ → List ℕ → JobError → Type 0
SaysOtherLine word day number line error =
    ((line ≢ []) × SaysFault word (Some number) (codes "day " ++ (decimal (day - 1) ++ (codes " left '" ++ (line ++ codes "' here")))) (codes "O1") error)
    ⊎ ((IsUtf8 line → line ≡ []) × SaysFault word (Some number) (codes "the day before left no such line") (codes "O1") error)

-- of a day that doesn't follow the day before; `word` names its opening
abbrev pub SaysUnfollowed : List ℕ → ℕ → Unfollowed → JobError → Type 0
SaysUnfollowed word day (unfollowed.NoOpening left) error = SaysFault word None (codes "the day has no opening") (codes "O1") error
SaysUnfollowed word day (unfollowed.OtherOpening bytes left) error =
    (number : ℕ) × (line : List ℕ) × IsOtherLine bytes.items (string_bytes left) number line × SaysOtherLine word day number line error

-- of days that are refused at day `day`; `opening` and `journal` name its files. Nothing is claimed of a day that can't
-- be read, and of a journal that can't be closed.
abbrev pub SaysDays : {J : Type 0} → List ℕ → List ℕ → ℕ → Cause J → JobError → Type 0
SaysDays opening journal day cause.NoDays error = ⊤
SaysDays opening journal day cause.Unread error = ⊤
SaysDays opening journal day cause.Untold error = ⊤
SaysDays opening journal day (cause.NoNextOpening no_next_opening.NoJournal) error =
    SaysFault journal None (codes "the day has no journal") (codes "O1") error
SaysDays opening journal day (cause.NoNextOpening (no_next_opening.Uncarried why)) error = SaysOf journal None (uncarried_text why) error
SaysDays opening journal day (cause.Unfollowed why) error = SaysUnfollowed opening day why error
SaysDays opening journal day (cause.Unbegun why) error = SaysUnbegun opening why error
SaysDays opening journal day (cause.Unclosed why) error = ⊤

-- of a script that stops at a line; nothing is claimed of the faults at which none stops
abbrev pub SaysStop : List ℕ → ℕ → LineFault → JobError → Type 0
SaysStop word line line_fault.TooLong error = SaysFault word (Some line) (codes "over 8,400 bytes") (codes "L1") error
SaysStop word line line_fault.CutLine error = SaysFault word (Some line) (codes "the last line has no LF") (codes "L4") error
SaysStop word line fault error = ⊤

-- of a play that was broken off; nothing is claimed of a failed read or write, of which the system has words
abbrev pub SaysBreak : List ℕ → SessionFault → JobError → Type 0
SaysBreak word session.ReadsSpent error = SaysFault word None (session_fault_text session.ReadsSpent) (codes "N3") error
SaysBreak word fault error = ⊤

-- of a play that ended so; `lines` lines come before the script in the same input
abbrev pub SaysPlayed : {U : Type 0} → List ℕ → ℕ → Result Ended SessionFault → Result U JobError → Type 0
SaysPlayed word lines (Ok ended) (Err error) =
    IfSome ended.cut (λ fault. SaysStop word (min (lines + ended.lines) 18446744073709551615) fault error)
SaysPlayed word lines (Err fault) (Err error) = SaysBreak word fault error
SaysPlayed word lines ended (Ok done) = ⊤

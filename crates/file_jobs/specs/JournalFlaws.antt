-- Definitions: why a journal is refused, in words (source: this project).
use Rattle.std.specs.Prelude.{◌≡◌, ℕ}
use Rattle.site_core.specs.declared.flaw.EntryFlaw.{EntryFlaw}
use Rattle.site_core.specs.declared.flaw.EntryFlaw.TheVariants as entry
use Rattle.file_jobs.specs.declared.journal_reasons.JournalFlaw.{JournalFlaw}
use Rattle.file_jobs.specs.declared.journal_reasons.JournalFlaw.TheVariants as flaw
use Rattle.file_jobs.specs.Reasons.{Names}

-- `reported` says the same as what an audit found wrong with an entry, and `at` is the entry's place. For a refused
-- program it also has the line of the unit at fault and what the message says more (`Names`).
abbrev pub Explains : EntryFlaw → ℕ → JournalFlaw → Type 0
Explains (entry.Number place number) at (flaw.Number shown of) = (at ≡ place) × (shown ≡ number) × (of ≡ place)
Explains (entry.Program place slot bytes refusal) at (flaw.Program shown refused) =
    (at ≡ place) × (shown ≡ slot) × (refused.refusal ≡ refusal) × Names bytes refused
Explains (entry.Entry place difference) at (flaw.Entry shown) = (at ≡ place) × (shown ≡ difference)
Explains (entry.Full place) at flaw.NoEntry = at ≡ place
Explains found at reported = ⊥

-- Promises: what is reported of a session whose answers waited until the journal was synced.
use Rattle.std.specs.Prelude.{◌≡◌, ◌⊎◌, ℕ, Result, Err}
use Rattle.line_session.specs.declared.answering.Ended.{Ended}
use Rattle.line_session.specs.declared.answering.SessionFault.{SessionFault}
use Rattle.line_session.specs.declared.answering.SessionFault.TheVariants.{Write, Journal}

-- `reported` is allowed as the report of a session that ended with `outcome`.
-- - If `outcome` isn't a failed write, `reported` is `outcome` itself.
-- - If `outcome` is a failed write, there are two cases. Either `reported` is the failed write, and the first n bytes
--   of the journal are synced for some n. Or `reported` is a failure of the journal, and a sync failed.
abbrev pub IsReportedAs : (ℕ → Type 0) → Type 0 → Result Ended SessionFault → Result Ended SessionFault → Type 0
IsReportedAs journal_synced failed (Err Write) reported = ((reported ≡ Err Write) × (mark : ℕ) × journal_synced mark) ⊎ ((reported ≡ Err Journal) × failed)
IsReportedAs journal_synced failed outcome reported = reported ≡ outcome

-- A session ended with `outcome`, and one of the outcomes that `IsReportedAs` allows was reported of it: `outcome`
-- itself, or a failure of the journal if `outcome` is a failed write. `tells` says of an outcome that it was reported.
abbrev pub ReportsHeld : (ℕ → Type 0) → Type 0 → (Result Ended SessionFault → Type 0) → Result Ended SessionFault → Type 0
ReportsHeld journal_synced failed tells outcome = (last : Result Ended SessionFault) × IsReportedAs journal_synced failed outcome last × tells last

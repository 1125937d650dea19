-- Definitions: how long a worker waits after a connection couldn't be opened, and which failure of a session is
-- reported to an operator (source: this project).
use Rattle.std.specs.Prelude.{◌≡◌, ◌⊎◌, Bool, true, false, ℕ, ◌*◌, zero, suc, nat_le, if◌then◌else◌, Option, Some, Result, Ok, Err}
use Rattle.std.specs.Option.{option_map}
use Rattle.line_session.specs.declared.answering.Ended.{Ended}
use Rattle.line_session.specs.declared.answering.SessionFault.{SessionFault}
use Rattle.site_server.specs.declared.notices.SessionFailure.{SessionFailure}
use Rattle.site_server.specs.declared.notices.SessionFailure.TheVariants.{Line, Session}

-- How many milliseconds a worker waits next, if it waited this many the last time: 10 after 0, or else twice as many,
-- but at most 1,000.
abbrev pub longer_pause : ℕ → ℕ
longer_pause zero = 10
longer_pause (suc n) = if nat_le 500 (suc n) then 1000 else 2 * suc n

-- How long a worker waits next after a failure. Where it can be asked to stop, a failure may come from that, and then it
-- doesn't wait.
abbrev pub IsNextPause : Bool → ℕ → ℕ → Type 0
IsNextPause false last next = next ≡ longer_pause last
IsNextPause true last next = (next ≡ longer_pause last) ⊎ (next ≡ last)

-- Which failure of a session is reported:
-- - the SessionFault, if the session ended with one
-- - the fault of the last line, if this line was too long or had no LF
-- - None otherwise
abbrev pub reported_failure : Result Ended SessionFault → Option SessionFailure
reported_failure (Ok ended) = option_map (λ fault. Line fault) ended.cut
reported_failure (Err fault) = Some (Session fault)

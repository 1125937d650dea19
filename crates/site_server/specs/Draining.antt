-- Definitions: the end of a connection whose peer may still be sending (source: this project). If a connection is closed
-- while bytes of its peer aren't read, the system resets it, and the peer can lose answers that were sent. So these bytes
-- are read first, and thrown away.
use Rattle.std.specs.Prelude.{ℕ, ◌-◌, min, Bool, true, false, Result, Ok, Err}
use Rattle.std.specs.Option.{option_map_or}
use Rattle.till_request.specs.declared.act.LineFault.{LineFault}
use Rattle.till_request.specs.declared.act.LineFault.TheVariants.{TooLong, BadLine, BadNumber, CutLine, OtherDoor, OutOfMemory}
use Rattle.line_session.specs.declared.answering.Ended.{Ended}
use Rattle.line_session.specs.declared.answering.SessionFault.{SessionFault}
use Rattle.line_session.specs.declared.answering.SessionFault.TheVariants as session

-- the last line was too long
abbrev pub is_too_long : LineFault → Bool
is_too_long TooLong = true
is_too_long BadLine = false
is_too_long BadNumber = false
is_too_long CutLine = false
is_too_long OtherDoor = false
is_too_long OutOfMemory = false

-- all reads of the session were made
abbrev pub is_spent : SessionFault → Bool
is_spent session.ReadsSpent = true
is_spent session.Read = false
is_spent session.Write = false
is_spent session.OutOfMemory = false
is_spent session.Journal = false
is_spent session.NextDay = false

-- the session ended while its peer may still be sending
abbrev pub is_drained : Result Ended SessionFault → Bool
is_drained (Ok ended) = option_map_or is_too_long ended.cut false
is_drained (Err fault) = is_spent fault

-- How many milliseconds the next read may wait for a byte, if draining began so many milliseconds ago: at most 5 seconds,
-- and none once 30 seconds have passed.
abbrev pub drain_wait : ℕ → ℕ
drain_wait elapsed = min 5000 (30000 - elapsed)

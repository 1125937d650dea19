-- Definitions: the words for why a session ended with a fault (source: this project).
use Rattle.std.specs.Prelude.{ℕ, List, codes}
use Rattle.till_request.specs.declared.act.LineFault.TheVariants.{TooLong, BadLine, BadNumber, CutLine, OtherDoor, OutOfMemory}
use Rattle.line_session.specs.Words.{session_fault_text}
use Rattle.site_server.specs.declared.notices.SessionFailure.{SessionFailure}
use Rattle.site_server.specs.declared.notices.SessionFailure.TheVariants.{Line, Session}

-- The words for this failure. Of the line faults only `TooLong` and `CutLine` end a session; the others have the words
-- of `CutLine`.
abbrev pub session_failure_text : SessionFailure → List ℕ
session_failure_text (Line TooLong) = codes "ended by a line of more than 8,400 bytes"
session_failure_text (Line BadLine) = codes "ended in mid-line"
session_failure_text (Line BadNumber) = codes "ended in mid-line"
session_failure_text (Line CutLine) = codes "ended in mid-line"
session_failure_text (Line OtherDoor) = codes "ended in mid-line"
session_failure_text (Line OutOfMemory) = codes "ended in mid-line"
session_failure_text (Session fault) = session_fault_text fault

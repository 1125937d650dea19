-- Definitions: which connections the end of a day, or another stop, leaves open, and what of their input is left for the
-- workers that follow (source: this project).
use Rattle.std.specs.Prelude.{◌≡◌, ℕ, Bool, true, false, List, [], ◌∷◌, ◌++◌, ◌&&◌, if◌then◌else◌, is_none, IfSome, Result, Ok, Err}
use Rattle.till_request.specs.declared.act.Role.{Role}
use Rattle.line_session.specs.declared.answering.Ended.{Ended}
use Rattle.line_session.specs.declared.answering.SessionFault.{SessionFault}
use Rattle.line_session.specs.declared.answering.SessionFault.TheVariants.{Read, Write, ReadsSpent, OutOfMemory, Journal, NextDay}
use Rattle.site_server.specs.declared.notices.SessionFailure.{SessionFailure}
use Rattle.site_server.specs.declared.judging.Verdict.TheVariants.{Client, Unclear}
use Rattle.site_server.specs.Guarding.{BeginningValue}
use Rattle.site_server.specs.Pauses.{reported_failure}

-- the session ended behind a whole line, or by a failed read
abbrev pub has_more : Result Ended SessionFault → Bool
has_more (Ok ended) = is_none ended.cut
has_more (Err Read) = true
has_more (Err Write) = false
has_more (Err ReadsSpent) = false
has_more (Err OutOfMemory) = false
has_more (Err Journal) = false
has_more (Err NextDay) = false

-- the session ended by the line that ends a day
abbrev pub ends_day : Result Ended SessionFault → Bool
ends_day (Ok ended) = false
ends_day (Err Read) = false
ends_day (Err Write) = false
ends_day (Err ReadsSpent) = false
ends_day (Err OutOfMemory) = false
ends_day (Err Journal) = false
ends_day (Err NextDay) = true

-- A connection is kept if a stop interrupted its input (`is_paused`), and its session didn't end for another reason. So
-- is one whose session ended by the line that ends a day.
abbrev pub is_kept : Bool → Result Ended SessionFault → Bool
is_kept is_paused outcome = if ends_day outcome then true else (is_paused && has_more outcome)

-- What is left of a line so far: all of it, but nothing of the line that ends a day, which was read whole.
abbrev pub begun_behind : Bool → List ℕ → List ℕ
begun_behind false begun = begun
begun_behind true begun = []

-- What is noted of a line so far: nothing while more of it is ahead, since it is then not waited for.
abbrev pub begun_line : List ℕ → List ℕ → List ℕ
begun_line [] line = line
begun_line (b ∷ block) line = []

-- What was read of a connection, and isn't answered, in the order in which it came: the line that had begun, the bytes
-- that were read ahead, those by which the peer is judged, and those that were kept before and not read again yet.
abbrev pub left_ahead : List ℕ → List ℕ → List ℕ → List ℕ → List ℕ
left_ahead begun block judged kept = begun ++ (block ++ (judged ++ kept))

-- Of a peer that was judged before and is no stranger, all is let in; any other is judged by what comes.
abbrev pub BeginsJudged : Bool → BeginningValue → Type 0
BeginsJudged is_known beginning = (beginning.kept ≡ []) × (beginning.verdict ≡ (if is_known then Client else Unclear))

-- If the connection isn't kept, the failure of its session, if there is one, was reported.
abbrev pub ReportsUnkept : (Role → ℕ → SessionFailure → Type 0) → Role → ℕ → Bool → Result Ended SessionFault → Type 0
ReportsUnkept failure_reported role pass is_paused outcome =
    is_kept is_paused outcome ≡ false → IfSome (reported_failure outcome) (λ failure. failure_reported role pass failure)

-- A connection ended for its worker: its failure was reported, unless it's kept, and that it ended was reported.
abbrev pub EndsConnection : (Role → ℕ → SessionFailure → Type 0) → (Role → ℕ → Type 0) → Role → ℕ → Bool → Result Ended SessionFault → Type 0
EndsConnection failure_reported end_reported role pass is_paused outcome =
    ReportsUnkept failure_reported role pass is_paused outcome × end_reported role pass

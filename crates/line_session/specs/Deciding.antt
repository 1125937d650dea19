-- Promises: what a line gets, before it is written. What the line asks for is answered by the desk at the moment that
-- the clock gives. If the line has a fault, this fault is the answer.
use Rattle.std.specs.Prelude.{◌≡◌, ◌⊎◌, ℕ, List, Ok, Err}
use Rattle.till_request.specs.declared.act.Act.{Act}
use Rattle.till_request.specs.declared.act.Role.{Role}
use Rattle.till_request.specs.declared.act.LineFault.{LineFault}
use Rattle.till_request.specs.declared.act.LineFault.TheVariants.{OutOfMemory}
use Rattle.till_request.specs.declared.act.Answer.{Answer}
use Rattle.till_request.specs.declared.act.Answer.TheVariants.{Line}
use Rattle.till_request.specs.declared.look.LookAt.{LookAt}
use Rattle.till_request.specs.declared.look.Asked.{Asked}
use Rattle.till_request.specs.Gives.{Fails}
use Rattle.till_request.specs.Looks.{line_asked}
use Rattle.line_session.specs.Session.{AnswersAsked, LineAnswer, desk_needs_memory}
use Rattle.line_session.specs.declared.desk_handler.ToWrite.{ToWrite}
use Rattle.line_session.specs.declared.desk_handler.ToWrite.TheVariants as to_write
use Rattle.line_session.specs.declared.line_handler.HandlerError.{HandlerError}
use Rattle.line_session.specs.declared.line_handler.HandlerError.TheVariants as error

-- what a line gets, if this is to be written and the room for the line of a look has these bytes
abbrev pub with_room : ToWrite → List ℕ → LineAnswer
with_room (to_write.Answer answer) room = Err answer
with_room to_write.Room room = Ok room

-- the line asks for something, and gets what the desk can give for it, at a moment that the clock can give
abbrev pub DecidesAsked : {C D : Type 0} → (D → Act → ℕ → Answer → D → Type 0) → (D → LookAt → ℕ → LineAnswer → D → Type 0) → (C → ℕ → C → Type 0)
    → Role → List ℕ → C → D → LineAnswer → C → D → Type 0
DecidesAsked step looks tick role line c d answer c' d' =
    (asked : Asked) × (line_asked role line ≡ Ok asked) × AnswersAsked step looks tick (Ok asked) c d answer c' d'

-- The answer is a fault of the line, and neither the clock nor the desk was asked. The fault is `OutOfMemory` only if
-- the line is a load.
abbrev pub DecidesFault : {C D : Type 0} → Role → List ℕ → C → D → LineAnswer → C → D → Type 0
DecidesFault role line c d answer c' d' =
    (fault : LineFault) × (answer ≡ Err (Line fault)) × Fails fault (line_asked role line) × (fault ≡ OutOfMemory → desk_needs_memory role line) × (c' ≡ c) × (d' ≡ d)

abbrev pub Decides : {C D : Type 0} → (D → Act → ℕ → Answer → D → Type 0) → (D → LookAt → ℕ → LineAnswer → D → Type 0) → (C → ℕ → C → Type 0)
    → Role → List ℕ → C → D → LineAnswer → C → D → Type 0
Decides step looks tick role line c d answer c' d' = DecidesAsked step looks tick role line c d answer c' d' ⊎ DecidesFault role line c d answer c' d'

-- Why a line is left without an answer, which led from state s to s':
-- - `OutOfMemory`: memory ran out. Either the handler needs memory for the line (`needs_memory`), and the state stayed
--   the same. Or the state changed as `drops` allows.
-- - `Journal`: the journal failed, and the state changed as `drops` allows.
-- - `NextDay`: the line ends the day, and the state changed as `drops` allows.
abbrev pub LeavesLine : {S : Type 0} → (HandlerError → S → List ℕ → S → Type 0) → (List ℕ → Type 0) → HandlerError → S → List ℕ → S → Type 0
LeavesLine drops needs_memory error.Write s line s' = ⊥
LeavesLine drops needs_memory error.OutOfMemory s line s' = (needs_memory line × (s' ≡ s)) ⊎ drops error.OutOfMemory s line s'
LeavesLine drops needs_memory error.Journal s line s' = drops error.Journal s line s'
LeavesLine drops needs_memory error.NextDay s line s' = drops error.NextDay s line s'

-- Promises: the answers to lines, one after another. The input is split at LF. Each line in order is answered with one
-- text, in the state to which the lines before it led. A line that is too long, or a last one without LF, is answered
-- with its fault, and ends the session.
--
-- What the arguments are:
-- - `answers_with`, `drops` and `needs_memory` are those of the session's `LineHandler`.
-- - s and s' are the states of the handler's clock and desk, before and after.
-- - `in_old` and `in_new` are the bytes that are still to be read, before and after, or None if they aren't known.
-- - `out_old` and `out_new` are all bytes that had been written by then, before and after, or None if they aren't
--   known.
use Rattle.std.specs.Prelude.{◌≡◌, ◌≢◌, ◌⊎◌, ℕ, ◌<◌, ◌≤◌, List, [], ◌∷◌, ◌++◌, ◌+◌, length, take, Option, Some, None, Result, Ok, Err, Bool, true, false}
use Rattle.std.specs.Io.KnownBytes.{Appends, Consumes, IsAtEnd}
use Rattle.std.specs.List.{flat_map, AllByRecursion}
use Rattle.till_request.specs.Answer.{answer_line}
use Rattle.till_request.specs.Count.{RoseBy}
use Rattle.till_request.specs.Line.{HasNoLf, IsLine}
use Rattle.till_request.specs.declared.act.Answer.TheVariants.{Line}
use Rattle.till_request.specs.declared.act.LineFault.{LineFault}
use Rattle.till_request.specs.declared.act.LineFault.TheVariants as line
use Rattle.line_session.specs.declared.connection.Connection.{Connection}
use Rattle.line_session.specs.declared.line_handler.HandlerError.{HandlerError}
use Rattle.line_session.specs.declared.line_handler.HandlerError.TheVariants as error
use Rattle.line_session.specs.declared.answering.SessionFault.{SessionFault}
use Rattle.line_session.specs.declared.answering.SessionFault.TheVariants as session

-- `line` was answered, which led from state s to s', and the whole answer was written
pub record WritesAnswer {S : Type 0} (answers_with : S → List ℕ → List ℕ → S → Type 0) (line : List ℕ) (s s' : S) (out_old out_new : Option (List ℕ)) : Type 0 where
  pub text : List ℕ
  pub is_answer : answers_with s line text s'
  pub written : Appends out_old out_new text

-- `line` was answered, which led from state s to s', and a beginning of the answer was written: its first `kept` bytes
pub record WritesAnswerFront {S : Type 0} (answers_with : S → List ℕ → List ℕ → S → Type 0) (line : List ℕ) (s s' : S) (out_old out_new : Option (List ℕ)) : Type 0 where
  pub text : List ℕ
  pub is_answer : answers_with s line text s'
  pub kept : ℕ
  pub written : Appends out_old out_new (take kept text)

-- `line` was left without an answer, which led from state s to s', and nothing was written
pub record Dropped {S O : Type 0} (drops : S → List ℕ → S → Type 0) (line : List ℕ) (s s' : S) (o o' : O) : Type 0 where
  pub drops_it : drops s line s'
  pub output : o' ≡ o

-- Holds for no line: it is the `drops` of a handler that drops no line. Such a handler leaves a line without an answer
-- only if the line needs memory, memory ran out, and nothing changed (`RunsOutOfMemory`).
abbrev pub drops_none : {S : Type 0} → HandlerError → S → List ℕ → S → Type 0
drops_none why s line s' = ⊥

-- the handler needs memory for `line`, memory ran out, and neither the state nor the output changed
pub record RunsOutOfMemory {S O : Type 0} (needs_memory : List ℕ → Type 0) (line : List ℕ) (s s' : S) (o o' : O) : Type 0 where
  pub needs_it : needs_memory line
  pub state : s' ≡ s
  pub output : o' ≡ o

-- Why the whole answer to `line` wasn't written:
-- - `Write`: the write failed after a beginning of the answer.
-- - `OutOfMemory`: memory ran out, and nothing was written. Either the line is one for which the handler needs memory
--   (`needs_memory`), and the state stayed the same. Or the state changed from s to s' as `drops` allows for a line
--   that is left without an answer.
-- - `Journal`: the journal failed, and nothing was written. The state changed from s to s' as `drops` allows.
-- - `NextDay`: the line ends the day, and nothing was written. The state changed from s to s' as `drops` allows.
-- s and s' are the states before and after the line, o and o' the outputs. `out` gives all bytes that were written to
-- an output.
abbrev pub HandlerFails : {S O : Type 0} → (S → List ℕ → List ℕ → S → Type 0) → (HandlerError → S → List ℕ → S → Type 0) → (List ℕ → Type 0)
    → (O → Option (List ℕ)) → HandlerError → List ℕ → S → S → O → O → Type 0
HandlerFails answers_with drops needs_memory out error.Write line s s' o o' = WritesAnswerFront answers_with line s s' (out o) (out o')
HandlerFails answers_with drops needs_memory out error.OutOfMemory line s s' o o' = RunsOutOfMemory needs_memory line s s' o o' ⊎ Dropped (drops error.OutOfMemory) line s s' o o'
HandlerFails answers_with drops needs_memory out error.Journal line s s' o o' = Dropped (drops error.Journal) line s s' o o'
HandlerFails answers_with drops needs_memory out error.NextDay line s s' o o' = Dropped (drops error.NextDay) line s s' o o'

-- a line with its LF
abbrev pub with_lf : List ℕ → List ℕ
with_lf line = line ++ 10 ∷ []

-- the bytes of the lines, each with its LF, one after another
abbrev pub all_lines : List (List ℕ) → List ℕ
all_lines lines = flat_map with_lf lines

-- the bytes of the texts, one after another
abbrev pub all_texts : List (List ℕ) → List ℕ
all_texts texts = flat_map (λ text. text) texts

-- these lines, one after another, are answered with these texts, and lead from state s to state s'
abbrev pub AnswersAll : {S : Type 0} → (S → List ℕ → List ℕ → S → Type 0) → List (List ℕ) → S → List (List ℕ) → S → Type 0
AnswersAll answers_with [] s [] s' = s' ≡ s
AnswersAll {S} answers_with (line ∷ lines) s (text ∷ texts) s' = (m : S) × answers_with s line text m × AnswersAll answers_with lines m texts s'
AnswersAll answers_with [] s (text ∷ texts) s' = ⊥
AnswersAll answers_with (line ∷ lines) s [] s' = ⊥

-- `count` lines were read and answered. After these lines the bytes `rest` were read. After the answers the bytes
-- `more` were written.
pub record AnswersLines {S : Type 0} (answers_with : S → List ℕ → List ℕ → S → Type 0) (s s' : S) (in_old in_new out_old out_new : Option (List ℕ)) (count : ℕ)
    (rest more : List ℕ) : Type 0 where
  pub lines : List (List ℕ)
  pub texts : List (List ℕ)
  pub each : AllByRecursion IsLine lines
  pub all_answered : AnswersAll answers_with lines s texts s'
  pub taken : Consumes in_old in_new (all_lines lines ++ rest)
  pub written : Appends out_old out_new (all_texts texts ++ more)
  pub counted : count ≡ length texts

-- How a session's input ended. `rest` is what was read after the last whole line.
-- - None (no fault): `rest` is empty, and the input has ended.
-- - `TooLong`: `rest` is the first 8,401 bytes of a line that is too long.
-- - `CutLine`: `rest` is a last line without LF, and the input has ended.
-- No other fault ends an input.
abbrev pub IsCut : Option LineFault → Option (List ℕ) → List ℕ → Type 0
IsCut None in_new rest = (rest ≡ []) × IsAtEnd in_new
IsCut (Some line.TooLong) in_new rest = HasNoLf rest × (length rest ≡ 8401)
IsCut (Some line.CutLine) in_new rest = IsLine rest × (0 < length rest) × IsAtEnd in_new
IsCut (Some line.BadLine) in_new rest = ⊥
IsCut (Some line.BadNumber) in_new rest = ⊥
IsCut (Some line.OtherDoor) in_new rest = ⊥
IsCut (Some line.OutOfMemory) in_new rest = ⊥

-- the answer to the fault of the last line; no bytes if there is no such fault
abbrev pub cut_line : Option LineFault → List ℕ
cut_line None = []
cut_line (Some fault) = answer_line (Line fault)

-- the number of answers to the fault of the last line: 1, or 0 if there is no such fault
abbrev pub cut_count : Option LineFault → ℕ
cut_count None = 0
cut_count (Some fault) = 1

-- The session ended without a failure. All lines that it read were answered, and all `count` answers were written. If
-- the last of these lines is too long or has no LF, `cut` is its fault, and `count` includes the answer to this fault.
-- Otherwise `cut` is None, and the input has ended.
pub record Ends {S : Type 0} (answers_with : S → List ℕ → List ℕ → S → Type 0) (s s' : S) (in_old in_new out_old out_new : Option (List ℕ)) (count : ℕ)
    (cut : Option LineFault) : Type 0 where
  pub answered : ℕ
  pub rest : List ℕ
  pub answering : AnswersLines answers_with s s' in_old in_new out_old out_new answered rest (cut_line cut)
  pub is_cut : IsCut cut in_new rest
  pub counted : count ≡ answered + cut_count cut

-- a beginning of a line, or a line with its LF
abbrev pub IsUpToLine : List ℕ → Type 0
IsUpToLine rest = IsLine rest ⊎ ((line : List ℕ) × IsLine line × (rest ≡ with_lf line))

-- `rest` is what was read after the last line that was answered. Without a fault (None) it is a beginning of the next
-- line, or all of it with its LF. With a fault it is what was read of the line that has the fault, as `IsCut` says.
abbrev pub AnswersCut : Option LineFault → Option (List ℕ) → List ℕ → Type 0
AnswersCut None in_new rest = IsUpToLine rest
AnswersCut (Some fault) in_new rest = IsCut (Some fault) in_new rest

-- the next line was read whole, as `rest`, and dropped (left without an answer) for the reason `why`, which led from
-- state s to s'
abbrev pub DropsFor : {S : Type 0} → (HandlerError → S → List ℕ → S → Type 0) → HandlerError → S → S → List ℕ → Type 0
DropsFor drops why s s' rest = (line : List ℕ) × IsLine line × (rest ≡ with_lf line) × drops why s line s'

-- after state s no line was handled, or the next line, `rest`, was dropped (left without an answer), which led to state
-- s'
abbrev pub DropsNext : {S : Type 0} → (HandlerError → S → List ℕ → S → Type 0) → S → S → List ℕ → Type 0
DropsNext drops s s' rest = (s' ≡ s) ⊎ ((why : HandlerError) × DropsFor drops why s s' rest)

-- The session failed. What was written is a beginning of the text of all its answers: those to the lines, in order, and
-- then the one to the fault of the last line, if it has one.
pub record Breaks {S : Type 0} (answers_with : S → List ℕ → List ℕ → S → Type 0) (drops : HandlerError → S → List ℕ → S → Type 0) (s s' : S)
    (in_old in_new out_old out_new : Option (List ℕ)) : Type 0 where
  pub lines : List (List ℕ)
  pub texts : List (List ℕ)
  pub each : AllByRecursion IsLine lines
  pub answered : S
  pub all_answered : AnswersAll answers_with lines s texts answered
  pub rest : List ℕ
  pub dropped : DropsNext drops answered s' rest
  pub taken : Consumes in_old in_new (all_lines lines ++ rest)
  pub cut : Option LineFault
  pub is_cut : AnswersCut cut in_new rest
  pub front : List ℕ
  pub after : List ℕ
  pub written : Appends out_old out_new front
  pub begins : all_texts texts ++ cut_line cut ≡ front ++ after

-- `rest` is what was read of the next line, perhaps nothing. The LF of this line wasn't read. The line wasn't handled,
-- so s' is s.
abbrev pub ReadsOn : {S : Type 0} → S → S → List ℕ → Type 0
ReadsOn s s' rest = (s' ≡ s) × IsLine rest

-- Memory ran out at the next line, of which `rest` was read. There are three cases:
-- - The line wasn't read whole, and the state stayed the same.
-- - The line was read whole, the handler needs memory for it (`needs_memory`), and the state stayed the same.
-- - The line was read whole, and the state changed from s to s' as `drops` allows for a line that is left without an
--   answer.
abbrev pub RunsOutAtNextLine : {S : Type 0} → (HandlerError → S → List ℕ → S → Type 0) → (List ℕ → Type 0) → S → S → List ℕ → Type 0
RunsOutAtNextLine drops needs_memory s s' rest =
    ReadsOn s s' rest ⊎ ((line : List ℕ) × IsLine line × (rest ≡ with_lf line) × (((s' ≡ s) × needs_memory line) ⊎ drops error.OutOfMemory s line s'))

-- Why a session failed, if no write failed:
-- - `Read`: a read of the next line failed.
-- - `ReadsSpent`: the next line needs more reads than the session is allowed to make.
-- - `OutOfMemory`: memory ran out at the next line (`RunsOutAtNextLine`).
-- - `Journal`: the journal failed, and the next line was dropped (left without an answer).
-- - `NextDay`: the next line ends the day, and was dropped.
-- s is the state after the last answered line, s' the state at the end, and `rest` is what was read after that line.
abbrev pub StopsFor : {S : Type 0} → (HandlerError → S → List ℕ → S → Type 0) → (List ℕ → Type 0) → SessionFault → S → S → List ℕ → Type 0
StopsFor drops needs_memory session.Write s s' rest = ⊥
StopsFor drops needs_memory session.Read s s' rest = ReadsOn s s' rest
StopsFor drops needs_memory session.ReadsSpent s s' rest = ReadsOn s s' rest
StopsFor drops needs_memory session.OutOfMemory s s' rest = RunsOutAtNextLine drops needs_memory s s' rest
StopsFor drops needs_memory session.Journal s s' rest = DropsFor drops error.Journal s s' rest
StopsFor drops needs_memory session.NextDay s s' rest = DropsFor drops error.NextDay s s' rest

-- The session failed with `fault`, which isn't a failed write. The answers to all answered lines were written whole,
-- and no fault of a line was answered. The session failed at the line after the last answered one, as `StopsFor` says.
abbrev pub Stops : {S : Type 0} → (S → List ℕ → List ℕ → S → Type 0) → (HandlerError → S → List ℕ → S → Type 0) → (List ℕ → Type 0) → SessionFault → S
    → S → Option (List ℕ) → Option (List ℕ) → Option (List ℕ) → Option (List ℕ) → Type 0
Stops answers_with drops needs_memory fault s s' in_old in_new out_old out_new =
    (b : Breaks answers_with drops s s' in_old in_new out_old out_new) × (b.cut ≡ None) × (b.after ≡ []) × StopsFor drops needs_memory fault b.answered s' b.rest

-- A session that buffers answers failed with `fault`, which isn't a failed write. If it isn't a failed read either, the
-- answers to all answered lines were written whole. After a failed read perhaps only a beginning of them was written.
-- No fault of a line was answered. The session failed at the line after the last answered one, as `StopsFor` says.
abbrev pub StopsAtDoor : {S : Type 0} → (S → List ℕ → List ℕ → S → Type 0) → (HandlerError → S → List ℕ → S → Type 0) → (List ℕ → Type 0)
    → SessionFault → S → S → Option (List ℕ) → Option (List ℕ) → Option (List ℕ) → Option (List ℕ) → Type 0
StopsAtDoor answers_with drops needs_memory fault s s' in_old in_new out_old out_new =
    (b : Breaks answers_with drops s s' in_old in_new out_old out_new) × (b.cut ≡ None) × (fault ≢ session.Read → b.after ≡ [])
    × StopsFor drops needs_memory fault b.answered s' b.rest

-- `relation` holds for four values: the bytes that a connection's input still had before, those that it still has now,
-- all bytes that had been written to the connection's output before, and all that have been written by now.
abbrev pub RelatesConnection : {I O : Type 0} → (I → Option (List ℕ)) → (O → Option (List ℕ)) → Connection I O → Connection I O
    → (Option (List ℕ) → Option (List ℕ) → Option (List ℕ) → Option (List ℕ) → Type 0) → Type 0
RelatesConnection remaining written old new relation = relation (remaining old.input) (remaining new.input) (written old.output) (written new.output)

-- whether the result is that a read failed
abbrev pub is_read : {T : Type 0} → Result T SessionFault → Bool
is_read (Ok x) = false
is_read (Err session.Read) = true
is_read (Err session.Write) = false
is_read (Err session.ReadsSpent) = false
is_read (Err session.OutOfMemory) = false
is_read (Err session.Journal) = false
is_read (Err session.NextDay) = false

-- whether the result is that a write failed
abbrev pub is_write : {T : Type 0} → Result T SessionFault → Bool
is_write (Ok x) = false
is_write (Err session.Read) = false
is_write (Err session.Write) = true
is_write (Err session.ReadsSpent) = false
is_write (Err session.OutOfMemory) = false
is_write (Err session.Journal) = false
is_write (Err session.NextDay) = false

abbrev pub is_write_fault : {T : Type 0} → Result T HandlerError → Bool
is_write_fault (Ok x) = false
is_write_fault (Err error.Write) = true
is_write_fault (Err error.OutOfMemory) = false
is_write_fault (Err error.Journal) = false
is_write_fault (Err error.NextDay) = false

-- the most reads that a session makes (source: this project)
abbrev pub session_reads : ℕ
session_reads = 67108864

-- The session made k reads of its input, and asked for k bytes in all. k is at most `most`. If the session failed
-- because it needed more reads (`ReadsSpent`), k is `most`. `reads` counts the input's reads, and `asked` the bytes
-- that they asked for.
abbrev pub SpendsReads : {T I : Type 0} → ℕ → Result T SessionFault → (I → ℕ) → (I → ℕ) → I → I → Type 0
SpendsReads most result reads asked old new =
    (k : ℕ) × (k ≤ most) × RoseBy k (reads old) (reads new) × (result ≡ Err session.ReadsSpent → k ≡ most) × RoseBy k (asked old) (asked new)

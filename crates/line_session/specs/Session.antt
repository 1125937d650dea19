-- Definitions: the answers of a desk to lines (source: this project). What a line asks for is answered at the moment
-- that the clock gives for it: an act by an answer, a look by a line of the desk, or by an answer in its place. A line
-- that asks for nothing is answered with its fault, and then neither the clock nor the desk is asked. If the desk says
-- that the journal failed at a line, or that memory ran out before it, no answer to this line is written, and the
-- session ends.
use Rattle.std.specs.Prelude.{◌≡◌, ℕ, List, Result, Ok, Err, Bool, true, false}
use Rattle.till_request.specs.declared.act.Act.{Act}
use Rattle.till_request.specs.declared.act.Role.{Role}
use Rattle.till_request.specs.declared.act.LineFault.{LineFault}
use Rattle.till_request.specs.declared.act.LineFault.TheVariants as fault
use Rattle.till_request.specs.declared.act.Answer.{Answer}
use Rattle.till_request.specs.declared.act.Answer.TheVariants.{Line, JournalFailed}
use Rattle.till_request.specs.declared.look.LookAt.{LookAt}
use Rattle.till_request.specs.declared.look.Asked.{Asked}
use Rattle.till_request.specs.declared.look.Asked.TheVariants as asks
use Rattle.till_request.specs.Grammar.{IsLoad, words}
use Rattle.till_request.specs.Looks.{line_asked}
use Rattle.till_request.specs.Answer.{answer_line}
use Rattle.line_session.specs.declared.line_handler.HandlerError.{HandlerError}
use Rattle.line_session.specs.declared.line_handler.HandlerError.TheVariants as error

-- What a line gets: Ok with the line of a look, its LF included, or Err with an answer.
abbrev pub LineAnswer : Type 0
LineAnswer = Result (List ℕ) Answer

-- What a line gets by what it asks for. An act gets an answer that the desk can give, and a look what the desk can show,
-- both at a moment that the clock can give. A fault is answered with this fault, and neither the clock nor the desk is
-- asked. A line that ends the day gets nothing in its session.
abbrev pub AnswersAsked : {C D : Type 0} → (D → Act → ℕ → Answer → D → Type 0) → (D → LookAt → ℕ → LineAnswer → D → Type 0) → (C → ℕ → C → Type 0)
    → Result Asked LineFault → C → D → LineAnswer → C → D → Type 0
AnswersAsked step looks tick (Ok (asks.Act act)) c d (Err a) c' d' = (moment : ℕ) × tick c moment c' × step d act moment a d'
AnswersAsked step looks tick (Ok (asks.Act act)) c d (Ok text) c' d' = ⊥
AnswersAsked step looks tick (Ok (asks.Look look)) c d a c' d' = (moment : ℕ) × tick c moment c' × looks d look moment a d'
AnswersAsked step looks tick (Ok asks.NextDay) c d a c' d' = ⊥
AnswersAsked step looks tick (Err why) c d a c' d' = (a ≡ Err (Line why)) × (c' ≡ c) × (d' ≡ d)

-- whether an answer is one that isn't written and ends the session
abbrev pub ends_unwritten : Answer → Bool
ends_unwritten (Line fault.OutOfMemory) = true
ends_unwritten JournalFailed = true
ends_unwritten answer = false

-- the same of what a line gets; the line of a look is written
abbrev pub stays_unwritten : LineAnswer → Bool
stays_unwritten (Ok text) = false
stays_unwritten (Err answer) = ends_unwritten answer

-- the line that is written
abbrev pub line_of : LineAnswer → List ℕ
line_of (Ok text) = text
line_of (Err answer) = answer_line answer

-- the answer isn't written, for the reason that this error says: memory ran out, or the journal failed
abbrev pub IsUnwritten : HandlerError → Answer → Type 0
IsUnwritten error.Write answer = ⊥
IsUnwritten error.OutOfMemory answer = answer ≡ Line fault.OutOfMemory
IsUnwritten error.Journal answer = answer ≡ JournalFailed
IsUnwritten error.NextDay answer = ⊥

-- With the clock in the state `c` and the desk in the state `d`, the line `line` from this role can get the answer
-- `text`, its LF included. The clock and the desk are then in the states `c'` and `d'`.
pub record IsAnswerLine {C D : Type 0} (step : D → Act → ℕ → Answer → D → Type 0) (looks : D → LookAt → ℕ → LineAnswer → D → Type 0) (tick : C → ℕ → C → Type 0)
    (role : Role) (line text : List ℕ) (c : C) (d : D) (c' : C) (d' : D) : Type 0 where
  pub answer : LineAnswer
  pub answers : AnswersAsked step looks tick (line_asked role line) c d answer c' d'
  pub has_line : stays_unwritten answer ≡ false
  pub text_is : text ≡ line_of answer

-- the text is an answer that this clock and this desk can give to a line from this role
abbrev pub desk_answers : {C D : Type 0} → (D → Act → ℕ → Answer → D → Type 0) → (D → LookAt → ℕ → LineAnswer → D → Type 0) → (C → ℕ → C → Type 0)
    → Role → C × D → List ℕ → List ℕ → C × D → Type 0
desk_answers step looks tick role s line text s' = IsAnswerLine step looks tick role line text s.0 s.1 s'.0 s'.1

-- the desk's answer to the line isn't written, and the reason is this error: memory ran out, or the journal failed
abbrev pub loses_answer : {C D : Type 0} → (D → Act → ℕ → Answer → D → Type 0) → (D → LookAt → ℕ → LineAnswer → D → Type 0) → (C → ℕ → C → Type 0)
    → Role → HandlerError → C × D → List ℕ → C × D → Type 0
loses_answer step looks tick role why s line s' =
    (asked : Asked) × (answer : Answer) × IsUnwritten why answer × (line_asked role line ≡ Ok asked) × AnswersAsked step looks tick (Ok asked) s.0 s.1 (Err answer) s'.0 s'.1

-- The line is left without an answer. Either it ends the day, and neither the clock nor the desk is asked, or the desk's
-- answer isn't written.
abbrev pub desk_drops : {C D : Type 0} → (D → Act → ℕ → Answer → D → Type 0) → (D → LookAt → ℕ → LineAnswer → D → Type 0) → (C → ℕ → C → Type 0)
    → Role → HandlerError → C × D → List ℕ → C × D → Type 0
desk_drops step looks tick role error.NextDay s line s' = (line_asked role line ≡ Ok asks.NextDay) × (s' ≡ s)
desk_drops step looks tick role why s line s' = loses_answer step looks tick role why s line s'

-- the line is a load that the role may send: only such a line needs memory before the desk is asked
abbrev pub desk_needs_memory : Role → List ℕ → Type 0
desk_needs_memory role line = IsLoad role (words line)

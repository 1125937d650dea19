-- Definitions: how each line of a script is answered (source: this project). The answer depends on the site, and on the
-- moment that was set last. An act is entered as an event of pass 1 at that moment, except in these cases, which leave
-- the site unchanged:
-- - The verifier refuses the program of a load: the answer is the line of the verifier's fault.
-- - Memory runs out while the act is entered: the answer is `S31`.
-- - The journal is full: the answer is `S29`.
use Rattle.std.specs.Prelude.{◌≡◌, ◌≢◌, ◌⊎◌, ⊤, ℕ, List, [], ◌∷◌, ◌++◌, length, reverse, codes, Option, Some, None, Result, Ok, Err}
use Rattle.std.specs.Fmt.{decimal}
use Rattle.std.specs.List.{join_with_byte}
use Rattle.bpf_model.specs.Program.{ProgramText, IsGood, as_loaded}
use Rattle.verifier.specs.declared.refusal.Refusal.{Refusal}
use Rattle.verifier.specs.Refusals.{refusal_numbers}
use Rattle.verifier.specs.RefusedPrograms.{IsRefused, IsRefusal, MayRunOutOfMemory, refusal_of}
use Rattle.till_request.specs.declared.act.Act.{Act}
use Rattle.till_request.specs.declared.act.Act.TheVariants as acts
use Rattle.till_request.specs.declared.act.Answer.{Answer}
use Rattle.till_request.specs.declared.act.Answer.TheVariants as answers
use Rattle.till_request.specs.declared.look.LookAt.{LookAt}
use Rattle.till_request.specs.declared.look.Sight.{Sight}
use Rattle.till_request.specs.declared.act.LineFault.{LineFault}
use Rattle.till_request.specs.declared.act.LineFault.TheVariants as faults
use Rattle.till_request.specs.declared.act.Role.TheVariants.{All}
use Rattle.till_request.specs.Answer.{answer_line}
use Rattle.till_request.specs.Grammar.{IsLoad, words}
use Rattle.till_request.specs.Looks.{sight_line}
use Rattle.decision_journal.specs.Text.{journal_text}
use Rattle.site_core.specs.Site.{SiteValue, Enters}
use Rattle.site_core.specs.State.{counter_of}
use Rattle.site_core.specs.Histories.{IsJournal}
use Rattle.site_core.specs.Sights.{seen_at, seen_value}
use Rattle.line_session.specs.declared.answering.SessionFault.{SessionFault}
use Rattle.line_session.specs.Answering.{Ends, Breaks, Stops, drops_none}
use Rattle.line_session.specs.ReadSizes.{NoneIsOutOfMemoryText, EndAlike}
use Rattle.file_jobs.specs.declared.script.ScriptLine.{ScriptLine}
use Rattle.file_jobs.specs.declared.script.ScriptLine.TheVariants as lines
use Rattle.file_jobs.specs.Script.{line_of}

-- The answer fits the event: it has the number and the reply of the event's entry, or the reason why the event wasn't
-- entered.
abbrev pub EventAnswered : SiteValue → ℕ → Act → Answer → SiteValue → Type 0
EventAnswered old moment act (answers.Entered number reply) new = (length old.history ≢ 1048576) × Enters old 1 moment act number reply new
EventAnswered old moment act answers.JournalFull new = (length old.history ≡ 1048576) × (new ≡ old)
EventAnswered old moment act answers.OutOfMemory new = (length old.history ≢ 1048576) × (new ≡ old)
EventAnswered old moment act (answers.Line fault) new = ⊥
EventAnswered old moment act (answers.Program number unit part) new = ⊥
EventAnswered old moment act answers.JournalFailed new = ⊥

-- The verifier refuses the program `p`. The numbers of the refusal are `number`, `unit` and `part`. The site is
-- unchanged.
pub record ProgramRefused (old : SiteValue) (p : ProgramText) (number : ℕ) (unit part : Option ℕ) (new : SiteValue) : Type 0 where
  pub refusal : Refusal
  pub refused : IsRefused p refusal
  pub answers : IsRefusal (refusal_of p) refusal
  pub shown : refusal_numbers refusal ≡ Some (number, unit, part)
  pub same : new ≡ old

-- The program is good (`IsGood`: it can be decoded, and each run of it ends and changes only declared counters, within
-- their bounds), and the verifier doesn't refuse it.
pub record IsAccepted (p : ProgramText) : Type 0 where
  pub good : IsGood p
  pub accepted : refusal_of p ≡ None

-- The act that loads this program into this slot (a place for a rule).
abbrev pub load_of : ℕ → ProgramText → Act
load_of slot p = acts.Load slot p.declared p.layout p.bytes

-- The answer fits the load of the program `p`. It is one of these:
-- - `Entered` or `JournalFull`: the program is accepted, and the answer fits the load's event (`EventAnswered`).
-- - `OutOfMemory`: the program has 1 to 512 whole units (of eight bytes each), its first unit has no fault, and the
--   site is unchanged.
-- - `Program`: the verifier refuses the program, and the site is unchanged.
abbrev pub LoadAnswered : SiteValue → ℕ → ℕ → ProgramText → Answer → SiteValue → Type 0
LoadAnswered old moment slot p (answers.Entered number reply) new = IsAccepted p × EventAnswered old moment (load_of slot p) (answers.Entered number reply) new
LoadAnswered old moment slot p answers.JournalFull new = IsAccepted p × EventAnswered old moment (load_of slot p) answers.JournalFull new
LoadAnswered old moment slot p answers.OutOfMemory new = MayRunOutOfMemory p × (new ≡ old)
LoadAnswered old moment slot p (answers.Line fault) new = ⊥
LoadAnswered old moment slot p (answers.Program number unit part) new = ProgramRefused old p number unit part new
LoadAnswered old moment slot p answers.JournalFailed new = ⊥

abbrev pub ActAnswered : SiteValue → ℕ → Act → Answer → SiteValue → Type 0
ActAnswered old moment (acts.Till till request) answer new = EventAnswered old moment (acts.Till till request) answer new
ActAnswered old moment (acts.Dispenser point event) answer new = EventAnswered old moment (acts.Dispenser point event) answer new
ActAnswered old moment (acts.Load slot mask layout bytes) answer new = LoadAnswered old moment slot (as_loaded bytes mask layout) answer new

-- The text is the line of an answer that the act may get.
pub record IsActAnswerText (old : SiteValue) (moment : ℕ) (act : Act) (text : List ℕ) (new : SiteValue) : Type 0 where
  pub answer : Answer
  pub answered : ActAnswered old moment act answer new
  pub text_is : text ≡ answer_line answer

-- The answer to the line `moment N`, which is that line again.
abbrev pub moment_text : ℕ → List ℕ
moment_text n = join_with_byte 32 (codes "moment" ∷ decimal n ∷ []) ++ 10 ∷ []

-- The answer to the line `counter C`: the counter's value and bound, or the fault of a bad number if there is no such
-- counter.
abbrev pub counter_text : Option (ℕ × ℕ) → List ℕ
counter_text (Some p) = join_with_byte 32 (codes "counter" ∷ decimal p.0 ∷ decimal p.1 ∷ []) ++ 10 ∷ []
counter_text None = answer_line (answers.Line faults.BadNumber)

-- The text is the line of a look's answer. It stands behind all entries of the site's history, and tells that a play is
-- on day 1.
pub record IsLookText (site : SiteValue) (look : LookAt) (text : List ℕ) : Type 0 where
  pub sight : Sight
  pub entries : sight.entries ≡ length site.history
  pub seen : seen_value sight.seen ≡ seen_at site.config (reverse site.history) site.state 1 look
  pub text_is : text ≡ sight_line sight

-- The text answers this parsed line. The first pair is the moment and the site before the line, the second pair those
-- after it. The answer to `journal` is the text of the site's history. This text is a journal that a site with the same
-- configuration can have (`IsJournal`).
abbrev pub IsLineAnswerText : Result ScriptLine LineFault → ℕ × SiteValue → List ℕ → ℕ × SiteValue → Type 0
IsLineAnswerText (Err fault) s text s' = (text ≡ answer_line (answers.Line fault)) × (s' ≡ s)
IsLineAnswerText (Ok (lines.Act act)) s text s' = IsActAnswerText s.1 s.0 act text s'.1 × (s'.0 ≡ s.0)
IsLineAnswerText (Ok (lines.Moment n)) s text s' = (text ≡ moment_text n) × (s' ≡ (n, s.1))
IsLineAnswerText (Ok (lines.Counter c)) s text s' = (text ≡ counter_text (counter_of s.1.state c)) × (s' ≡ s)
IsLineAnswerText (Ok (lines.Look look)) s text s' = IsLookText s.1 look text × (s' ≡ s)
IsLineAnswerText (Ok lines.Journal) s text s' = (text ≡ journal_text s.1.history) × IsJournal s.1.config text × (s' ≡ s)

-- The text answers this line of a script. The first pair is the moment and the site before the line, the second pair
-- those after it.
abbrev pub AnswersScriptLine : ℕ × SiteValue → List ℕ → List ℕ → ℕ × SiteValue → Type 0
AnswersScriptLine s line text s' = IsLineAnswerText (line_of line) s text s'

-- The answer to the line needs memory: it is a look, `moment N`, `counter C` or `journal`.
abbrev pub IsAnsweredWithMemory : Result ScriptLine LineFault → Type 0
IsAnsweredWithMemory (Ok (lines.Look look)) = ⊤
IsAnsweredWithMemory (Ok (lines.Moment n)) = ⊤
IsAnsweredWithMemory (Ok (lines.Counter c)) = ⊤
IsAnsweredWithMemory (Ok lines.Journal) = ⊤
IsAnsweredWithMemory (Ok (lines.Act act)) = ⊥
IsAnsweredWithMemory (Err fault) = ⊥

-- The line needs memory before anything changes: it is a load, which needs memory for its bytes, or its answer needs
-- memory.
abbrev pub TakesMemory : List ℕ → Type 0
TakesMemory line = IsLoad All (words line) ⊎ IsAnsweredWithMemory (line_of line)

-- The play began at moment 0 and ended without a failure. At its end the moment is `moment`, and the site is `left`.
-- All lines were answered, and all `count` answers were written. If the last line is too long or has no LF, `cut` is
-- the fault of this line, and `count` includes the answer to the fault.
pub record PlayEnds (site : SiteValue) (in_old in_new out_old out_new : Option (List ℕ)) (count : ℕ) (cut : Option LineFault) : Type 0 where
  pub moment : ℕ
  pub left : SiteValue
  pub ends : Ends AnswersScriptLine (0, site) (moment, left) in_old in_new out_old out_new count cut

-- The play failed, and a beginning of its answers was written. At the play's end the moment is `moment`, and the site
-- is `left`. Each change of the site was made by a line that has an answer, even if this answer wasn't written.
pub record PlayBreaks (site : SiteValue) (in_old in_new out_old out_new : Option (List ℕ)) : Type 0 where
  pub moment : ℕ
  pub left : SiteValue
  pub breaks : Breaks AnswersScriptLine drops_none (0, site) (moment, left) in_old in_new out_old out_new

-- The play failed, but no write failed. The answers to all lines so far were written whole. If the fault is that memory
-- ran out, this happened in one of these cases:
-- - when the site was started,
-- - while the next line was read,
-- - while the next line was answered, and this line needs memory (`TakesMemory`).
pub record PlayStops (fault : SessionFault) (site : SiteValue) (in_old in_new out_old out_new : Option (List ℕ)) : Type 0 where
  pub moment : ℕ
  pub left : SiteValue
  pub stops : Stops AnswersScriptLine drops_none TakesMemory fault (0, site) (moment, left) in_old in_new out_old out_new

-- Two plays of the same bytes from the same site write the same answers and leave the same moment and site. Both must
-- have ended, started with the same output, and never answered that memory ran out.
abbrev pub PlaysAlike : Type 0
PlaysAlike =
    (site : SiteValue) (bytes out out_t out_u : List ℕ) (in_t in_u : Option (List ℕ)) (count_t count_u : ℕ) (cut_t cut_u : Option LineFault)
    → (one : PlayEnds site (Some bytes) in_t (Some out) (Some out_t) count_t cut_t)
    → (other : PlayEnds site (Some bytes) in_u (Some out) (Some out_u) count_u cut_u)
    → NoneIsOutOfMemoryText one.ends.answering.texts → NoneIsOutOfMemoryText other.ends.answering.texts
    → EndAlike {S = ℕ × SiteValue} (one.moment, one.left) (other.moment, other.left) out_t out_u count_t count_u cut_t cut_u

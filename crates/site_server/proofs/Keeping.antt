-- A pass with which a worker has served connections still has the number that it had before.
use Rattle.std.proofs.Common.{◌≡◌, ℕ, List, [], ◌∷◌, Some, None, Result, Ok, Err, ap, ◌∙◌, inl, inr}
use Rattle.till_request.specs.declared.act.Act.{Act}
use Rattle.till_request.specs.declared.act.Role.{Role}
use Rattle.till_request.specs.declared.act.LineFault.{LineFault}
use Rattle.till_request.specs.declared.act.Answer.{Answer}
use Rattle.till_request.specs.declared.act.Answer.TheVariants as answer
use Rattle.till_request.specs.declared.look.Asked.{Asked}
use Rattle.till_request.specs.declared.look.Asked.TheVariants as asks
use Rattle.till_request.specs.declared.look.LookAt.{LookAt}
use Rattle.till_request.specs.Looks.{line_asked}
use Rattle.line_session.specs.declared.line_handler.HandlerError.{HandlerError}
use Rattle.line_session.specs.declared.line_handler.HandlerError.TheVariants as error
use Rattle.line_session.specs.Session.{AnswersAsked, LineAnswer}
use Rattle.line_session.specs.Answering.{AnswersAll}
use Rattle.line_session.specs.Serving.{Outcome}
use Rattle.site_lock.specs.Passes.{PassView, Opened}
use Rattle.site_lock.specs.Desks.{DeskAnswers, DeskLooks}
use Rattle.site_server.specs.declared.shift.Shift.{Shift}
use Rattle.site_server.specs.Tasks.{pass_answers, pass_looks, gives_any_moment, pass_answers_line, pass_drops_line, DropsOne, AnswersConnection, AnswersConnections, Worked}

abbrev id_in : ℕ × PassView → ℕ
id_in s = s.1.id

module _ (f : Opened) (may_fail : Type 0) (day : ℕ) where
  answer_keeps : (a : Answer) (p q : PassView) (act : Act) (moment : ℕ) → DeskAnswers f.config may_fail p q act moment a → q.id ≡ p.id
  answer_keeps (answer.Entered number reply) p q act moment h = h.gains.id
  answer_keeps answer.JournalFull p q act moment h = ap (λ (x : PassView). x.id) h
  answer_keeps answer.OutOfMemory p q act moment h = ap (λ (x : PassView). x.id) h
  answer_keeps (answer.Line fault) p q act moment h = absurd h
  answer_keeps (answer.Program number unit part) p q act moment h = ap (λ (x : PassView). x.id) h.same
  answer_keeps answer.JournalFailed p q act moment h = ap (λ (x : PassView). x.id) h.0

  look_keeps : (a : LineAnswer) (p q : PassView) (look : LookAt) → DeskLooks f may_fail day p q look a → q.id ≡ p.id
  look_keeps (Ok text) p q look h = ap (λ (x : PassView). x.id) h.0
  look_keeps (Err (answer.Entered number reply)) p q look h = absurd h
  look_keeps (Err answer.JournalFull) p q look h = absurd h
  look_keeps (Err answer.OutOfMemory) p q look h = ap (λ (x : PassView). x.id) h
  look_keeps (Err (answer.Line fault)) p q look h = absurd h
  look_keeps (Err (answer.Program number unit part)) p q look h = absurd h
  look_keeps (Err answer.JournalFailed) p q look h = ap (λ (x : PassView). x.id) h.0

  asked_keeps : (asked : Result Asked LineFault) (c : ℕ) (p : PassView) (a : LineAnswer) (d : ℕ) (q : PassView)
      → AnswersAsked (pass_answers f.config may_fail) (pass_looks f may_fail day) gives_any_moment asked c p a d q → q.id ≡ p.id
  asked_keeps (Ok (asks.Act act)) c p (Err a) d q h = answer_keeps a p q act h.0 h.2
  asked_keeps (Ok (asks.Act act)) c p (Ok text) d q h = absurd h
  asked_keeps (Ok (asks.Look look)) c p a d q h = look_keeps a p q look h.2
  asked_keeps (Ok asks.NextDay) c p a d q h = absurd h
  asked_keeps (Err fault) c p a d q h = ap (λ (x : PassView). x.id) h.2

  module _ (role : Role) where
    all_keep : (lines : List (List ℕ)) (s : ℕ × PassView) (texts : List (List ℕ)) (t : ℕ × PassView)
        → AnswersAll (pass_answers_line f may_fail day role) lines s texts t → id_in t ≡ id_in s
    all_keep [] s [] t h = ap id_in h
    all_keep (line ∷ lines) s (text ∷ texts) t h =
        all_keep lines h.0 texts t h.2 ∙ asked_keeps (line_asked role line) s.0 s.1 h.1.answer h.0.0 h.0.1 h.1.answers
    all_keep [] s (text ∷ texts) t h = absurd h
    all_keep (line ∷ lines) s [] t h = absurd h

    loss_keeps : (why : HandlerError) (s : ℕ × PassView) (line : List ℕ) (t : ℕ × PassView) → pass_drops_line f may_fail day role why s line t → id_in t ≡ id_in s
    loss_keeps error.Write s line t h = asked_keeps (Ok h.0) s.0 s.1 (Err h.1) t.0 t.1 h.4
    loss_keeps error.OutOfMemory s line t h = asked_keeps (Ok h.0) s.0 s.1 (Err h.1) t.0 t.1 h.4
    loss_keeps error.Journal s line t h = asked_keeps (Ok h.0) s.0 s.1 (Err h.1) t.0 t.1 h.4
    loss_keeps error.NextDay s line t h = ap id_in h.1

    drop_keeps : (s t : ℕ × PassView) → DropsOne f may_fail day role s t → id_in t ≡ id_in s
    drop_keeps s t (inl same) = ap id_in same
    drop_keeps s t (inr d) = loss_keeps d.0 s d.1 t d.3

    visit_keeps : (outcome : Outcome) (s t : ℕ × PassView) → AnswersConnection f may_fail day role outcome s t → id_in t ≡ id_in s
    visit_keeps None s t h = ap id_in h
    visit_keeps (Some result) s t h = drop_keeps h.2 t h.5 ∙ all_keep h.0 s h.1 h.2 h.4

    visits_keep : (outcomes : List Outcome) (s t : ℕ × PassView) → AnswersConnections f may_fail day role outcomes s t → id_in t ≡ id_in s
    visits_keep [] s t h = ap id_in h
    visits_keep (outcome ∷ outcomes) s t h = visits_keep outcomes h.0 t h.2 ∙ visit_keeps outcome s h.0 h.1

    pub worked_keeps : (shift : Shift) (clean : ℕ) (p q : PassView) → Worked f may_fail day role shift clean p q → q.id ≡ p.id
    worked_keeps shift clean p q h = visits_keep h.outcomes (0, p) (h.moment, q) h.each

-- If a worker with a clock and a desk served connections with these outcomes, then the desk's pass did so too. What is
-- said of the clock and the desk is then said of the moment that the clock gave last, and of the pass. The day that the
-- desk tells stays the same.
use Rattle.std.proofs.Common.{◌≡◌, ◌≢◌, ℕ, List, [], ◌∷◌, Option, Some, None, Result, Ok, Err, refl, subst, inl, inr, ap, ◌∙◌}
use Rattle.till_request.specs.declared.act.Act.{Act}
use Rattle.till_request.specs.declared.act.Answer.{Answer}
use Rattle.till_request.specs.declared.act.Answer.TheVariants.{JournalFailed}
use Rattle.till_request.specs.declared.act.LineFault.{LineFault}
use Rattle.till_request.specs.declared.act.Role.{Role}
use Rattle.till_request.specs.declared.look.Asked.{Asked}
use Rattle.till_request.specs.declared.look.Asked.TheVariants as asks
use Rattle.till_request.specs.declared.look.LookAt.{LookAt}
use Rattle.till_request.specs.Looks.{line_asked}
use Rattle.line_session.specs.declared.answering.Ended.{Ended}
use Rattle.line_session.specs.declared.answering.SessionFault.{SessionFault}
use Rattle.line_session.specs.declared.answering.SessionFault.TheVariants as session
use Rattle.line_session.specs.declared.line_handler.HandlerError.{HandlerError}
use Rattle.line_session.specs.declared.line_handler.HandlerError.TheVariants as error
use Rattle.line_session.specs.Session.{AnswersAsked, LineAnswer, desk_answers, desk_drops, desk_needs_memory, loses_answer}
use Rattle.line_session.specs.Serving.{Outcome, RunsDeskSession, ServesConnection, ServesConnections, Serves}
use Rattle.line_session.specs.Answering.{AnswersAll, DropsFor, DropsNext, StopsAtDoor}
use Rattle.site_lock.specs.Desks.{DeskAnswers, DeskLooks}
use Rattle.site_lock.specs.Passes.{PassView, Opened}
use Rattle.site_server.proofs.Rounds.{Round}
use Rattle.site_server.specs.Tasks.{pass_answers, pass_looks, gives_any_moment, pass_answers_line, pass_drops_line, DropsOne, AnswersConnection, AnswersConnections}

-- `last` is the moment that the clock gave last, `pass` the desk's pass, and `told` the number of the day that it tells.
module _ {C P : Type 0} (last : C → ℕ) (pass : P → PassView) (told : P → ℕ) (f : Opened) (may_fail : Type 0) (day : ℕ)
    (step : P → Act → ℕ → Answer → P → Type 0) (looks : P → LookAt → ℕ → LineAnswer → P → Type 0) (tick : C → ℕ → C → Type 0)
    (steps : (d : P) (act : Act) (moment : ℕ) (a : Answer) (e : P) → step d act moment a e
    → DeskAnswers f.config may_fail (pass d) (pass e) act moment a × (told e ≡ told d))
    (sees : (d : P) (look : LookAt) (moment : ℕ) (a : LineAnswer) (e : P) → looks d look moment a e
    → DeskLooks f may_fail (told d) (pass d) (pass e) look a × (told e ≡ told d))
    (ticks : (c : C) (moment : ℕ) (e : C) → tick c moment e → last e ≡ moment) (role : Role) where
  abbrev see : C × P → ℕ × PassView
  see s = (last s.0, pass s.1)

  abbrev told_by : C × P → ℕ
  told_by s = told s.1

  asked_seen : (asked : Result Asked LineFault) (c : C) (d : P) (a : LineAnswer) (e : C) (r : P) → told d ≡ day → AnswersAsked step looks tick asked c d a e r
      → AnswersAsked (pass_answers f.config may_fail) (pass_looks f may_fail day) gives_any_moment asked (last c) (pass d) a (last e) (pass r) × (told r ≡ day)
  asked_seen (Ok (asks.Act act)) c d (Err a) e r on h = let made = steps d act h.0 a r h.2 in ((h.0, ticks c h.0 e h.1, made.0), made.1 ∙ on)
  asked_seen (Ok (asks.Act act)) c d (Ok text) e r on h = absurd h
  asked_seen (Ok (asks.Look look)) c d a e r on h =
      let made = sees d look h.0 a r h.2 in
      ((h.0, ticks c h.0 e h.1, subst (λ n. DeskLooks f may_fail n (pass d) (pass r) look a) on made.0), made.1 ∙ on)
  asked_seen (Ok asks.NextDay) c d a e r on h = absurd h
  asked_seen (Err fault) c d a e r on h = ((h.0, ap last h.1, ap pass h.2), ap told h.2 ∙ on)

  line_seen : (s : C × P) (line text : List ℕ) (t : C × P) → told_by s ≡ day → desk_answers step looks tick role s line text t
      → pass_answers_line f may_fail day role (see s) line text (see t) × (told_by t ≡ day)
  line_seen s line text t on h =
      let made = asked_seen (line_asked role line) s.0 s.1 h.answer t.0 t.1 on h.answers in
      (record { answer = h.answer; answers = made.0; has_line = h.has_line; text_is = h.text_is }, made.1)

  loss_seen : (why : HandlerError) (s : C × P) (line : List ℕ) (t : C × P) → told_by s ≡ day → loses_answer step looks tick role why s line t
      → loses_answer (pass_answers f.config may_fail) (pass_looks f may_fail day) gives_any_moment role why (see s) line (see t) × (told_by t ≡ day)
  loss_seen why s line t on h = let made = asked_seen (Ok h.0) s.0 s.1 (Err h.1) t.0 t.1 on h.4 in ((h.0, h.1, h.2, h.3, made.0), made.1)

  drop_seen : (why : HandlerError) (s : C × P) (line : List ℕ) (t : C × P) → told_by s ≡ day → desk_drops step looks tick role why s line t
      → pass_drops_line f may_fail day role why (see s) line (see t) × (told_by t ≡ day)
  drop_seen error.Write s line t on h = loss_seen error.Write s line t on h
  drop_seen error.OutOfMemory s line t on h = loss_seen error.OutOfMemory s line t on h
  drop_seen error.Journal s line t on h = loss_seen error.Journal s line t on h
  drop_seen error.NextDay s line t on h = ((h.0, ap see h.1), ap told_by h.1 ∙ on)

  all_seen : (lines : List (List ℕ)) (s : C × P) (texts : List (List ℕ)) (t : C × P) → told_by s ≡ day → AnswersAll (desk_answers step looks tick role) lines s texts t
      → AnswersAll (pass_answers_line f may_fail day role) lines (see s) texts (see t) × (told_by t ≡ day)
  all_seen [] s [] t on h = (ap see h, ap told_by h ∙ on)
  all_seen (line ∷ lines) s (text ∷ texts) t on h =
      let one = line_seen s line text h.0 on h.1 in
      let more = all_seen lines h.0 texts t one.1 h.2 in ((see h.0, one.0, more.0), more.1)
  all_seen [] s (text ∷ texts) t on h = absurd h
  all_seen (line ∷ lines) s [] t on h = absurd h

  dropped : (s t : C × P) (rest : List ℕ) → told_by s ≡ day → DropsNext (desk_drops step looks tick role) s t rest
      → DropsOne f may_fail day role (see s) (see t) × (told_by t ≡ day)
  dropped s t rest on (inl same) = (inl (ap see same), ap told_by same ∙ on)
  dropped s t rest on (inr d) = let made = drop_seen d.0 s d.1.0 t on d.1.3 in (inr (d.0, d.1.0, d.1.1, made.0), made.1)

  -- if the desk left a line without an answer because the journal failed, then the journal can fail (`may_fail`)
  failing_at : (asked : Asked) (c : C) (d : P) (e : C) (r : P) → AnswersAsked step looks tick (Ok asked) c d (Err JournalFailed) e r → may_fail
  failing_at (asks.Act act) c d e r h = (steps d act h.0 JournalFailed r h.2).0.1
  failing_at (asks.Look look) c d e r h = (sees d look h.0 (Err JournalFailed) r h.2).0.1
  failing_at asks.NextDay c d e r h = absurd h

  failing : (s t : C × P) (rest : List ℕ) → DropsFor (desk_drops step looks tick role) error.Journal s t rest → may_fail
  failing s t rest d =
      let P : Answer → Type 0 = λ a. AnswersAsked step looks tick (Ok d.3.0) s.0 s.1 (Err a) t.0 t.1 in failing_at d.3.0 s.0 s.1 t.0 t.1 (subst P d.3.2 d.3.4)

  may_fail_at : (fault : SessionFault) (s t : C × P) (i j o p : Option (List ℕ))
      → (fault ≢ session.Write → StopsAtDoor (desk_answers step looks tick role) (desk_drops step looks tick role) (desk_needs_memory role) fault s t i j o p)
      → ◌≡◌ {A = Result Ended SessionFault} (Err fault) (Err session.Journal) → may_fail
  may_fail_at session.Journal s t i j o p h e = let stops = h (λ w. absurd (cc)) in failing stops.0.answered t stops.0.rest stops.3
  may_fail_at session.Read s t i j o p h e = absurd (cc)
  may_fail_at session.Write s t i j o p h e = absurd (cc)
  may_fail_at session.ReadsSpent s t i j o p h e = absurd (cc)
  may_fail_at session.OutOfMemory s t i j o p h e = absurd (cc)
  may_fail_at session.NextDay s t i j o p h e = absurd (cc)

  module _ {I O D : Type 0} (remaining : I → Option (List ℕ)) (reads read_failures : I → ℕ) (written : O → Option (List ℕ)) (write_failures : O → ℕ)
      (opens : D → I → O → D → Type 0) (fails : D → D → Type 0) (reported : D → I → O → Result Ended SessionFault → D → Type 0) where
    talked : (outcome : Outcome) (d : D) (s : C × P) (e : D) (t : C × P) → told_by s ≡ day
        → ServesConnection opens fails reported (RunsDeskSession step looks tick role remaining reads read_failures written write_failures) outcome d s e t
        → AnswersConnection f may_fail day role outcome (see s) (see t) × (told_by t ≡ day)
    talked None d s e t on v = (ap see v.1, ap told_by v.1 ∙ on)
    talked (Some (Ok ended)) d s e t on v =
        let answering = v.6.all_answered.answering in
        let all = all_seen answering.lines s answering.texts t on answering.all_answered in
        ((answering.lines, answering.texts, see t, answering.each, all.0, inl refl, λ e. absurd (cc)), all.1)
    talked (Some (Err fault)) d s e t on v =
        let breaks = v.6.broken in
        let all = all_seen breaks.lines s breaks.texts breaks.answered on breaks.all_answered in
        let end = dropped breaks.answered t breaks.rest all.1 breaks.dropped in (
          (breaks.lines, breaks.texts, see breaks.answered, breaks.each, all.0, end.0, may_fail_at fault s t _ _ _ _ v.6.stopped),
          end.1,
        )

    all_talked : (outcomes : List Outcome) (d : D) (s : C × P) (e : D) (t : C × P) → told_by s ≡ day
        → ServesConnections (ServesConnection opens fails reported (RunsDeskSession step looks tick role remaining reads read_failures written write_failures)) outcomes d s e t
        → AnswersConnections f may_fail day role outcomes (see s) (see t) × (told_by t ≡ day)
    all_talked [] d s e t on h = (ap see h.1, ap told_by h.1 ∙ on)
    all_talked (outcome ∷ outcomes) d s e t on h =
        let one = talked outcome d s h.0 h.1 on h.2 in
        let more = all_talked outcomes h.0 h.1 e t one.1 h.3 in ((see h.1, one.0, more.0), more.1)

    -- what a round of connections did to the clock and the pass
    pub worked : (may_close : D → Type 0) (asked clean : ℕ) (d : D) (c : C) (p : P) (e : D) (c' : C) (p' : P) → told p ≡ day
        → Serves (ServesConnection opens fails reported (RunsDeskSession step looks tick role remaining reads read_failures written write_failures)) may_close asked clean d (c, p) e (c', p')
        → Round f may_fail day role asked clean (may_close d) (last c, pass p) (last c', pass p') × (told p' ≡ day)
    worked may_close asked clean d c p e c' p' on h =
        let all = all_talked h.outcomes d (c, p) e (c', p') on h.each in
        (record { outcomes = h.outcomes; each = all.0; counted = h.counted; most = h.most; all_asked = h.all_asked }, all.1)

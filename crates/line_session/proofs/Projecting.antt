-- The promises about a session or a worker also hold for what a caller sees of it, if the caller sees `f s` of each
-- state s, and each step of the session, from s to s', is a step from `f s` to `f s'` for the caller. A step is an
-- answer to a line, or a line left without an answer.
use Rattle.std.proofs.Common.{◌≡◌, ◌⊎◌, ℕ, List, [], ◌∷◌, Option, Some, None, Result, Ok, Err, ap, inl, inr}
use Rattle.till_request.specs.declared.act.Act.{Act}
use Rattle.till_request.specs.declared.act.Role.{Role}
use Rattle.till_request.specs.declared.act.LineFault.{LineFault}
use Rattle.till_request.specs.declared.act.Answer.{Answer}
use Rattle.till_request.specs.declared.look.LookAt.{LookAt}
use Rattle.till_request.specs.declared.look.Asked.{Asked}
use Rattle.till_request.specs.declared.look.Asked.TheVariants as asks
use Rattle.till_request.specs.Looks.{line_asked}
use Rattle.line_session.specs.declared.answering.Ended.{Ended}
use Rattle.line_session.specs.declared.line_handler.HandlerError.{HandlerError}
use Rattle.line_session.specs.declared.line_handler.HandlerError.TheVariants as error
use Rattle.line_session.specs.declared.answering.SessionFault.{SessionFault}
use Rattle.line_session.specs.declared.answering.SessionFault.TheVariants as session
use Rattle.line_session.specs.Session.{AnswersAsked, LineAnswer, desk_answers, desk_drops, loses_answer}
use Rattle.line_session.specs.Answering.{AnswersAll, AnswersLines, Ends, DropsFor, DropsNext, Breaks, ReadsOn, StopsAtDoor, StopsFor, RunsOutAtNextLine}
use Rattle.line_session.specs.Serving.{Outcome, RunsSession, ServesConnection, ServesConnections, Serves}

module _ {S T : Type 0} (f : S → T) (answers_with : S → List ℕ → List ℕ → S → Type 0) (drops : HandlerError → S → List ℕ → S → Type 0)
    (seen : T → List ℕ → List ℕ → T → Type 0) (lost : HandlerError → T → List ℕ → T → Type 0) (needs_memory : List ℕ → Type 0)
    (shows : (s : S) (line text : List ℕ) (s' : S) → answers_with s line text s' → seen (f s) line text (f s'))
    (loses : (why : HandlerError) (s : S) (line : List ℕ) (s' : S) → drops why s line s' → lost why (f s) line (f s')) where
  all_seen : (lines : List (List ℕ)) (s : S) (texts : List (List ℕ)) (s' : S) → AnswersAll answers_with lines s texts s' → AnswersAll seen lines (f s) texts (f s')
  all_seen [] s [] s' h = ap f h
  all_seen (line ∷ lines) s (text ∷ texts) s' h = (f h.0, shows s line text h.0 h.1, all_seen lines h.0 texts s' h.2)
  all_seen [] s (text ∷ texts) s' h = absurd h
  all_seen (line ∷ lines) s [] s' h = absurd h

  talks_seen : (s s' : S) (i j o p : Option (List ℕ)) (count : ℕ) (rest more : List ℕ) → AnswersLines answers_with s s' i j o p count rest more
      → AnswersLines seen (f s) (f s') i j o p count rest more
  talks_seen s s' i j o p count rest more t = record {
    lines = t.lines;
    texts = t.texts;
    each = t.each;
    all_answered = all_seen t.lines s t.texts s' t.all_answered;
    taken = t.taken;
    written = t.written;
    counted = t.counted;
  }

  ends_seen : (s s' : S) (i j o p : Option (List ℕ)) (count : ℕ) (cut : Option LineFault) → Ends answers_with s s' i j o p count cut
      → Ends seen (f s) (f s') i j o p count cut
  ends_seen s s' i j o p count cut e = record {
    answered = e.answered;
    rest = e.rest;
    answering = talks_seen s s' i j o p e.answered e.rest _ e.answering;
    is_cut = e.is_cut;
    counted = e.counted;
  }

  drop_seen : (why : HandlerError) (s s' : S) (rest : List ℕ) → DropsFor drops why s s' rest → DropsFor lost why (f s) (f s') rest
  drop_seen why s s' rest d = (d.0, d.1, d.2, loses why s d.0 s' d.3)

  drops_seen : (s s' : S) (rest : List ℕ) → DropsNext drops s s' rest → DropsNext lost (f s) (f s') rest
  drops_seen s s' rest (inl same) = inl (ap f same)
  drops_seen s s' rest (inr d) = inr (d.0, drop_seen d.0 s s' rest d.1)

  breaks_seen : (s s' : S) (i j o p : Option (List ℕ)) → Breaks answers_with drops s s' i j o p → Breaks seen lost (f s) (f s') i j o p
  breaks_seen s s' i j o p b = record {
    lines = b.lines;
    texts = b.texts;
    each = b.each;
    answered = f b.answered;
    all_answered = all_seen b.lines s b.texts b.answered b.all_answered;
    rest = b.rest;
    dropped = drops_seen b.answered s' b.rest b.dropped;
    taken = b.taken;
    cut = b.cut;
    is_cut = b.is_cut;
    front = b.front;
    after = b.after;
    written = b.written;
    begins = b.begins;
  }

  wants_more : (s s' : S) (line : List ℕ) → ((s' ≡ s) × needs_memory line) ⊎ drops error.OutOfMemory s line s'
      → ((f s' ≡ f s) × needs_memory line) ⊎ lost error.OutOfMemory (f s) line (f s')
  wants_more s s' line (inl same) = inl (ap f same.0, same.1)
  wants_more s s' line (inr dropped) = inr (loses error.OutOfMemory s line s' dropped)

  wants_seen : (s s' : S) (rest : List ℕ) → RunsOutAtNextLine drops needs_memory s s' rest → RunsOutAtNextLine lost needs_memory (f s) (f s') rest
  wants_seen s s' rest (inl line) = inl (ap f line.0, line.1)
  wants_seen s s' rest (inr next) = inr (next.0, next.1, next.2, wants_more s s' next.0 next.3)

  reads_seen : (s s' : S) (rest : List ℕ) → ReadsOn s s' rest → ReadsOn (f s) (f s') rest
  reads_seen s s' rest h = (ap f h.0, h.1)

  cause_seen : (fault : SessionFault) (s s' : S) (rest : List ℕ) → StopsFor drops needs_memory fault s s' rest → StopsFor lost needs_memory fault (f s) (f s') rest
  cause_seen session.Write s s' rest h = h
  cause_seen session.Read s s' rest h = reads_seen s s' rest h
  cause_seen session.ReadsSpent s s' rest h = reads_seen s s' rest h
  cause_seen session.OutOfMemory s s' rest h = wants_seen s s' rest h
  cause_seen session.Journal s s' rest h = drop_seen error.Journal s s' rest h
  cause_seen session.NextDay s s' rest h = drop_seen error.NextDay s s' rest h

  door_seen : (fault : SessionFault) (s s' : S) (i j o p : Option (List ℕ)) → StopsAtDoor answers_with drops needs_memory fault s s' i j o p
      → StopsAtDoor seen lost needs_memory fault (f s) (f s') i j o p
  unfolding breaks_seen
  door_seen fault s s' i j o p h = (breaks_seen s s' i j o p h.0, h.1, h.2, cause_seen fault h.0.answered s' h.0.rest h.3)

  module _ {I O : Type 0} (remaining : I → Option (List ℕ)) (reads read_failures : I → ℕ) (written : O → Option (List ℕ)) (write_failures : O → ℕ) where
    sits_seen : (result : Result Ended SessionFault) (i : I) (o : O) (j : I) (p : O) (s s' : S)
        → RunsSession answers_with drops needs_memory remaining reads read_failures written write_failures result i o j p s s'
        → RunsSession seen lost needs_memory remaining reads read_failures written write_failures result i o j p (f s) (f s')
    sits_seen (Ok ended) i o j p s s' t = record {
      all_answered = ends_seen s s' _ _ _ _ ended.lines ended.cut t.all_answered;
      broken = t.broken;
      read_fault = t.read_fault;
      write_fault = t.write_fault;
      count = t.count;
      few = t.few;
      counted = t.counted;
      spent = t.spent;
      stopped = t.stopped;
    }
    sits_seen (Err fault) i o j p s s' t = record {
      all_answered = t.all_answered;
      broken = breaks_seen s s' _ _ _ _ t.broken;
      read_fault = t.read_fault;
      write_fault = t.write_fault;
      count = t.count;
      few = t.few;
      counted = t.counted;
      spent = t.spent;
      stopped = λ other. door_seen fault s s' _ _ _ _ (t.stopped other);
    }

    module _ {D : Type 0} (opens : D → I → O → D → Type 0) (stays : D → D → Type 0) (reported : D → I → O → Result Ended SessionFault → D → Type 0) (may_close : D → Type 0) where
      visits_seen : (outcome : Outcome) (d : D) (s : S) (d' : D) (s' : S)
          → ServesConnection opens stays reported (RunsSession answers_with drops needs_memory remaining reads read_failures written write_failures) outcome d s d' s'
          → ServesConnection opens stays reported (RunsSession seen lost needs_memory remaining reads read_failures written write_failures) outcome d (f s) d' (f s')
      visits_seen None d s d' s' v = (v.0, ap f v.1)
      visits_seen (Some result) d s d' s' v = (v.0, v.1, v.2, v.3, v.4, v.5, sits_seen result v.0 v.1 v.4 v.5 s s' v.6, v.7)

      all_visits_seen : (outcomes : List Outcome) (d : D) (s : S) (d' : D) (s' : S)
          → ServesConnections (ServesConnection opens stays reported (RunsSession answers_with drops needs_memory remaining reads read_failures written write_failures)) outcomes d s d' s'
          → ServesConnections (ServesConnection opens stays reported (RunsSession seen lost needs_memory remaining reads read_failures written write_failures)) outcomes d (f s) d' (f s')
      all_visits_seen [] d s d' s' h = (h.0, ap f h.1)
      all_visits_seen (outcome ∷ outcomes) d s d' s' h = (h.0, f h.1, visits_seen outcome d s h.0 h.1 h.2, all_visits_seen outcomes h.0 h.1 d' s' h.3)

      pub serves_seen : (asked clean : ℕ) (d : D) (s : S) (d' : D) (s' : S)
          → Serves (ServesConnection opens stays reported (RunsSession answers_with drops needs_memory remaining reads read_failures written write_failures)) may_close asked clean d s d' s'
          → Serves (ServesConnection opens stays reported (RunsSession seen lost needs_memory remaining reads read_failures written write_failures)) may_close asked clean d (f s) d' (f s')
      serves_seen asked clean d s d' s' h = record {
        outcomes = h.outcomes;
        each = all_visits_seen h.outcomes d s d' s' h.each;
        most = h.most;
        all_asked = h.all_asked;
        counted = h.counted;
      }

module _ {C C' D D' : Type 0} (f : C → C') (g : D → D') (step : D → Act → ℕ → Answer → D → Type 0) (step' : D' → Act → ℕ → Answer → D' → Type 0)
    (looks : D → LookAt → ℕ → LineAnswer → D → Type 0) (looks' : D' → LookAt → ℕ → LineAnswer → D' → Type 0)
    (tick : C → ℕ → C → Type 0) (tick' : C' → ℕ → C' → Type 0)
    (steps : (d : D) (act : Act) (moment : ℕ) (a : Answer) (e : D) → step d act moment a e → step' (g d) act moment a (g e))
    (sees : (d : D) (look : LookAt) (moment : ℕ) (a : LineAnswer) (e : D) → looks d look moment a e → looks' (g d) look moment a (g e))
    (ticks : (c : C) (moment : ℕ) (e : C) → tick c moment e → tick' (f c) moment (f e)) where
  answers_seen : (asked : Result Asked LineFault) (c : C) (d : D) (a : LineAnswer) (c' : C) (d' : D) → AnswersAsked step looks tick asked c d a c' d'
      → AnswersAsked step' looks' tick' asked (f c) (g d) a (f c') (g d')
  answers_seen (Ok (asks.Act act)) c d (Err a) c' d' h = (h.0, ticks c h.0 c' h.1, steps d act h.0 a d' h.2)
  answers_seen (Ok (asks.Act act)) c d (Ok text) c' d' h = absurd h
  answers_seen (Ok (asks.Look look)) c d a c' d' h = (h.0, ticks c h.0 c' h.1, sees d look h.0 a d' h.2)
  answers_seen (Ok asks.NextDay) c d a c' d' h = absurd h
  answers_seen (Err fault) c d a c' d' h = (h.0, ap f h.1, ap g h.2)

  pub desk_seen : (role : Role) (s : C × D) (line text : List ℕ) (s' : C × D) → desk_answers step looks tick role s line text s'
      → desk_answers step' looks' tick' role (f s.0, g s.1) line text (f s'.0, g s'.1)
  desk_seen role s line text s' h = record {
    answer = h.answer;
    answers = answers_seen (line_asked role line) s.0 s.1 h.answer s'.0 s'.1 h.answers;
    has_line = h.has_line;
    text_is = h.text_is;
  }

  answer_lost : (role : Role) (why : HandlerError) (s : C × D) (line : List ℕ) (s' : C × D) → loses_answer step looks tick role why s line s'
      → loses_answer step' looks' tick' role why (f s.0, g s.1) line (f s'.0, g s'.1)
  answer_lost role why s line s' h = (h.0, h.1, h.2, h.3, answers_seen (Ok h.0) s.0 s.1 (Err h.1) s'.0 s'.1 h.4)

  pub desk_lost : (role : Role) (why : HandlerError) (s : C × D) (line : List ℕ) (s' : C × D) → desk_drops step looks tick role why s line s'
      → desk_drops step' looks' tick' role why (f s.0, g s.1) line (f s'.0, g s'.1)
  desk_lost role error.Write s line s' h = answer_lost role error.Write s line s' h
  desk_lost role error.OutOfMemory s line s' h = answer_lost role error.OutOfMemory s line s' h
  desk_lost role error.Journal s line s' h = answer_lost role error.Journal s line s' h
  desk_lost role error.NextDay s line s' h = (h.0, ap (λ t. (f t.0, g t.1)) h.1)

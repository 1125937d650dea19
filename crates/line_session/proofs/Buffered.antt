-- While answers are in a buffer, the promises of a session hold for the written bytes and the buffered bytes together.
-- Once all buffered bytes are written, the promises hold for the output alone. If a write fails, the output has a
-- beginning of the answers (`Breaks`). If a read fails, the output may have only a beginning too, since the buffered
-- bytes aren't written (`StopsAtDoor`).
use Rattle.std.proofs.Common.{◌≡◌, ◌≢◌, ℕ, ◌+◌, List, [], ◌∷◌, ◌++◌, Option, Some, Result, Ok, Err, IfOk, OnErr, refl, sym, ◌∙◌, ap, ap₂, subst, append_assoc, append-nil}
use Rattle.std.proofs.Common.{inl}
use Rattle.std.specs.Io.KnownBytes.{Consumes, Appends}
use Rattle.till_request.proofs.Taken.{appends_more}
use Rattle.till_request.specs.declared.act.LineFault.{LineFault}
use Rattle.till_request.specs.Line.{IsLine}
use Rattle.line_session.specs.Found.{IsEnd}
use Rattle.line_session.specs.Answering.{cut_count, cut_line, all_texts, AnswersLines, IsCut, IsUpToLine, Ends, Breaks, Stops, StopsAtDoor}
use Rattle.till_request.specs.declared.line.InputFault.{InputFault}
use Rattle.line_session.specs.Deciding.{LeavesLine}
use Rattle.line_session.specs.Faults.{fault_of_handler, fault_of_input}
use Rattle.line_session.specs.declared.line_handler.HandlerError.{HandlerError}
use Rattle.line_session.specs.declared.answering.Ended.{Ended}
use Rattle.line_session.specs.declared.answering.SessionFault.{SessionFault}
use Rattle.line_session.specs.declared.answering.SessionFault.TheVariants as session
use Rattle.line_session.specs.Buffering.{Sends, HoldsWithBuffered}
use Rattle.line_session.proofs.Saying.{is_line_empty, consumes_none, appends_none, talks_none, talks_more, ends_said, is_answered, breaks_here, stops_here, stops_left}

pub sends_none : (p : Option (List ℕ)) (pending : List ℕ) → Sends pending pending p p
sends_none p pending = record { sent = []; out = appends_none p; in_order = refl }

-- If a promise `X` holds for the written and the buffered bytes together (`HoldsWithBuffered`), and a beginning of the
-- buffered bytes `pending` is written, then `X` still holds for both together, with only the rest of these bytes,
-- `after`, in the buffer.
pub still_holds_after_write : (X : Option (List ℕ) → Option (List ℕ) → Type 0) (o p q : Option (List ℕ)) (pending after : List ℕ) → HoldsWithBuffered X o p pending
    → Sends pending after p q → HoldsWithBuffered X o q after
still_holds_after_write X o p q pending after w s =
    let P : List ℕ → Type 0 = λ t. X (Some []) (Some t) in
    record {
      sent = w.sent ++ s.sent;
      as_if_out = subst P (ap (λ t. w.sent ++ t) (sym s.in_order) ∙ sym (append_assoc w.sent s.sent after)) w.as_if_out;
      out = appends_more o p q w.sent s.sent w.out s.out;
    }

module _ {C D : Type 0} (answers_with : C × D → List ℕ → List ℕ → C × D → Type 0) where
  -- `count` lines were read and answered, and exactly their answers were written
  abbrev pub Answers : (s s' : C × D) (i j : Option (List ℕ)) (count : ℕ) → Option (List ℕ) → Option (List ℕ) → Type 0
  Answers s s' i j count o p = AnswersLines answers_with s s' i j o p count [] []

  pub waits_none : (s : C × D) (i o : Option (List ℕ)) → HoldsWithBuffered (Answers s s i i 0) o o []
  waits_none s i o = record { sent = []; as_if_out = talks_none answers_with s i (Some []); out = appends_none o }

  -- if the answers to `count` lines were written or are buffered, and one more line is read and its answer buffered,
  -- then the answers to `count + 1` lines were written or are buffered
  pub holds_after_answer : (s m s' : C × D) (i j k o p : Option (List ℕ)) (pending : List ℕ) (count : ℕ) (l text : List ℕ) → HoldsWithBuffered (Answers s m i j count) o p pending
      → IsLine l → Consumes j k (l ++ 10 ∷ []) → answers_with m l text s' → HoldsWithBuffered (Answers s s' i k (count + 1)) o p (pending ++ text)
  holds_after_answer s m s' i j k o p pending count l text w whole taken all_answered = record {
    sent = w.sent;
    as_if_out = talks_more answers_with s m s' i j k (Some []) (Some (w.sent ++ pending)) (Some (w.sent ++ (pending ++ text))) count l w.as_if_out whole taken
        (record { text = text; is_answer = all_answered; written = sym (append_assoc w.sent pending text) });
    out = w.out;
  }

  -- If the lines so far were answered, then the session has ended without a failure (`Ends`), where buffered bytes
  -- count as written, in two cases:
  -- - The input has ended right after these lines.
  -- - The next line is too long, or is a last line without LF, and the answer to this fault is buffered too.
  ends_so : (s m : C × D) (i j k o p : Option (List ℕ)) (pending : List ℕ) (count : ℕ) (cut : Option LineFault) (more : List ℕ) (ended : Ended)
      → HoldsWithBuffered (Answers s m i j count) o p pending → Consumes j k more → IsCut cut k more → IsEnd count cut ended
      → HoldsWithBuffered (λ a b. Ends answers_with s m i k a b ended.lines ended.cut) o p (pending ++ cut_line cut)
  ends_so s m i j k o p pending count cut more ended w taken is end = record {
    sent = w.sent;
    as_if_out = ends_said answers_with s m i j k (Some []) (Some (w.sent ++ pending)) (Some (w.sent ++ (pending ++ cut_line cut))) count cut more (Ok ended) w.as_if_out
        taken is (end, sym (append_assoc w.sent pending (cut_line cut)));
    out = w.out;
  }

  pub ends_all : (s m : C × D) (i j k o p q : Option (List ℕ)) (pending after : List ℕ) (count : ℕ) (cut : Option LineFault) (more : List ℕ)
      (r : Result Ended SessionFault) → HoldsWithBuffered (Answers s m i j count) o p pending → Consumes j k more → IsCut cut k more
      → IfOk r (λ e. IsEnd count cut e × Sends (pending ++ cut_line cut) after p q)
      → IfOk r (λ e. HoldsWithBuffered (λ a b. Ends answers_with s m i k a b e.lines e.cut) o q after)
  ends_all s m i j k o p q pending after count cut more (Err fault) w taken is h = tt
  ends_all s m i j k o p q pending after count cut more (Ok ended) w taken is h =
      still_holds_after_write (λ a b. Ends answers_with s m i k a b ended.lines ended.cut) o p q (pending ++ cut_line cut) after
      (ends_so s m i j k o p pending count cut more ended w taken is h.0) h.1

  module _ (drops : HandlerError → C × D → List ℕ → C × D → Type 0) where
    -- `Breaks` says that a failed session wrote a beginning of its answers. If it says so of a session that wrote
    -- `text`, then it also says so of one that wrote only `sent`, a beginning of `text`.
    part_out : (s m : C × D) (i k o q : Option (List ℕ)) (text sent lost : List ℕ) → Breaks answers_with drops s m i k (Some []) (Some text) → sent ++ lost ≡ text
        → Appends o q sent → Breaks answers_with drops s m i k o q
    part_out s m i k o q text sent lost b in_order out = record {
      lines = b.lines;
      texts = b.texts;
      each = b.each;
      answered = b.answered;
      all_answered = b.all_answered;
      rest = b.rest;
      dropped = b.dropped;
      taken = b.taken;
      cut = b.cut;
      is_cut = b.is_cut;
      front = sent;
      after = lost ++ b.after;
      written = out;
      begins = b.begins ∙ ap (λ (t : List ℕ). t ++ b.after) (sym b.written ∙ sym in_order) ∙ append_assoc sent lost b.after;
    }

    breaks_part : (s m : C × D) (i k o p q : Option (List ℕ)) (pending lost : List ℕ) → HoldsWithBuffered (Breaks answers_with drops s m i k) o p pending → Sends pending lost p q
        → Breaks answers_with drops s m i k o q
    breaks_part s m i k o p q pending lost w sends =
        let x = still_holds_after_write (Breaks answers_with drops s m i k) o p q pending lost w sends in part_out s m i k o q (x.sent ++ lost) x.sent lost x.as_if_out refl x.out

    breaks_so : (s m : C × D) (i j k o p : Option (List ℕ)) (pending : List ℕ) (count : ℕ) (more : List ℕ) → HoldsWithBuffered (Answers s m i j count) o p pending
        → Consumes j k more → IsUpToLine more → HoldsWithBuffered (Breaks answers_with drops s m i k) o p pending
    breaks_so s m i j k o p pending count more w taken is =
        record { sent = w.sent; as_if_out = breaks_here answers_with drops s m i j (Some []) (Some (w.sent ++ pending)) count k more w.as_if_out taken is; out = w.out }

    -- if the lines so far were answered, and a write of the buffered answers fails after it has written a beginning of
    -- them, then a beginning of the session's answers was written, as `Breaks` says of a failed session
    pub breaks_gone : (s m : C × D) (i j o p q : Option (List ℕ)) (pending : List ℕ) (count : ℕ) → HoldsWithBuffered (Answers s m i j count) o p pending
        → (lost : List ℕ) × Sends pending lost p q → Breaks answers_with drops s m i j o q
    breaks_gone s m i j o p q pending count w e =
        breaks_part s m i j o p q pending e.0 (breaks_so s m i j j o p pending count [] w (consumes_none j) (inl is_line_empty)) e.1

    ends_broken : (s m : C × D) (i k o p : Option (List ℕ)) (count : ℕ) (cut : Option LineFault) → Ends answers_with s m i k o p count cut
        → Breaks answers_with drops s m i k o p
    ends_broken s m i k o p count cut e = record {
      lines = e.answering.lines;
      texts = e.answering.texts;
      each = e.answering.each;
      answered = m;
      all_answered = e.answering.all_answered;
      rest = e.rest;
      dropped = inl refl;
      taken = e.answering.taken;
      cut = cut;
      is_cut = is_answered cut k e.rest e.is_cut;
      front = all_texts e.answering.texts ++ cut_line cut;
      after = [];
      written = e.answering.written;
      begins = sym (append-nil (all_texts e.answering.texts ++ cut_line cut));
    }

    pub ends_part : (s m : C × D) (i k o p q : Option (List ℕ)) (pending : List ℕ) (count : ℕ) (cut : Option LineFault)
        → HoldsWithBuffered (λ a b. Ends answers_with s m i k a b count cut) o p pending → (lost : List ℕ) × Sends pending lost p q → Breaks answers_with drops s m i k o q
    ends_part s m i k o p q pending count cut w e =
        breaks_part s m i k o p q pending e.0
        (record { sent = w.sent; as_if_out = ends_broken s m i k (Some []) (Some (w.sent ++ pending)) count cut w.as_if_out; out = w.out }) e.1

    pub breaks_cut_off : (s m : C × D) (i j k o p q : Option (List ℕ)) (pending : List ℕ) (count : ℕ) (cut : Option LineFault) (more : List ℕ)
        (r : Result Ended SessionFault) → HoldsWithBuffered (Answers s m i j count) o p pending → Consumes j k more → IsCut cut k more
        → OnErr r ((lost : List ℕ) × Sends (pending ++ cut_line cut) lost p q) → OnErr r (Breaks answers_with drops s m i k o q)
    breaks_cut_off s m i j k o p q pending count cut more (Ok ended) w taken is h = tt
    breaks_cut_off s m i j k o p q pending count cut more (Err e) w taken is h =
        ends_part s m i k o p q (pending ++ cut_line cut) (count + cut_count cut) cut
        (ends_so s m i j k o p pending count cut more (record { lines = count + cut_count cut; cut = cut }) w taken is (record { lines_are = refl; cut_is = refl })) h

    module _ (needs_memory : List ℕ → Type 0) where
      -- if the lines so far were answered, and the next line couldn't be read whole because of this fault (zero or more
      -- of its bytes were read, but not its LF), then the session failed with this fault, and its answers are the
      -- written and the buffered bytes together (`Stops`)
      pub stops_read : (fault : InputFault) (s m : C × D) (i j k o p : Option (List ℕ)) (pending : List ℕ) (count : ℕ) (more : List ℕ)
          → HoldsWithBuffered (Answers s m i j count) o p pending → Consumes j k more → IsLine more
          → HoldsWithBuffered (Stops answers_with drops needs_memory (fault_of_input fault) s m i k) o p pending
      stops_read fault s m i j k o p pending count more w taken line = record {
        sent = w.sent;
        as_if_out = stops_here answers_with drops needs_memory fault s m i j (Some []) (Some (w.sent ++ pending)) count k more w.as_if_out taken line;
        out = w.out;
      }

      -- if the lines so far were answered, and the next line was read and left without an answer, then the session failed
      -- at this line, and its answers are the written and the buffered bytes together (`Stops`)
      pub stops_left_held : (fault : HandlerError) (s m s' : C × D) (i j k o p : Option (List ℕ)) (pending : List ℕ) (count : ℕ) (l : List ℕ)
          → HoldsWithBuffered (Answers s m i j count) o p pending → IsLine l → Consumes j k (l ++ 10 ∷ []) → LeavesLine drops needs_memory fault m l s'
          → HoldsWithBuffered (Stops answers_with drops needs_memory (fault_of_handler fault) s s' i k) o p pending
      stops_left_held fault s m s' i j k o p pending count l w whole taken a = record {
        sent = w.sent;
        as_if_out = stops_left answers_with drops needs_memory fault s m s' i j k (Some []) (Some (w.sent ++ pending)) count l w.as_if_out whole taken a;
        out = w.out;
      }

      -- If a session failed, but no write failed, and its answers are the written and the buffered bytes together
      -- (`Stops`), then `StopsAtDoor` holds once all buffered bytes are written. If a read failed, it holds whatever
      -- beginning of these bytes is written, since it then promises only a beginning of the answers.
      pub stops_at_door : (fault : SessionFault) (s m : C × D) (i k o p q : Option (List ℕ)) (pending after : List ℕ)
          → HoldsWithBuffered (Stops answers_with drops needs_memory fault s m i k) o p pending → Sends pending after p q → (fault ≢ session.Read → after ≡ [])
          → StopsAtDoor answers_with drops needs_memory fault s m i k o q
      unfolding part_out
      stops_at_door fault s m i k o p q pending after w sends all =
          let x = still_holds_after_write (Stops answers_with drops needs_memory fault s m i k) o p q pending after w sends in
          (part_out s m i k o q (x.sent ++ after) x.sent after x.as_if_out.0 refl x.out, x.as_if_out.1, λ other. ap₂ (λ (a b : List ℕ). a ++ b) (all other) x.as_if_out.2, x.as_if_out.3)

      pub stops_part : (fault : SessionFault) (s m : C × D) (i k o p q : Option (List ℕ)) (pending : List ℕ) → HoldsWithBuffered (Stops answers_with drops needs_memory fault s m i k) o p pending
          → (lost : List ℕ) × Sends pending lost p q → Breaks answers_with drops s m i k o q
      stops_part fault s m i k o p q pending w e =
          breaks_part s m i k o p q pending e.0 (record { sent = w.sent; as_if_out = w.as_if_out.0; out = w.out }) e.1

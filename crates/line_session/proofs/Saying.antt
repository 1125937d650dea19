-- A session fulfils its promises. After each line, all lines so far are answered (`AnswersLines`). At its end, all
-- lines are (`Ends`). If it fails, a beginning of its answers was written (`Breaks`), and all of them if no write
-- failed (`Stops`).
use Rattle.std.proofs.Common.{◌≡◌, ℕ, ◌+◌, List, [], ◌∷◌, ◌++◌, take, drop, Option, Some, None, Result, Ok, Err, IfOk, OnErr, refl, sym, ◌∙◌, ap, subst, arith, append_assoc, append-nil}
use Rattle.std.proofs.Common.{length-append, inl, inr}
use Rattle.std.specs.List.{flat_map, AllByRecursion}
use Rattle.std.specs.Io.KnownBytes.{Consumes, Appends}
use Rattle.std.proofs.lemmas.List.{take-append-drop}
use Rattle.till_request.proofs.Taken.{consumes_more, appends_more}
use Rattle.till_request.specs.declared.act.LineFault.{LineFault}
use Rattle.till_request.specs.Line.{IsLine}
use Rattle.line_session.specs.declared.line_handler.HandlerError.{HandlerError}
use Rattle.line_session.specs.declared.line_handler.HandlerError.TheVariants as error
use Rattle.line_session.specs.declared.answering.Ended.{Ended}
use Rattle.line_session.specs.declared.answering.SessionFault.{SessionFault}
use Rattle.line_session.specs.declared.answering.SessionFault.TheVariants as session
use Rattle.till_request.specs.declared.line.InputFault.{InputFault}
use Rattle.till_request.specs.declared.line.InputFault.TheVariants as input
use Rattle.line_session.specs.Deciding.{LeavesLine}
use Rattle.line_session.specs.Faults.{fault_of_handler, fault_of_input}
use Rattle.line_session.specs.Found.{IsEnd}
use Rattle.line_session.specs.Answering.{HandlerFails, WritesAnswerFront, with_lf, WritesAnswer, AnswersAll, AnswersLines, IsCut, AnswersCut, IsUpToLine, Ends, Breaks, Stops, StopsFor, cut_line, cut_count}

pub is_line_empty : IsLine []
is_line_empty = (tt, omega arith)

pub is_answered : (cut : Option LineFault) (now : Option (List ℕ)) (rest : List ℕ) → IsCut cut now rest → AnswersCut cut now rest
is_answered None now rest h = subst IsUpToLine (sym h.0) (inl is_line_empty)
is_answered (Some fault) now rest h = h

abbrev same : List ℕ → List ℕ
same t = t

pub consumes_none : (known : Option (List ℕ)) → Consumes known known []
consumes_none None = tt
consumes_none (Some xs) = refl

pub appends_none : (known : Option (List ℕ)) → Appends known known []
appends_none None = tt
appends_none (Some xs) = sym (append-nil xs)

pub lines_more : (P : List ℕ → Type 0) (ls : List (List ℕ)) (l : List ℕ) → AllByRecursion P ls → P l → AllByRecursion P (ls ++ l ∷ [])
lines_more P [] l h p = (p, tt)
lines_more P (k ∷ ls) l h p = (h.0, lines_more P ls l h.1 p)

pub flat_more : {A : Type 0} (f : A → List ℕ) (xs : List A) (x : A) → flat_map f (xs ++ x ∷ []) ≡ flat_map f xs ++ f x
flat_more f [] x = append-nil (f x)
flat_more f (y ∷ xs) x = ap (λ t. f y ++ t) (flat_more f xs x) ∙ sym (append_assoc (f y) (flat_map f xs) (f x))

module _ {C D : Type 0} (answers_with : C × D → List ℕ → List ℕ → C × D → Type 0) where
  says_more : (ls : List (List ℕ)) (l : List ℕ) (s : C × D) (texts : List (List ℕ)) (text : List ℕ) (m s' : C × D)
      → AnswersAll answers_with ls s texts m → answers_with m l text s' → AnswersAll answers_with (ls ++ l ∷ []) s (texts ++ text ∷ []) s'
  says_more [] l s [] text m s' h k = (s', rw (← h) k, refl)
  says_more [] l s (b ∷ texts) text m s' h k = absurd h
  says_more (x ∷ ls) l s [] text m s' h k = absurd h
  says_more (x ∷ ls) l s (b ∷ texts) text m s' h k = (h.0, h.1, says_more ls l h.0 texts text m s' h.2 k)

  pub talks_none : (s : C × D) (i o : Option (List ℕ)) → AnswersLines answers_with s s i i o o 0 [] []
  talks_none s i o = record { lines = []; texts = []; each = tt; all_answered = refl; taken = consumes_none i; written = appends_none o; counted = refl }

  pub talks_more : (s m s' : C × D) (i j k o p q : Option (List ℕ)) (count : ℕ) (l : List ℕ)
      → AnswersLines answers_with s m i j o p count [] [] → IsLine l → Consumes j k (l ++ 10 ∷ []) → WritesAnswer answers_with l m s' p q
      → AnswersLines answers_with s s' i k o q (count + 1) [] []
  talks_more s m s' i j k o p q count l t whole taken a = record {
    lines = t.lines ++ l ∷ [];
    texts = t.texts ++ a.text ∷ [];
    each = lines_more IsLine t.lines l t.each whole;
    all_answered = says_more t.lines l s t.texts a.text m s' t.all_answered a.is_answer;
    taken = rw (append-nil, flat_more with_lf t.lines l) (consumes_more i j k (flat_map with_lf t.lines) (with_lf l) (rw append-nil at t.taken) taken);
    written = rw (append-nil, flat_more same t.texts a.text) (appends_more o p q (flat_map same t.texts) a.text (rw append-nil at t.written) a.written);
    counted = omega (arith, length-append t.texts (a.text ∷ []), t.counted);
  }

  -- If the lines so far were answered, and the input has ended or the next line is too long or has no LF, then a result
  -- without an error means that the session ended with all its answers written (`Ends`). With such a result, the answer
  -- to the fault of that line, if there is one, must have been written.
  pub ends_said : (s m : C × D) (i j k o p q : Option (List ℕ)) (count : ℕ) (cut : Option LineFault) (more : List ℕ) (r : Result Ended SessionFault)
      → AnswersLines answers_with s m i j o p count [] [] → Consumes j k more → IsCut cut k more → IfOk r (λ e. IsEnd count cut e × Appends p q (cut_line cut))
      → IfOk r (λ e. Ends answers_with s m i k o q e.lines e.cut)
  ends_said s m i j k o p q count cut more (Err fault) t taken is h = tt
  ends_said s m i j k o p q count cut more (Ok ended) t taken is h =
      let P : ℕ → Type 0 = λ n. Ends answers_with s m i k o q n ended.cut in
      let Q : Option LineFault → Type 0 = λ c. Ends answers_with s m i k o q (count + cut_count cut) c in
      subst P (sym h.0.lines_are) (subst Q (sym h.0.cut_is) record {
        answered = count;
        rest = more;
        answering = record {
          lines = t.lines;
          texts = t.texts;
          each = t.each;
          all_answered = t.all_answered;
          taken = consumes_more i j k (flat_map with_lf t.lines) more (rw append-nil at t.taken) taken;
          written = appends_more o p q (flat_map same t.texts) (cut_line cut) (rw append-nil at t.written) h.1;
          counted = t.counted;
        };
        is_cut = is;
        counted = refl;
      })

  module _ (drops : HandlerError → C × D → List ℕ → C × D → Type 0) where
    pub breaks_here : (s m : C × D) (i j o p : Option (List ℕ)) (count : ℕ) (k : Option (List ℕ)) (more : List ℕ)
        → AnswersLines answers_with s m i j o p count [] [] → Consumes j k more → IsUpToLine more → Breaks answers_with drops s m i k o p
    breaks_here s m i j o p count k more t taken is = record {
      lines = t.lines;
      texts = t.texts;
      each = t.each;
      answered = m;
      all_answered = t.all_answered;
      rest = more;
      dropped = inl refl;
      taken = consumes_more i j k (flat_map with_lf t.lines) more (rw append-nil at t.taken) taken;
      cut = None;
      is_cut = is;
      front = flat_map same t.texts;
      after = [];
      written = rw append-nil at t.written;
      begins = refl;
    }

    -- if the lines so far were answered, and the next line was read and dropped (left without an answer), then the
    -- session failed, and a beginning of its answers was written (`Breaks`)
    dropped_next : (why : HandlerError) (s m s' : C × D) (i j k o p : Option (List ℕ)) (count : ℕ) (l : List ℕ)
        → AnswersLines answers_with s m i j o p count [] [] → IsLine l → Consumes j k (l ++ 10 ∷ []) → drops why m l s' → Breaks answers_with drops s s' i k o p
    dropped_next why s m s' i j k o p count l t whole taken d = record {
      lines = t.lines;
      texts = t.texts;
      each = t.each;
      answered = m;
      all_answered = t.all_answered;
      rest = l ++ 10 ∷ [];
      dropped = inr (why, (l, whole, refl, d));
      taken = consumes_more i j k (flat_map with_lf t.lines) (with_lf l) (rw append-nil at t.taken) taken;
      cut = None;
      is_cut = inr (l, whole, refl);
      front = flat_map same t.texts;
      after = [];
      written = rw append-nil at t.written;
      begins = refl;
    }

    breaks_half : (s m s' : C × D) (i j k o p q : Option (List ℕ)) (count : ℕ) (l : List ℕ)
        → AnswersLines answers_with s m i j o p count [] [] → IsLine l → Consumes j k (l ++ 10 ∷ []) → WritesAnswerFront answers_with l m s' p q
        → Breaks answers_with drops s s' i k o q
    breaks_half s m s' i j k o p q count l t whole taken a = record {
      lines = t.lines ++ l ∷ [];
      texts = t.texts ++ a.text ∷ [];
      each = lines_more IsLine t.lines l t.each whole;
      answered = s';
      all_answered = says_more t.lines l s t.texts a.text m s' t.all_answered a.is_answer;
      rest = [];
      dropped = inl refl;
      taken = rw (append-nil, flat_more with_lf t.lines l) (consumes_more i j k (flat_map with_lf t.lines) (with_lf l) (rw append-nil at t.taken) taken);
      cut = None;
      is_cut = inl is_line_empty;
      front = flat_map same t.texts ++ take a.kept a.text;
      after = drop a.kept a.text;
      written = appends_more o p q (flat_map same t.texts) (take a.kept a.text) (rw append-nil at t.written) a.written;
      begins = rw (append-nil, flat_more same t.texts a.text, append_assoc) (ap (λ x. flat_map same t.texts ++ x) (sym (take-append-drop a.kept a.text)));
    }

    -- if the lines so far were answered, and the session ended without a whole line, then it failed if only a beginning
    -- of the answer to the last line's fault was written
    pub breaks_end : (s m : C × D) (i j k o p q : Option (List ℕ)) (count : ℕ) (cut : Option LineFault) (more : List ℕ) (r : Result Ended SessionFault)
        → AnswersLines answers_with s m i j o p count [] [] → Consumes j k more → IsCut cut k more
        → OnErr r ((n : ℕ) × Appends p q (take n (cut_line cut))) → OnErr r (Breaks answers_with drops s m i k o q)
    breaks_end s m i j k o p q count cut more (Ok ended) t taken is h = tt
    breaks_end s m i j k o p q count cut more (Err e) t taken is h = record {
      lines = t.lines;
      texts = t.texts;
      each = t.each;
      answered = m;
      all_answered = t.all_answered;
      rest = more;
      dropped = inl refl;
      taken = consumes_more i j k (flat_map with_lf t.lines) more (rw append-nil at t.taken) taken;
      cut = cut;
      is_cut = is_answered cut k more is;
      front = flat_map same t.texts ++ take h.0 (cut_line cut);
      after = drop h.0 (cut_line cut);
      written = appends_more o p q (flat_map same t.texts) (take h.0 (cut_line cut)) (rw append-nil at t.written) h.1;
      begins = rw append_assoc (ap (λ x. flat_map same t.texts ++ x) (sym (take-append-drop h.0 (cut_line cut))));
    }

    -- if reading the next line failed with this fault after `more`, at most a beginning of the line, then this is why
    -- the session failed (`StopsFor`)
    stops_reading : (needs_memory : List ℕ → Type 0) (fault : InputFault) (s : C × D) (more : List ℕ) → IsLine more
        → StopsFor drops needs_memory (fault_of_input fault) s s more
    stops_reading needs_memory input.Read s more line = (refl, line)
    stops_reading needs_memory input.ReadsSpent s more line = (refl, line)
    stops_reading needs_memory input.OutOfMemory s more line = inl (refl, line)

    -- if the lines so far were answered, and reading the next line failed with this fault after at most a beginning of
    -- it, then the session failed with this fault, and all its answers were written whole (`Stops`)
    pub stops_here : (needs_memory : List ℕ → Type 0) (fault : InputFault) (s m : C × D) (i j o p : Option (List ℕ)) (count : ℕ) (k : Option (List ℕ))
        (more : List ℕ) → AnswersLines answers_with s m i j o p count [] [] → Consumes j k more → IsLine more
        → Stops answers_with drops needs_memory (fault_of_input fault) s m i k o p
    unfolding breaks_here
    stops_here needs_memory fault s m i j o p count k more t taken line =
        (breaks_here s m i j o p count k more t taken (inl line), refl, refl, stops_reading needs_memory fault m more line)

    -- if the lines so far were answered, and the next line was read and left without an answer, then the session failed
    -- at this line, and all its answers were written whole (`Stops`)
    pub stops_left : (needs_memory : List ℕ → Type 0) (fault : HandlerError) (s m s' : C × D) (i j k o p : Option (List ℕ)) (count : ℕ) (l : List ℕ)
        → AnswersLines answers_with s m i j o p count [] [] → IsLine l → Consumes j k (l ++ 10 ∷ []) → LeavesLine drops needs_memory fault m l s'
        → Stops answers_with drops needs_memory (fault_of_handler fault) s s' i k o p
    unfolding breaks_here dropped_next
    stops_left needs_memory error.Write s m s' i j k o p count l t whole taken left = absurd left
    stops_left needs_memory error.OutOfMemory s m s' i j k o p count l t whole taken (inl load) =
        rw load.1 (breaks_here s m i j o p count k (l ++ 10 ∷ []) t taken (inr (l, whole, refl)), refl, refl, inr (l, whole, refl, inl (refl, load.0)))
    stops_left needs_memory error.OutOfMemory s m s' i j k o p count l t whole taken (inr dropped) =
        (dropped_next error.OutOfMemory s m s' i j k o p count l t whole taken dropped, refl, refl, inr (l, whole, refl, inr dropped))
    stops_left needs_memory error.Journal s m s' i j k o p count l t whole taken dropped =
        (dropped_next error.Journal s m s' i j k o p count l t whole taken dropped, refl, refl, (l, whole, refl, dropped))
    stops_left needs_memory error.NextDay s m s' i j k o p count l t whole taken dropped =
        (dropped_next error.NextDay s m s' i j k o p count l t whole taken dropped, refl, refl, (l, whole, refl, dropped))

    module _ {O : Type 0} (out : O → Option (List ℕ)) (s m s' : C × D) (i j k o : Option (List ℕ)) (p q : O) (count : ℕ) (l : List ℕ)
        (t : AnswersLines answers_with s m i j o (out p) count [] []) (whole : IsLine l) (taken : Consumes j k (l ++ 10 ∷ [])) (needs_memory : List ℕ → Type 0) where
      pub stops_line : (fault : HandlerError) → HandlerFails answers_with drops needs_memory out fault l m s' p q → ¬ (fault_of_handler fault ≡ session.Write)
          → Stops answers_with drops needs_memory (fault_of_handler fault) s s' i k o (out q)
      stops_line error.Write a other = absurd (other refl)
      stops_line error.OutOfMemory (inl a) other = rw a.output (stops_left needs_memory error.OutOfMemory s m s' i j k o (out p) count l t whole taken (inl (a.needs_it, a.state)))
      stops_line error.OutOfMemory (inr a) other = rw a.output (stops_left needs_memory error.OutOfMemory s m s' i j k o (out p) count l t whole taken (inr a.drops_it))
      stops_line error.Journal a other = rw a.output (stops_left needs_memory error.Journal s m s' i j k o (out p) count l t whole taken a.drops_it)
      stops_line error.NextDay a other = rw a.output (stops_left needs_memory error.NextDay s m s' i j k o (out p) count l t whole taken a.drops_it)

      pub breaks_line : (fault : HandlerError) → HandlerFails answers_with drops needs_memory out fault l m s' p q → Breaks answers_with drops s s' i k o (out q)
      breaks_line error.Write a = breaks_half s m s' i j k o (out p) (out q) count l t whole taken a
      breaks_line error.OutOfMemory a = (stops_line error.OutOfMemory a (λ is. absurd (cc))).0
      breaks_line error.Journal a = (stops_line error.Journal a (λ is. absurd (cc))).0
      breaks_line error.NextDay a = (stops_line error.NextDay a (λ is. absurd (cc))).0

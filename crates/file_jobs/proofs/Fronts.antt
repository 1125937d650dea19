-- If a play fails, what it wrote is a beginning of its answers, perhaps an empty one.
use Rattle.std.proofs.Common.{◌≡◌, ℕ, List, [], ◌∷◌, ◌++◌, length, take, Option, None, Result, Ok, Err, OnErr, IfOk, IfErr, inl, refl, sym, ◌∙◌, ap, subst}
use Rattle.std.specs.Io.KnownBytes.{Appends}
use Rattle.decision_journal.specs.Writing.{AppendsFront}
use Rattle.line_session.specs.declared.answering.Ended.{Ended}
use Rattle.line_session.specs.declared.answering.SessionFault.{SessionFault}
use Rattle.line_session.specs.declared.answering.SessionFault.TheVariants as session
use Rattle.line_session.specs.declared.line_handler.HandlerError.{HandlerError}
use Rattle.line_session.specs.declared.line_handler.HandlerError.TheVariants as error
use Rattle.line_session.specs.Answering.{Breaks, Ends, HandlerFails, Stops, drops_none}
use Rattle.site_core.specs.Site.{SiteValue}
use Rattle.file_jobs.specs.Play.{AnswersScriptLine, PlayEnds, PlayBreaks, PlayStops, TakesMemory}
use Rattle.line_session.proofs.Saying.{consumes_none, appends_none, is_line_empty}

take_front : (ws rest : List ℕ) → take (length ws) (ws ++ rest) ≡ ws
take_front [] rest = refl
take_front (w ∷ ws) rest = ap (λ t. w ∷ t) (take_front ws rest)

pub front_taken : (a b : Option (List ℕ)) (text : List ℕ) → AppendsFront a b text → (k : ℕ) × Appends a b (take k text)
front_taken a b text h =
    let P : List ℕ → Type 0 = λ t. Appends a b t in
    (length h.front, subst P (sym (ap (take (length h.front)) h.begins ∙ take_front h.front h.after)) h.written)

pub breaks_none : {S : Type 0} (answers_with : S → List ℕ → List ℕ → S → Type 0) (drops : HandlerError → S → List ℕ → S → Type 0) (s : S) (i o : Option (List ℕ))
    → Breaks answers_with drops s s i i o o
breaks_none answers_with drops s i o = record {
  lines = [];
  texts = [];
  each = tt;
  answered = s;
  all_answered = refl;
  rest = [];
  dropped = inl refl;
  taken = consumes_none i;
  cut = None;
  is_cut = inl is_line_empty;
  front = [];
  after = [];
  written = appends_none o;
  begins = refl;
}

pub said_from : {E : Type 0} (r : Result Ended E) (a b : SiteValue) (m : ℕ) (left : SiteValue) (i j o p : Option (List ℕ)) → a ≡ b
    → IfOk r (λ e. Ends AnswersScriptLine (0, a) (m, left) i j o p e.lines e.cut) → IfOk r (λ e. PlayEnds b i j o p e.lines e.cut)
said_from (Ok e) a b m left i j o p same h =
    let P : SiteValue → Type 0 = λ s. Ends AnswersScriptLine (0, s) (m, left) i j o p e.lines e.cut in record { moment = m; left = left; ends = subst P same h }
said_from (Err e) a b m left i j o p same h = tt

pub broken_from : {T E : Type 0} (r : Result T E) (a b : SiteValue) (m : ℕ) (left : SiteValue) (i j o p : Option (List ℕ)) → a ≡ b
    → OnErr r (Breaks AnswersScriptLine drops_none (0, a) (m, left) i j o p) → OnErr r (PlayBreaks b i j o p)
broken_from (Ok x) a b m left i j o p same h = tt
broken_from (Err e) a b m left i j o p same h =
    let P : SiteValue → Type 0 = λ s. Breaks AnswersScriptLine drops_none (0, s) (m, left) i j o p in record { moment = m; left = left; breaks = subst P same h }

pub stops_none : {S : Type 0} (answers_with : S → List ℕ → List ℕ → S → Type 0) (drops : HandlerError → S → List ℕ → S → Type 0) (needs_memory : List ℕ → Type 0) (s : S)
    (i o : Option (List ℕ)) → Stops answers_with drops needs_memory session.OutOfMemory s s i i o o
unfolding breaks_none
stops_none answers_with drops needs_memory s i o = (breaks_none answers_with drops s i o, refl, refl, inl (refl, is_line_empty))

pub stopped_from : {T : Type 0} (r : Result T SessionFault) (a b : SiteValue) (m : ℕ) (left : SiteValue) (i j o p : Option (List ℕ)) → a ≡ b
    → IfErr r (λ e. ¬ (e ≡ session.Write) → Stops AnswersScriptLine drops_none TakesMemory e (0, a) (m, left) i j o p)
    → IfErr r (λ e. ¬ (e ≡ session.Write) → PlayStops e b i j o p)
stopped_from (Ok x) a b m left i j o p same h = tt
stopped_from (Err e) a b m left i j o p same h =
    let P : SiteValue → Type 0 = λ s. Stops AnswersScriptLine drops_none TakesMemory e (0, s) (m, left) i j o p in
    λ other. record { moment = m; left = left; stops = subst P same (h other) }

-- no play ends with the fault `Journal`, since no line of a play is dropped because of a failed journal
pub no_journal : {T : Type 0} (r : Result T SessionFault) (a : SiteValue) (m : ℕ) (left : SiteValue) (i j o p : Option (List ℕ))
    → IfErr r (λ e. ¬ (e ≡ session.Write) → Stops AnswersScriptLine drops_none TakesMemory e (0, a) (m, left) i j o p) → ¬ (r ≡ Err session.Journal)
no_journal (Ok x) a m left i j o p h is = absurd (cc)
no_journal (Err session.Read) a m left i j o p h is = absurd (cc)
no_journal (Err session.Write) a m left i j o p h is = absurd (cc)
no_journal (Err session.ReadsSpent) a m left i j o p h is = absurd (cc)
no_journal (Err session.OutOfMemory) a m left i j o p h is = absurd (cc)
no_journal (Err session.NextDay) a m left i j o p h is = absurd (cc)
no_journal (Err session.Journal) a m left i j o p h is = (h (λ e. absurd (cc))).3.3

-- If `text` is an answer to `line`, and writing it fails with the error `Write` after a beginning of it was written
-- (perhaps an empty one), then the handler of the line may return this error (`HandlerFails`).
module _ {S O : Type 0} (out : O → Option (List ℕ)) (answers_with : S → List ℕ → List ℕ → S → Type 0) (line text : List ℕ) (s s' : S) (o o' : O)
    (all_answered : answers_with s line text s') (needs_memory : List ℕ → Type 0) where
  pub falls_short : {T : Type 0} (r : Result T HandlerError) → OnErr r ((k : ℕ) × Appends (out o) (out o') (take k text)) → IfErr r (λ e. e ≡ error.Write)
      → IfErr r (λ e. HandlerFails answers_with drops_none needs_memory out e line s s' o o')
  falls_short (Ok x) w is = tt
  falls_short (Err error.Write) w is = record { text = text; is_answer = all_answered; kept = w.0; written = w.1 }
  falls_short (Err error.OutOfMemory) w is = absurd (cc)
  falls_short (Err error.Journal) w is = absurd (cc)
  falls_short (Err error.NextDay) w is = absurd (cc)

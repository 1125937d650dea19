-- A play is a run of a script, which answers the script's lines at a site. Two plays of the same bytes that start from
-- the same site and with the same output, and that end without a failure, write the same answers and leave the same
-- moment and site, if neither answers that memory ran out.
use Rattle.std.proofs.Common.{◌≡◌, ℕ, List, [], ◌∷◌, ◌++◌, codes, Option, Some, None, Result, Ok, Err, refl, sym, ◌∙◌, ap, ap₂}
use Rattle.std.specs.Fmt.{decimal}
use Rattle.verifier.specs.declared.refusal.Refusal.{Refusal}
use Rattle.verifier.specs.declared.refusal.Refusal.TheVariants as refusals
use Rattle.verifier.specs.Refusals.{Numbers, refusal_numbers}
use Rattle.verifier.specs.RefusedPrograms.{IsRefusal, refusal_of}
use Rattle.bpf_model.specs.Program.{ProgramText, as_loaded}
use Rattle.till_request.specs.declared.act.Act.{Act}
use Rattle.till_request.specs.declared.act.Act.TheVariants as acts
use Rattle.till_request.specs.declared.act.Answer.{Answer}
use Rattle.till_request.specs.declared.act.Answer.TheVariants as answers
use Rattle.till_request.specs.declared.act.LineFault.{LineFault}
use Rattle.till_request.specs.declared.look.LookAt.{LookAt}
use Rattle.till_request.specs.declared.look.Seen.{Seen}
use Rattle.till_request.specs.declared.look.Seen.TheVariants as seen
use Rattle.till_request.specs.Answer.{answer_line, reply_text}
use Rattle.till_request.specs.Looks.{day_text, numbers_text, rows_text, seen_text}
use Rattle.site_core.specs.Sights.{SeenValue, day_is, reply_is, prices_are, unpaid_rows, rule_rows, counter_rows, seen_value}
use Rattle.site_core.specs.Site.{SiteValue}
use Rattle.line_session.specs.ReadSizes.{IsOutOfMemoryText, IsDetermined}
use Rattle.line_session.proofs.Cutting.{cuts_alike}
use Rattle.file_jobs.specs.declared.script.ScriptLine.{ScriptLine}
use Rattle.file_jobs.specs.declared.script.ScriptLine.TheVariants as lines
use Rattle.file_jobs.specs.Script.{line_of}
use Rattle.file_jobs.specs.Play.{EventAnswered, IsAccepted, LoadAnswered, load_of, ActAnswered, IsLineAnswerText, IsLookText, AnswersScriptLine, PlaysAlike}

second : {A B : Type 0} → A × B → B
second p = p.1

event_alike : (old : SiteValue) (moment : ℕ) (act : Act) (a b : Answer) (new other : SiteValue) → EventAnswered old moment act a new
    → EventAnswered old moment act b other
    → ¬ (a ≡ answers.OutOfMemory) → ¬ (b ≡ answers.OutOfMemory) → (a ≡ b) × (new ≡ other)
event_alike old moment act (answers.Entered number reply) (answers.Entered n r) new other h k p q =
    (ap₂ (λ x y. answers.Entered x y) (h.1.number_is ∙ sym k.1.number_is) (h.1.reply_is ∙ sym k.1.reply_is), h.1.site_is ∙ sym k.1.site_is)
event_alike old moment act (answers.Entered number reply) answers.JournalFull new other h k p q = absurd (h.0 k.0)
event_alike old moment act (answers.Entered number reply) answers.OutOfMemory new other h k p q = absurd (q refl)
event_alike old moment act (answers.Entered number reply) (answers.Line fault) new other h k p q = absurd k
event_alike old moment act (answers.Entered number reply) (answers.Program n u t) new other h k p q = absurd k
event_alike old moment act (answers.Entered number reply) answers.JournalFailed new other h k p q = absurd k
event_alike old moment act answers.JournalFull (answers.Entered n r) new other h k p q = absurd (k.0 h.0)
event_alike old moment act answers.JournalFull answers.JournalFull new other h k p q = (refl, h.1 ∙ sym k.1)
event_alike old moment act answers.JournalFull answers.OutOfMemory new other h k p q = absurd (q refl)
event_alike old moment act answers.JournalFull (answers.Line fault) new other h k p q = absurd k
event_alike old moment act answers.JournalFull (answers.Program n u t) new other h k p q = absurd k
event_alike old moment act answers.JournalFull answers.JournalFailed new other h k p q = absurd k
event_alike old moment act answers.OutOfMemory b new other h k p q = absurd (p refl)
event_alike old moment act (answers.Line fault) b new other h k p q = absurd h
event_alike old moment act (answers.Program n u t) b new other h k p q = absurd h
event_alike old moment act answers.JournalFailed b new other h k p q = absurd h

-- If `refusal` is the one in `wanted` or `OutOfMemory` (`IsRefusal`), and has numbers, then it is the one in `wanted`,
-- since `OutOfMemory` has no numbers.
wanted_is : (wanted : Option Refusal) (refusal : Refusal) (numbers : ℕ × (Option ℕ) × (Option ℕ)) → IsRefusal wanted refusal
    → refusal_numbers refusal ≡ Some numbers → wanted ≡ Some refusal
wanted_is wanted refusals.OutOfMemory numbers h e = absurd (cc)
wanted_is wanted (refusals.Decode fault) numbers h e = h
wanted_is wanted (refusals.Flow fault) numbers h e = h
wanted_is wanted (refusals.«Type» fault) numbers h e = h

some_alike : (x y : Numbers) → Some x ≡ Some y → x ≡ y
some_alike x y e = cc

module _ (old : SiteValue) (moment slot : ℕ) (text : ProgramText) where
  not_both : (number : ℕ) (unit part : Option ℕ) (other : SiteValue) → IsAccepted text
      → LoadAnswered old moment slot text (answers.Program number unit part) other → ⊥
  not_both number unit part other h k =
      let some : refusal_of text ≡ Some k.refusal = wanted_is (refusal_of text) k.refusal (number, unit, part) k.answers k.shown in
      let none : None ≡ Some k.refusal = sym h.accepted ∙ some in absurd (cc)

  load_alike : (a b : Answer) (new other : SiteValue) → LoadAnswered old moment slot text a new → LoadAnswered old moment slot text b other
      → ¬ (a ≡ answers.OutOfMemory) → ¬ (b ≡ answers.OutOfMemory) → (a ≡ b) × (new ≡ other)
  load_alike (answers.Entered number reply) (answers.Entered n r) new other h k p q =
      event_alike old moment (load_of slot text) (answers.Entered number reply) (answers.Entered n r) new other (second h) (second k) p q
  load_alike (answers.Entered number reply) answers.JournalFull new other h k p q =
      event_alike old moment (load_of slot text) (answers.Entered number reply) answers.JournalFull new other (second h) (second k) p q
  load_alike (answers.Entered number reply) answers.OutOfMemory new other h k p q = absurd (q refl)
  load_alike (answers.Entered number reply) (answers.Line fault) new other h k p q = absurd k
  load_alike (answers.Entered number reply) (answers.Program n u t) new other h k p q = absurd (not_both n u t other h.0 k)
  load_alike (answers.Entered number reply) answers.JournalFailed new other h k p q = absurd k
  load_alike answers.JournalFull (answers.Entered n r) new other h k p q =
      event_alike old moment (load_of slot text) answers.JournalFull (answers.Entered n r) new other (second h) (second k) p q
  load_alike answers.JournalFull answers.JournalFull new other h k p q =
      event_alike old moment (load_of slot text) answers.JournalFull answers.JournalFull new other (second h) (second k) p q
  load_alike answers.JournalFull answers.OutOfMemory new other h k p q = absurd (q refl)
  load_alike answers.JournalFull (answers.Line fault) new other h k p q = absurd k
  load_alike answers.JournalFull (answers.Program n u t) new other h k p q = absurd (not_both n u t other h.0 k)
  load_alike answers.JournalFull answers.JournalFailed new other h k p q = absurd k
  load_alike answers.OutOfMemory b new other h k p q = absurd (p refl)
  load_alike (answers.Line fault) b new other h k p q = absurd h
  load_alike answers.JournalFailed b new other h k p q = absurd h
  load_alike (answers.Program number unit part) (answers.Entered n r) new other h k p q = absurd (not_both number unit part new k.0 h)
  load_alike (answers.Program number unit part) answers.JournalFull new other h k p q = absurd (not_both number unit part new k.0 h)
  load_alike (answers.Program number unit part) answers.OutOfMemory new other h k p q = absurd (q refl)
  load_alike (answers.Program number unit part) (answers.Line fault) new other h k p q = absurd k
  load_alike (answers.Program number unit part) answers.JournalFailed new other h k p q = absurd k
  load_alike (answers.Program number unit part) (answers.Program n u t) new other h k p q =
      let one : refusal_of text ≡ Some h.refusal = wanted_is (refusal_of text) h.refusal (number, unit, part) h.answers h.shown in
      let two : refusal_of text ≡ Some k.refusal = wanted_is (refusal_of text) k.refusal (n, u, t) k.answers k.shown in
      let same : h.refusal ≡ k.refusal = cc in
      let numbers : Numbers = (number, unit, part) in
      let others : Numbers = (n, u, t) in
      let alike : numbers ≡ others = some_alike numbers others (sym h.shown ∙ ap refusal_numbers same ∙ k.shown) in
      let e : number ≡ n = ap (λ (x : Numbers). x.0) alike in
      let f : unit ≡ u = ap (λ (x : Numbers). x.1) alike in
      let g : part ≡ t = ap (λ (x : Numbers). x.2) alike in
      (ap (λ x. answers.Program x unit part) e ∙ ap₂ (λ y z. answers.Program n y z) f g, h.same ∙ sym k.same)

act_alike : (old : SiteValue) (moment : ℕ) (act : Act) (a b : Answer) (new other : SiteValue) → ActAnswered old moment act a new
    → ActAnswered old moment act b other
    → ¬ (a ≡ answers.OutOfMemory) → ¬ (b ≡ answers.OutOfMemory) → (a ≡ b) × (new ≡ other)
act_alike old moment (acts.Till till request) a b new other h k p q = event_alike old moment (acts.Till till request) a b new other h k p q
act_alike old moment (acts.Dispenser point event) a b new other h k p q = event_alike old moment (acts.Dispenser point event) a b new other h k p q
act_alike old moment (acts.Load slot mask layout bytes) a b new other h k p q = load_alike old moment slot (as_loaded bytes mask layout) a b new other h k p q

-- What a look shows as text.
abbrev shown_text : SeenValue → List ℕ
shown_text (day_is number since) = day_text number since
shown_text (reply_is reply) = reply_text reply
shown_text (prices_are prices) = codes "prices " ++ numbers_text prices
shown_text (unpaid_rows rows) = codes "unpaid " ++ rows_text rows
shown_text (rule_rows rows) = codes "rules " ++ rows_text rows
shown_text (counter_rows rows) = codes "counters " ++ rows_text rows

by_value : (shown : Seen) → seen_text shown ≡ shown_text (seen_value shown)
by_value (seen.Day number since) = refl
by_value (seen.Reply reply) = refl
by_value (seen.Prices prices) = refl
by_value (seen.Unpaid rows) = refl
by_value (seen.Rules rows) = refl
by_value (seen.Counters rows) = refl

look_alike : (site : SiteValue) (look : LookAt) (text other : List ℕ) → IsLookText site look text → IsLookText site look other → text ≡ other
look_alike site look text other h k =
    let entries : h.sight.entries ≡ k.sight.entries = h.entries ∙ sym k.entries in
    let shown : seen_text h.sight.seen ≡ seen_text k.sight.seen = by_value h.sight.seen ∙ ap shown_text (h.seen ∙ sym k.seen) ∙ sym (by_value k.sight.seen) in
    h.text_is ∙ ap₂ (λ n t. decimal n ++ (codes " " ++ (t ++ 10 ∷ []))) entries shown ∙ sym k.text_is

line_alike : (line : Result ScriptLine LineFault) (s : ℕ × SiteValue) (text other : List ℕ) (m n : ℕ × SiteValue) → IsLineAnswerText line s text m
    → IsLineAnswerText line s other n
    → ¬ IsOutOfMemoryText text → ¬ IsOutOfMemoryText other → (text ≡ other) × (m ≡ n)
line_alike (Err fault) s text other m n h k w v = (h.0 ∙ sym k.0, h.1 ∙ sym k.1)
line_alike (Ok (lines.Act act)) s text other m n h k w v =
    let e = act_alike s.1 s.0 act h.0.answer k.0.answer m.1 n.1 h.0.answered k.0.answered (λ is. w (h.0.text_is ∙ ap answer_line is))
    (λ is. v (k.0.text_is ∙ ap answer_line is)) in
    (h.0.text_is ∙ ap answer_line e.0 ∙ sym k.0.text_is, ap₂ (λ x y. (x, y)) (h.1 ∙ sym k.1) e.1)
line_alike (Ok (lines.Moment moment)) s text other m n h k w v = (h.0 ∙ sym k.0, h.1 ∙ sym k.1)
line_alike (Ok (lines.Counter counter)) s text other m n h k w v = (h.0 ∙ sym k.0, h.1 ∙ sym k.1)
line_alike (Ok (lines.Look look)) s text other m n h k w v = (look_alike s.1 look text other h.0 k.0, h.1 ∙ sym k.1)
line_alike (Ok lines.Journal) s text other m n h k w v = (h.0 ∙ sym k.0, h.2 ∙ sym k.2)

plays_determined : IsDetermined AnswersScriptLine
plays_determined s line text other m n h k w v = line_alike (line_of line) s text other m n h k w v

pub plays_alike : PlaysAlike
plays_alike site bytes out out_t out_u in_t in_u count_t count_u cut_t cut_u one other w v =
    cuts_alike AnswersScriptLine plays_determined (0, site) (one.moment, one.left) (other.moment, other.left) bytes out out_t out_u in_t in_u count_t count_u cut_t
    cut_u one.ends other.ends w v

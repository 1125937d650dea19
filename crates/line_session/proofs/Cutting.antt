-- If two sessions have the same bytes in their inputs, and neither ends with a `SessionFault`, then both read the same
-- lines, and their last lines have the same fault (too long, or without an LF), or both have none.
use Rattle.std.proofs.Common.{◌≡◌, ℕ, ◌+◌, ◌<◌, ◌≤◌, List, [], ◌∷◌, ◌++◌, length, Option, Some, None, Result, Ok, Err, refl, sym, ◌∙◌, ap, ap₂, subst, arith}
use Rattle.std.proofs.Common.{append_assoc, length-append}
use Rattle.std.specs.List.{AllByRecursion}
use Rattle.till_request.specs.Line.{HasNoLf, IsLine}
use Rattle.till_request.specs.declared.act.LineFault.{LineFault}
use Rattle.till_request.specs.declared.act.LineFault.TheVariants as line
use Rattle.till_request.specs.declared.act.Act.{Act}
use Rattle.till_request.specs.declared.act.Role.{Role}
use Rattle.till_request.specs.declared.act.Answer.{Answer}
use Rattle.till_request.specs.declared.act.Answer.TheVariants.{OutOfMemory}
use Rattle.till_request.specs.declared.look.LookAt.{LookAt}
use Rattle.till_request.specs.declared.look.Asked.{Asked}
use Rattle.till_request.specs.declared.look.Asked.TheVariants as asks
use Rattle.till_request.specs.Looks.{line_asked}
use Rattle.line_session.specs.Session.{AnswersAsked, LineAnswer, desk_answers, line_of}
use Rattle.line_session.specs.Answering.{with_lf, all_lines, all_texts, AnswersAll, IsCut, cut_line, cut_count}
use Rattle.line_session.specs.ReadSizes.{NoneIsOutOfMemoryText, IsDetermined, IsIndependentOfReadSizes, IsClockDetermined, IsDeskDetermined}

-- if bytes begin with `r`, which has no LF, then their first LF isn't within `r`
no_lf_within : (r k rest x : List ℕ) → HasNoLf r → length k < length r → r ++ rest ≡ k ++ 10 ∷ x → ⊥
no_lf_within [] k rest x h l e = absurd (omega (arith, l))
no_lf_within (b ∷ r) [] rest x h l e = h.0 (cc)
no_lf_within (b ∷ r) (c ∷ k) rest x h l e = no_lf_within r k rest x h.1 (omega (arith, l)) (cc)

-- bytes can be split at their first LF in only one way
first_lf : (k l x y : List ℕ) → HasNoLf k → HasNoLf l → k ++ 10 ∷ x ≡ l ++ 10 ∷ y → (k ≡ l) × (x ≡ y)
first_lf [] [] x y h g e = (refl, cc)
first_lf [] (c ∷ l) x y h g e = absurd (g.0 (cc))
first_lf (b ∷ k) [] x y h g e = absurd (h.0 (cc))
first_lf (b ∷ k) (c ∷ l) x y h g e =
    let t = first_lf k l x y h.1 g.1 (cc) in
    let head : b ≡ c = cc in
    (ap₂ (λ p q. p ∷ q) head t.0, t.1)

line_first : (l a r rest : List ℕ) → ((with_lf l ++ a) ++ r) ++ rest ≡ l ++ 10 ∷ ((a ++ r) ++ rest)
line_first l a r rest =
    ap (λ t. (t ++ r) ++ rest) (append_assoc l (10 ∷ []) a) ∙ ap (λ t. t ++ rest) (append_assoc l (10 ∷ a) r) ∙ append_assoc l (10 ∷ (a ++ r)) rest

-- if a session ended without a failure, then what its input has after the last whole line that the session read doesn't
-- begin with another whole line, of at most 8,400 bytes, and its LF
no_more : (cut : Option LineFault) (r k rest x : List ℕ) → IsCut cut (Some rest) r → IsLine k → r ++ rest ≡ k ++ 10 ∷ x → ⊥
no_more None r k rest x h l e =
    let n : length (r ++ rest) ≡ length (k ++ 10 ∷ x) = ap length e in
    let p : length r ≡ 0 = ap length h.0 in
    let q : length rest ≡ 0 = ap length h.1 in absurd (omega (arith, length-append r rest, length-append k (10 ∷ x), n, p, q))
no_more (Some line.TooLong) r k rest x h l e = no_lf_within r k rest x h.0 (omega (arith, h.1, l.1)) e
no_more (Some line.CutLine) r k rest x h l e =
    let n : length (r ++ rest) ≡ length (k ++ 10 ∷ x) = ap length e in
    let q : length rest ≡ 0 = ap length h.2 in no_lf_within r k rest x h.0.0 (omega (arith, length-append r rest, length-append k (10 ∷ x), n, q)) e
no_more (Some line.BadLine) r k rest x h l e = h
no_more (Some line.BadNumber) r k rest x h l e = h
no_more (Some line.OtherDoor) r k rest x h l e = h
no_more (Some line.OutOfMemory) r k rest x h l e = h

-- `Size cut n`: if a session ends with the fault `cut` of a line, or without one (None), then its input can have n
-- bytes after the last whole line that the session read
abbrev Size : Option LineFault → ℕ → Type 0
Size None n = n ≡ 0
Size (Some line.TooLong) n = 8401 ≤ n
Size (Some line.CutLine) n = (0 < n) × (n ≤ 8400)
Size (Some line.BadLine) n = ⊥
Size (Some line.BadNumber) n = ⊥
Size (Some line.OtherDoor) n = ⊥
Size (Some line.OutOfMemory) n = ⊥

size : (cut : Option LineFault) (r rest : List ℕ) → IsCut cut (Some rest) r → Size cut (length (r ++ rest))
size None r rest h =
    let p : length r ≡ 0 = ap length h.0 in
    let q : length rest ≡ 0 = ap length h.1 in omega (arith, length-append r rest, p, q)
size (Some line.TooLong) r rest h = omega (arith, length-append r rest, h.1)
size (Some line.CutLine) r rest h =
    let q : length rest ≡ 0 = ap length h.2 in
    let some : 0 < length (r ++ rest) = omega (arith, length-append r rest, h.1) in
    let few : length (r ++ rest) ≤ 8400 = omega (arith, length-append r rest, h.0.1, q) in (some, few)
size (Some line.BadLine) r rest h = h
size (Some line.BadNumber) r rest h = h
size (Some line.OtherDoor) r rest h = h
size (Some line.OutOfMemory) r rest h = h

one_cut : (c d : Option LineFault) (n : ℕ) → Size c n → Size d n → c ≡ d
one_cut None None n h k = refl
one_cut None (Some line.TooLong) n h k = absurd (omega (arith, h, k))
one_cut None (Some line.CutLine) n h k = absurd (omega (arith, h, k.0))
one_cut (Some line.TooLong) None n h k = absurd (omega (arith, h, k))
one_cut (Some line.TooLong) (Some line.TooLong) n h k = refl
one_cut (Some line.TooLong) (Some line.CutLine) n h k = absurd (omega (arith, h, k.1))
one_cut (Some line.CutLine) None n h k = absurd (omega (arith, h.0, k))
one_cut (Some line.CutLine) (Some line.TooLong) n h k = absurd (omega (arith, h.1, k))
one_cut (Some line.CutLine) (Some line.CutLine) n h k = refl
one_cut None (Some line.BadLine) n h k = absurd k
one_cut None (Some line.BadNumber) n h k = absurd k
one_cut None (Some line.OtherDoor) n h k = absurd k
one_cut None (Some line.OutOfMemory) n h k = absurd k
one_cut (Some line.TooLong) (Some line.BadLine) n h k = absurd k
one_cut (Some line.TooLong) (Some line.BadNumber) n h k = absurd k
one_cut (Some line.TooLong) (Some line.OtherDoor) n h k = absurd k
one_cut (Some line.TooLong) (Some line.OutOfMemory) n h k = absurd k
one_cut (Some line.CutLine) (Some line.BadLine) n h k = absurd k
one_cut (Some line.CutLine) (Some line.BadNumber) n h k = absurd k
one_cut (Some line.CutLine) (Some line.OtherDoor) n h k = absurd k
one_cut (Some line.CutLine) (Some line.OutOfMemory) n h k = absurd k
one_cut (Some line.BadLine) d n h k = absurd h
one_cut (Some line.BadNumber) d n h k = absurd h
one_cut (Some line.OtherDoor) d n h k = absurd h
one_cut (Some line.OutOfMemory) d n h k = absurd h

-- Let two sessions have the same bytes in their inputs, and let neither fail. Then the whole lines that they read, `ls`
-- and `ks`, are the same, and so are the faults of a line with which they end, `c` and `d` (None if there is no fault).
lines_alike : (ls ks : List (List ℕ)) (c d : Option LineFault) (r q rest more : List ℕ) → AllByRecursion IsLine ls → AllByRecursion IsLine ks
    → IsCut c (Some rest) r → IsCut d (Some more) q → (all_lines ls ++ r) ++ rest ≡ (all_lines ks ++ q) ++ more → (ls ≡ ks) × (c ≡ d)
lines_alike [] [] c d r q rest more h k cr dq e =
    let there : Size d (length (r ++ rest)) = subst (λ (bytes : List ℕ). Size d (length bytes)) (sym e) (size d q more dq) in
    (refl, one_cut c d (length (r ++ rest)) (size c r rest cr) there)
lines_alike [] (k ∷ ks) c d r q rest more h l cr dq e =
    absurd (no_more c r k rest ((all_lines ks ++ q) ++ more) cr l.0 (e ∙ line_first k (all_lines ks) q more))
lines_alike (l ∷ ls) [] c d r q rest more h k cr dq e =
    absurd (no_more d q l more ((all_lines ls ++ r) ++ rest) dq h.0 (sym e ∙ line_first l (all_lines ls) r rest))
lines_alike (l ∷ ls) (k ∷ ks) c d r q rest more h g cr dq e =
    let t = first_lf l k ((all_lines ls ++ r) ++ rest) ((all_lines ks ++ q) ++ more) h.0.0 g.0.0 (sym (line_first l (all_lines ls) r rest) ∙ e
    ∙ line_first k (all_lines ks) q more) in
    let u = lines_alike ls ks c d r q rest more h.1 g.1 cr dq t.1 in
    (ap₂ (λ x y. x ∷ y) t.0 u.0, u.1)

module _ {S : Type 0} (answers_with : S → List ℕ → List ℕ → S → Type 0) (determined : IsDetermined answers_with) where
  texts_alike : (ls : List (List ℕ)) (s : S) (texts others : List (List ℕ)) (m n : S) → AnswersAll answers_with ls s texts m → AnswersAll answers_with ls s others n
      → NoneIsOutOfMemoryText texts → NoneIsOutOfMemoryText others → (texts ≡ others) × (m ≡ n)
  texts_alike [] s [] [] m n h k w v = (refl, h ∙ sym k)
  texts_alike [] s (t ∷ texts) others m n h k w v = absurd h
  texts_alike [] s [] (o ∷ others) m n h k w v = absurd k
  texts_alike (l ∷ ls) s [] others m n h k w v = absurd h
  texts_alike (l ∷ ls) s (t ∷ texts) [] m n h k w v = absurd k
  texts_alike (l ∷ ls) s (t ∷ texts) (o ∷ others) m n h k w v =
      let e = determined s l t o h.0 k.0 h.1 k.1 w.0 v.0 in
      let u = texts_alike ls h.0 texts others m n h.2 (subst (λ (z : S). AnswersAll answers_with ls z others n) (sym e.1) k.2) w.1 v.1 in
      (ap₂ (λ x y. x ∷ y) e.0 u.0, u.1)

  pub cuts_alike : IsIndependentOfReadSizes answers_with
  cuts_alike s t u bytes out out_t out_u None in_u count_t count_u cut_t cut_u one other w v = absurd one.answering.taken
  cuts_alike s t u bytes out out_t out_u (Some rest) None count_t count_u cut_t cut_u one other w v = absurd other.answering.taken
  cuts_alike s t u bytes out out_t out_u (Some rest) (Some more) count_t count_u cut_t cut_u one other w v =
      let lines = lines_alike one.answering.lines other.answering.lines cut_t cut_u one.rest other.rest rest more one.answering.each other.answering.each one.is_cut
      other.is_cut (sym one.answering.taken ∙ other.answering.taken) in
      let all_answered : AnswersAll answers_with one.answering.lines s other.answering.texts u =
      subst (λ (ls : List (List ℕ)). AnswersAll answers_with ls s other.answering.texts u) (sym lines.0) other.answering.all_answered in
      let texts = texts_alike one.answering.lines s one.answering.texts other.answering.texts t u one.answering.all_answered all_answered w v in record {
        state = texts.1;
        written = one.answering.written ∙ ap₂ (λ ts c. out ++ (all_texts ts ++ cut_line c)) texts.0 lines.1 ∙ sym other.answering.written;
        count = one.counted ∙ ap₂ (λ a b. a + b) (one.answering.counted ∙ ap length texts.0 ∙ sym other.answering.counted) (ap cut_count lines.1) ∙ sym other.counted;
        cut = lines.1;
      }

module _ {C D : Type 0} (step : D → Act → ℕ → Answer → D → Type 0) (looks : D → LookAt → ℕ → LineAnswer → D → Type 0) (tick : C → ℕ → C → Type 0)
    (tells : IsClockDetermined tick) (desk : IsDeskDetermined step looks) where
  asked_alike : (r : Result Asked LineFault) (c : C) (d : D) (a b : LineAnswer) (c' : C) (d' : D) (c'' : C) (d'' : D) → AnswersAsked step looks tick r c d a c' d'
      → AnswersAsked step looks tick r c d b c'' d'' → ¬ (a ≡ Err OutOfMemory) → ¬ (b ≡ Err OutOfMemory) → (a ≡ b) × (c' ≡ c'') × (d' ≡ d'')
  asked_alike (Ok (asks.Act act)) c d (Err a) (Err b) c' d' c'' d'' h k n m =
      let e = tells c c' c'' h.0 k.0 h.1 k.1 in
      let f = desk.of_acts d d' d'' act h.0 a b h.2 (subst (λ (moment : ℕ). step d act moment b d'') (sym e.0) k.2) (λ is. n (ap (λ x. Err x) is)) (λ is. m (ap (λ x. Err x) is)) in
      (ap (λ x. Err x) f.0, e.1, f.1)
  asked_alike (Ok (asks.Act act)) c d (Ok text) b c' d' c'' d'' h k n m = absurd h
  asked_alike (Ok (asks.Act act)) c d (Err a) (Ok text) c' d' c'' d'' h k n m = absurd k
  asked_alike (Ok (asks.Look look)) c d a b c' d' c'' d'' h k n m =
      let e = tells c c' c'' h.0 k.0 h.1 k.1 in
      let f = desk.of_looks d d' d'' look h.0 a b h.2 (subst (λ (moment : ℕ). looks d look moment b d'') (sym e.0) k.2) n m in
      (f.0, e.1, f.1)
  asked_alike (Ok asks.NextDay) c d a b c' d' c'' d'' h k n m = absurd h
  asked_alike (Err why) c d a b c' d' c'' d'' h k n m = (h.0 ∙ sym k.0, h.1 ∙ sym k.1, h.2 ∙ sym k.2)

  desk_determined : (role : Role) → IsDetermined (desk_answers step looks tick role)
  desk_determined role s text t o m n h k w v =
      let e = asked_alike (line_asked role text) s.0 s.1 h.answer k.answer m.0 m.1 n.0 n.1 h.answers k.answers (λ is. w (h.text_is ∙ ap line_of is))
      (λ is. v (k.text_is ∙ ap line_of is)) in
      (h.text_is ∙ ap line_of e.0 ∙ sym k.text_is, ap₂ (λ x y. (x, y)) e.1 e.2)

  pub desk_cuts_alike : (role : Role) → IsIndependentOfReadSizes (desk_answers step looks tick role)
  desk_cuts_alike role = cuts_alike (desk_answers step looks tick role) (desk_determined role)

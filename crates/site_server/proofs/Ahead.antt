-- What a session will read of a connection stays the same while its peer is judged.
use Rattle.std.proofs.Common.{◌≡◌, ℕ, ◌-◌, ◌<◌, ◌++◌, List, [], ◌∷◌, length, take, drop, min, Bool, true, false, if◌then◌else◌, Option, Some, None, Result, Ok, Err, refl, sym, ap, subst, ◌∙◌, arith, suc}
use Rattle.std.proofs.lemmas.List.{append-nil, append_assoc}
use Rattle.std.proofs.lemmas.List.{take-append-drop}
use Rattle.std.specs.Io.KnownBytes.{Consumes, IsAtEnd, Keeps, ReadConsumes, prepend_known}
use Rattle.site_server.specs.Guard.{admitted, speaks_another_protocol}
use Rattle.site_server.specs.declared.judging.Verdict.{Verdict}
use Rattle.site_server.specs.declared.judging.Verdict.TheVariants.{Client, Stranger, Unclear}
use Rattle.site_server.specs.Guarding.{IsVerdict, ahead_by, verdict_on}

let_in : (bytes : List ℕ) (v : Bool) → speaks_another_protocol bytes ≡ v → v ≡ false → bytes ≡ admitted bytes
let_in bytes v is none = ap (λ (w : Bool). if w then [] else bytes) (sym none ∙ sym is)

kept_out : (bytes : List ℕ) (v : Bool) → speaks_another_protocol bytes ≡ v → v ≡ true → [] ≡ admitted bytes
kept_out bytes v is some = ap (λ (w : Bool). if w then [] else bytes) (sym some ∙ sym is)

judged_so : (kept all : List ℕ) (verdict : Verdict) (rest bytes : List ℕ) → bytes ≡ all ++ rest → IsVerdict all verdict
    → Keeps (Some (admitted bytes)) (ahead_by verdict all (Some rest))
judged_so kept all Unclear rest bytes is says = ap admitted (sym is)
judged_so kept all Client rest bytes is says = let_in (all ++ rest) _ refl (says rest) ∙ ap admitted (sym is)
judged_so kept all Stranger rest bytes is says = kept_out (all ++ rest) _ refl (says rest) ∙ ap admitted (sym is)

some_more : (kept read : List ℕ) (verdict : Verdict) (old new : Option (List ℕ)) → Consumes old new read → IsVerdict (kept ++ read) verdict
    → Keeps (ahead_by Unclear kept old) (ahead_by verdict (kept ++ read) new)
some_more kept read verdict None new h says = tt
some_more kept read verdict (Some xs) None h says = absurd h
some_more kept read verdict (Some xs) (Some ys) h says =
    judged_so kept (kept ++ read) verdict ys (kept ++ xs) (ap (λ (l : List ℕ). kept ++ l) h ∙ sym (append_assoc kept read ys)) says

-- some more bytes were read, and the verdict fits what has come so far
pub appended : (read kept all : List ℕ) (before verdict : Verdict) (old new : Option (List ℕ)) → before ≡ Unclear
    → Consumes old new read → all ≡ kept ++ read → IsVerdict all verdict
    → Keeps (ahead_by before kept old) (ahead_by verdict all new)
appended read kept all before verdict old new unclear h is says =
    subst (λ (v : Verdict). Keeps (ahead_by v kept old) (ahead_by verdict all new)) (sym unclear)
    (subst (λ (l : List ℕ). Keeps (ahead_by Unclear kept old) (ahead_by verdict l new)) (sym is)
    (some_more kept read verdict old new h (subst (λ (l : List ℕ). IsVerdict l verdict) is says)))

finished_at : (kept : List ℕ) (v : Bool) (old new : Option (List ℕ)) → speaks_another_protocol kept ≡ v → Consumes old new [] → IsAtEnd new
    → Keeps (ahead_by Unclear kept old) (ahead_by (verdict_on v) kept new)
finished_at kept v None new is h end = tt
finished_at kept v (Some xs) None is h end = absurd h
finished_at kept true (Some xs) (Some ys) is h end =
    kept_out kept _ refl is ∙ ap admitted (sym (append-nil kept) ∙ ap (λ (l : List ℕ). kept ++ l) (sym (h ∙ end)))
finished_at kept false (Some xs) (Some ys) is h end =
    ap (λ (l : List ℕ). kept ++ l) end ∙ append-nil kept ∙ let_in kept _ refl is
    ∙ ap admitted (sym (append-nil kept) ∙ ap (λ (l : List ℕ). kept ++ l) (sym (h ∙ end)))

-- the input has ended, and the verdict fits all that has come
pub finished : (kept all : List ℕ) (before verdict : Verdict) (old new : Option (List ℕ)) → before ≡ Unclear → Consumes old new [] → IsAtEnd new
    → all ≡ kept → verdict ≡ verdict_on (speaks_another_protocol kept) → Keeps (ahead_by before kept old) (ahead_by verdict all new)
finished kept all before verdict old new unclear h end same is =
    subst (λ (v : Verdict). Keeps (ahead_by v kept old) (ahead_by verdict all new)) (sym unclear)
    (subst (λ (l : List ℕ). Keeps (ahead_by Unclear kept old) (ahead_by verdict l new)) (sym same)
    (subst (λ (v : Verdict). Keeps (ahead_by Unclear kept old) (ahead_by v kept new)) (sym is)
    (finished_at kept (speaks_another_protocol kept) old new refl h end)))

-- how many more bytes are read at most to judge the peer, and the end of the input
abbrev pub left_to_judge : Verdict → List ℕ → ℕ
left_to_judge Unclear kept = suc (8402 - length kept)
left_to_judge Client kept = 0
left_to_judge Stranger kept = 0

fewer_at : (after : Verdict) (kept grown : List ℕ) → (after ≡ Unclear → length kept < length grown) → (after ≡ Unclear → length grown < 8402)
    → left_to_judge after grown < suc (8402 - length kept)
fewer_at Unclear kept grown more few = let (grows, lt) : (length kept < length grown) × (length grown < 8402) = (more refl, few refl) in omega (arith, grows, lt)
fewer_at Client kept grown more few = omega arith
fewer_at Stranger kept grown more few = omega arith

pub fewer_left : (before after : Verdict) (kept grown : List ℕ) → before ≡ Unclear → (after ≡ Unclear → length kept < length grown) → (after ≡ Unclear → length grown < 8402)
    → left_to_judge after grown < left_to_judge before kept
fewer_left before after kept grown unclear more few =
    subst (λ (v : Verdict). left_to_judge after grown < left_to_judge v kept) (sym unclear) (fewer_at after kept grown more few)

pub Keeps-same : (a : Option (List ℕ)) → Keeps a a
Keeps-same None = tt
Keeps-same (Some xs) = refl

pub Keeps-both : (a b c : Option (List ℕ)) → Keeps a b → Keeps b c → Keeps a c
Keeps-both None b c h k = tt
Keeps-both (Some xs) None c h k = absurd h
Keeps-both (Some xs) (Some ys) None h k = absurd k
Keeps-both (Some xs) (Some ys) (Some zs) h k = k ∙ h

Consumes-kept : (a b c : Option (List ℕ)) (bs : List ℕ) → Keeps a b → Consumes b c bs → Consumes a c bs
Consumes-kept None b c bs h k = tt
Consumes-kept (Some xs) None c bs h k = absurd h
Consumes-kept (Some xs) (Some ys) None bs h k = absurd k
Consumes-kept (Some xs) (Some ys) (Some zs) bs h k = sym h ∙ k

-- what was kept before a read isn't lost by it
pub Keeps-read : {E : Type 0} (a b c : Option (List ℕ)) (r : Result ℕ E) (buf : List ℕ) → Keeps a b → ReadConsumes b c r buf → ReadConsumes a c r buf
Keeps-read a b c (Ok n) buf h k = (Consumes-kept a b c (take n buf) h k.0, k.1)
Keeps-read a b c (Err e) buf h k = Keeps-both a b c h k

-- nothing is ahead of a stranger's session
pub none_ahead : (a : Option (List ℕ)) (kept : List ℕ) (verdict : Verdict) (rest : Option (List ℕ)) → verdict ≡ Stranger → Keeps a (ahead_by verdict kept rest)
    → Consumes a (ahead_by verdict kept rest) [] × IsAtEnd (ahead_by verdict kept rest)
none_ahead a kept verdict rest is h =
    subst (λ (v : Verdict). Consumes a (ahead_by v kept rest) [] × IsAtEnd (ahead_by v kept rest)) (sym is)
    (Consumes-kept a (Some []) (Some []) [] (subst (λ (v : Verdict). Keeps a (ahead_by v kept rest)) is h) refl, refl)

given_part : (n : ℕ) (kept : List ℕ) (rest : Option (List ℕ)) → Consumes (prepend_known kept rest) (prepend_known (drop n kept) rest) (take n kept)
given_part n kept None = tt
given_part n kept (Some xs) = ap (λ (l : List ℕ). l ++ xs) (sym (take-append-drop n kept)) ∙ append_assoc (take n kept) (drop n kept) xs

not_all : (kept : List ℕ) (n m : ℕ) → (kept ≡ [] → ⊥) → n ≡ min (length kept) m → n ≡ 0 → 0 < m → ⊥
not_all [] n m some is none room = some refl
not_all (b ∷ kept) n m some is none room = omega (arith, is, none, room)

-- the first bytes of a client's connection were passed on
pub passed_on : (kept left buf : List ℕ) (n : ℕ) (before after : Verdict) (rest : Option (List ℕ)) → before ≡ Client → after ≡ before → (kept ≡ [] → ⊥)
    → n ≡ min (length kept) (length buf) → take n buf ≡ take n kept → left ≡ drop n kept
    → Consumes (ahead_by before kept rest) (ahead_by after left rest) (take n buf) × (n ≡ 0 → 0 < length buf → IsAtEnd (ahead_by after left rest))
passed_on kept left buf n before after rest client same some count passed gone = (
  subst (λ (v : Verdict). Consumes (ahead_by before kept rest) (ahead_by v left rest) (take n buf)) (sym same)
      (subst (λ (v : Verdict). Consumes (ahead_by v kept rest) (ahead_by v left rest) (take n buf)) (sym client)
      (subst (λ (l : List ℕ). Consumes (prepend_known kept rest) (prepend_known l rest) (take n buf)) (sym gone)
      (subst (λ (l : List ℕ). Consumes (prepend_known kept rest) (prepend_known (drop n kept) rest) l) (sym passed) (given_part n kept rest)))),
  λ none room. absurd (not_all kept n (length buf) some count none room),
)

-- If bytes are read or written in pieces, one after another, then all the pieces joined are read or written.
use Rattle.std.proofs.Common.{◌≡◌, ◌≢◌, ◌≤◌, ◌+◌, ℕ, arith, length, length-append, List, [], ◌∷◌, ◌++◌, Some, None, Option, Result, Ok, Err, OnErr, sym, ◌∙◌, ap, subst, append_assoc, append-nil, MatchOption, IfOk}
use Rattle.std.specs.Io.KnownBytes.{Consumes, Appends, IsAtEnd}
use Rattle.till_request.specs.Line.{HasLongerLine, ReadsIntoLineThenByte, ReadsBytesOfLine, HasNoLf, IsLine, LacksRoom, ReadsIntoLine, TakesPart}

pub consumes_more : (a b c : Option (List ℕ)) (xs ys : List ℕ) → Consumes a b xs → Consumes b c ys → Consumes a c (xs ++ ys)
consumes_more None b c xs ys h k = tt
consumes_more (Some ps) None c xs ys h k = absurd h
consumes_more (Some ps) (Some qs) None xs ys h k = absurd k
consumes_more (Some ps) (Some qs) (Some rs) xs ys h k = h ∙ ap (λ t. xs ++ t) k ∙ sym (append_assoc xs ys rs)

pub appends_more : (a b c : Option (List ℕ)) (xs ys : List ℕ) → Appends a b xs → Appends b c ys → Appends a c (xs ++ ys)
appends_more None b c xs ys h k = tt
appends_more (Some ps) None c xs ys h k = absurd h
appends_more (Some ps) (Some qs) None xs ys h k = absurd k
appends_more (Some ps) (Some qs) (Some rs) xs ys h k = k ∙ ap (λ t. t ++ ys) h ∙ append_assoc ps xs ys

pub no_lf_more : (xs : List ℕ) (b : ℕ) → HasNoLf xs → b ≢ 10 → HasNoLf (xs ++ b ∷ [])
no_lf_more [] b h n = (n, tt)
no_lf_more (x ∷ xs) b h n = (h.0, no_lf_more xs b h.1 n)

pub on_err_always : {T E P : Type 0} (r : Result T E) → P → OnErr r P
on_err_always (Ok x) p = tt
on_err_always (Err e) p = p

pub given_so : {T E : Type 0} (r : Result T E) (a c : Option (List ℕ)) (xs : List ℕ) → Consumes a c xs → OnErr r ((bytes : List ℕ) × Consumes a c bytes)
given_so (Ok x) a c xs h = tt
given_so (Err e) a c xs h = (xs, h)

pub part_given : {T E : Type 0} (r : Result T E) (a c : Option (List ℕ)) (xs : List ℕ) → Consumes a c xs → IsLine xs → OnErr r (TakesPart a c)
part_given (Ok x) a c xs h l = tt
part_given (Err e) a c xs h l = (xs, h, l)

-- If `line` was read, after it zero or more bytes, with which the line became `grown`, and after these `byte`, then
-- `grown` followed by `byte` was read in all.
pub byte_behind : (a b c : Option (List ℕ)) (line grown : List ℕ) (byte : ℕ) → Consumes a b line → ReadsIntoLineThenByte b c line grown (Some byte)
    → Consumes a c (grown ++ byte ∷ [])
byte_behind a b c line grown byte h on =
    let place : line ++ (on.0 ++ byte ∷ []) ≡ grown ++ byte ∷ [] = sym (append_assoc line on.0 (byte ∷ [])) ∙ ap (λ t. t ++ byte ∷ []) (sym on.2) in
    subst (Consumes a c) place (consumes_more a b c line (on.0 ++ byte ∷ []) h on.1)

nothing_more : (a b c : Option (List ℕ)) (xs : List ℕ) → Consumes a b xs → Consumes b c [] → Consumes a c xs
nothing_more a b c xs h k = subst (Consumes a c) (append-nil xs) (consumes_more a b c xs [] h k)

-- If zero or more bytes were read and appended to a line, and the read of one more byte after that didn't fail, then
-- both steps together did what `ReadsIntoLineThenByte` says: bytes were appended to the line, and then one more byte
-- was read or the input had ended.
pub goes_on : {E : Type 0} (a b c : Option (List ℕ)) (line grown : List ℕ) (r : Result (Option ℕ) E) → ReadsIntoLine a b line grown
    → IfOk r (λ found. MatchOption found (Consumes b c [] × IsAtEnd c) (λ byte. Consumes b c (byte ∷ []))) → IfOk r (ReadsIntoLineThenByte a c line grown)
goes_on a b c line grown (Err e) h k = tt
goes_on a b c line grown (Ok None) h k = ((h.0, nothing_more a b c h.0 h.1 k.0, h.2, h.3), k.1)
goes_on a b c line grown (Ok (Some byte)) h k = (h.0, consumes_more a b c h.0 (byte ∷ []) h.1 k, h.2, h.3)

-- If bytes were read and appended to a line, and the read of one more byte after that failed and took no byte, then all
-- bytes that were read belong to the line (`ReadsBytesOfLine` for both steps together).
pub goes_part : {T E : Type 0} (a b c : Option (List ℕ)) (line grown : List ℕ) (r : Result T E) → ReadsIntoLine a b line grown
    → OnErr r (Consumes b c []) → OnErr r (ReadsBytesOfLine a c line)
goes_part a b c line grown (Ok x) h k = tt
goes_part a b c line grown (Err e) h k = (h.0, nothing_more a b c h.0 h.1 k, subst (λ l. IsLine l) h.2 h.3)

-- In the input `a`, more than `least` bytes of a line come next (`LacksRoom` with an empty line). This holds if `line`
-- was read from `a`, which left the input `b`, and `line` with further bytes that come next in `b` is longer than
-- `room` (`LacksRoom` with `line`). `least` must be at most `room`. `all`, `before` and `after` are numbers of reads:
-- how many were still allowed when the input was `a`, when it was `b`, and later. `all` must be `length line` +
-- `before`.
pub lacks_behind : (a b : Option (List ℕ)) (line : List ℕ) (least room all before after : ℕ) → Consumes a b line → least ≤ room
    → length line + before ≡ all → LacksRoom b line room before after → LacksRoom a [] least all after
lacks_behind a b line least room all before after h fits counted l =
    let long : length (line ++ l.0) ≡ length line + length l.0 = length-append line l.0 in (
      line ++ l.0,
      l.1,
      consumes_more a b l.1 line l.0 h l.2,
      l.3,
      omega (arith, long, l.4),
      omega (arith, fits, l.5),
      omega (arith, long, counted, l.6),
      omega (arith, long, counted, l.7),
    )

-- If `line` was read, and with bytes that come next is longer than `room` (`LacksRoom`), then more than `least` bytes of a
-- line came next before `line` was read. `least` must be at most `room`.
pub longer_behind : (a b : Option (List ℕ)) (line : List ℕ) (least room before after : ℕ) → Consumes a b line → least ≤ room
    → LacksRoom b line room before after → HasLongerLine a least
longer_behind a b line least room before after h fits l = (line ++ l.0, l.1, consumes_more a b l.1 line l.0 h l.2, l.3, omega (arith, fits, l.5))

-- In the input `a`, more than `room` bytes of a line come next (`LacksRoom` with an empty line). This holds if `line`
-- and then `byte` were read from `a`, and `room` is at most `length line`. Together `line` and `byte` must have no LF
-- and at most 8,400 bytes. `all` and `after` are numbers of reads: how many were still allowed before `line` was read,
-- and after `byte` was read. `all` must be `length line` + `after` + 1.
pub lacks_byte : (a c : Option (List ℕ)) (line : List ℕ) (byte room all after : ℕ) → Consumes a c (line ++ byte ∷ []) → IsLine (line ++ byte ∷ [])
    → room ≤ length line → length line + after + 1 ≡ all → LacksRoom a [] room all after
lacks_byte a c line byte room all after h whole full counted =
    let long : length (line ++ byte ∷ []) ≡ length line + 1 = length-append line (byte ∷ []) in (
      line ++ byte ∷ [],
      c,
      h,
      whole,
      omega (arith, long),
      omega (arith, long, full),
      omega (arith, long, counted),
      omega (arith, long, counted),
    )

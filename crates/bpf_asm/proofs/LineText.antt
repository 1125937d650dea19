-- A piece is the text of a token, with or without a blank before it. The pieces of a list are good (`AreGood`) if each
-- token is `clean` (so it is ASCII without an LF or a comment) and is the first token of the text from its place on.
-- The text of good pieces is one line, and is split into the tokens of these pieces again.
use Rattle.std.proofs.Common.{◌≡◌, ◌<◌, ◌^◌, ℕ, suc, List, [], ◌∷◌, ◌++◌, length, take, take_all, map, Some, None, Bool, true, false, refl, ap, sym, ◌∙◌}
use Rattle.std.proofs.Common.{append_assoc, arith}
use Rattle.std.specs.Prelude.{◌&&◌, ◌||◌, ◌==◌, not, nat_lt, cond, slice_index, ⊤}
use Rattle.std.specs.List.{list_all}
use Rattle.std.specs.Char.{is_ascii_digit}
use Rattle.std.specs.Str.{all_ascii_digits}
use Rattle.std.specs.Fmt.{decimal}
use Rattle.std.proofs.lemmas.Bool.Decides.{nat_tests}
use Rattle.std.proofs.lemmas.Bool.{eqb-true}
use Rattle.bpf_asm.specs.declared.grammar.Line.{Line}
use Rattle.bpf_asm.specs.Lex.{Text, code_len, split, kind_of}
use Rattle.bpf_asm.specs.Grammar.{line_of}
use Rattle.bpf_asm.specs.Program.{row, row_of, row_by, row_with, words_of, label_of, cut, with_byte}
use Rattle.bpf_asm.specs.Text.{Piece, Next, After, token_of, line_text}
use Rattle.bpf_asm.proofs.Again.{body, IsFront, AreCut, cut_again, decimal_digits}

-- ---- a clean text has no LF and no comment

-- The text is clean: each byte is ASCII and above LF (10), and a slash comes only before `=`.
abbrev pub clean : Text → Bool
clean [] = true
clean (b ∷ t) = (nat_lt 10 b && nat_lt b 128) && (not (b == 47) || (slice_index t 0 == 61)) && clean t

and_left : (a b : Bool) → (a && b) ≡ true → a ≡ true
and_left true b h = refl
and_left false b h = h

and_right : (a b : Bool) → (a && b) ≡ true → b ≡ true
and_right true b h = h
and_right false b h = absurd (cc)

three : (a b c : Bool) → a ≡ true → b ≡ true → c ≡ true → (a && b && c) ≡ true
three a b c f g h = ap (λ x. x && b && c) f ∙ ap (λ x. x && c) g ∙ h

record IsClean (b : ℕ) (t : Text) : Type 0 where
  byte : (nat_lt 10 b && nat_lt b 128) ≡ true
  slash : (not (b == 47) || (slice_index t 0 == 61)) ≡ true
  rest : clean t ≡ true

parts : (b : ℕ) (t : Text) → clean (b ∷ t) ≡ true → IsClean b t
parts b t h =
    let x = nat_lt 10 b && nat_lt b 128 in
    let y = not (b == 47) || (slice_index t 0 == 61) in
    let front = and_left (x && y) (clean t) h in
    record { byte = and_left x y front; slash = and_right x y front; rest = and_right (x && y) (clean t) h }

ascii_clean : (t : Text) → clean t ≡ true → list_all (λ b. nat_lt b 128) t ≡ true
ascii_clean [] h = refl
ascii_clean (b ∷ t) h =
    let p = parts b t h in
    ap (λ x. x && list_all (λ c. nat_lt c 128) t) (and_right (nat_lt 10 b) (nat_lt b 128) p.byte) ∙ ascii_clean t p.rest

no_comment : (x : Bool) (n : ℕ) → (not x || (n == 61)) ≡ true → (x && (n == 47)) ≡ false
no_comment false n h = refl
no_comment true n h = let e : n ≡ 61 = eqb-true n 61 h in ap (λ m. m == 47) e

code_clean : (t : Text) → clean t ≡ true → code_len t ≡ length t
code_clean [] h = refl
code_clean (b ∷ t) h =
    let p = parts b t h in
    ap (λ x. cond x 0 (suc (code_len t))) (no_comment (b == 47) (slice_index t 0) p.slash) ∙ ap suc (code_clean t p.rest)

no_end : (b : ℕ) → (nat_lt 10 b && nat_lt b 128) ≡ true → (b == 10) ≡ false
no_end b h = let l : nat_lt 10 b ≡ true = and_left (nat_lt 10 b) (nat_lt b 128) h in grind (arith, nat_tests)

-- if t is `clean` (so it has no LF), then a text that is t, an LF and u is cut into the line t and the lines of u
pub cut_clean : (t u : Text) → clean t ≡ true → cut (t ++ 10 ∷ u) ≡ t ∷ cut u
cut_clean [] u h = refl
cut_clean (b ∷ t) u h =
    let p = parts b t h in
    ap (λ x. cond x ([] ∷ cut (t ++ 10 ∷ u)) (with_byte b (cut (t ++ 10 ∷ u)))) (no_end b p.byte) ∙ ap (with_byte b) (cut_clean t u p.rest)

slash_ends : (x : Bool) → (not x || (0 == 61)) ≡ true → x ≡ false
slash_ends true h = absurd (cc)
slash_ends false h = refl

pub clean_append : (a b : Text) → clean a ≡ true → clean b ≡ true → clean (a ++ b) ≡ true
clean_append [] b g h = h
clean_append (x ∷ []) b g h =
    let p = parts x [] g in
    three (nat_lt 10 x && nat_lt x 128) (not (x == 47) || (slice_index b 0 == 61)) (clean b) p.byte
    (ap (λ s. not s || (slice_index b 0 == 61)) (slash_ends (x == 47) p.slash)) h
clean_append (x ∷ y ∷ a) b g h =
    let p = parts x (y ∷ a) g in
    three (nat_lt 10 x && nat_lt x 128) (not (x == 47) || (y == 61)) (clean (y ∷ a ++ b)) p.byte p.slash (clean_append (y ∷ a) b p.rest h)

digit_clean : (d : ℕ) (t : Text) → is_ascii_digit d ≡ true → clean t ≡ true → clean (d ∷ t) ≡ true
digit_clean d t digit h =
    let low : nat_lt 10 d ≡ true = grind (arith, nat_tests) in
    let high : nat_lt d 128 ≡ true = grind (arith, nat_tests) in
    let no : (d == 47) ≡ false = grind (arith, nat_tests) in
    three (nat_lt 10 d && nat_lt d 128) (not (d == 47) || (slice_index t 0 == 61)) (clean t) (ap (λ x. x && nat_lt d 128) low ∙ high)
    (ap (λ x. not x || (slice_index t 0 == 61)) no) h

digits_clean : (t : Text) → all_ascii_digits t ≡ true → clean t ≡ true
digits_clean [] all = refl
digits_clean (d ∷ t) all =
    digit_clean d t (and_left (is_ascii_digit d) (all_ascii_digits t) all) (digits_clean t (and_right (is_ascii_digit d) (all_ascii_digits t) all))

pub decimal_clean : (n : ℕ) → n < 2 ^ 64 → clean (decimal n) ≡ true
decimal_clean n small = digits_clean (decimal n) (decimal_digits n small)

-- ---- the text of good pieces is clean, and is parsed as the line that their tokens are parsed as

-- For each piece: its token is clean, and is the first token of the text that the token and all later pieces make.
abbrev pub AreGood : List Piece → Type 0
AreGood [] = ⊤
AreGood (Next t ∷ ps) = IsFront t (body ps) × (clean t ≡ true) × AreGood ps
AreGood (After t ∷ ps) = IsFront t (body ps) × (clean t ≡ true) × AreGood ps

good_cut : (ps : List Piece) → AreGood ps → AreCut ps
good_cut [] g = tt
good_cut (Next t ∷ ps) g = (g.0, good_cut ps g.2)
good_cut (After t ∷ ps) g = (g.0, good_cut ps g.2)

pub body_clean : (ps : List Piece) → AreGood ps → clean (body ps) ≡ true
body_clean [] g = refl
body_clean (Next t ∷ ps) g = clean_append t (body ps) g.1 (body_clean ps g.2)
body_clean (After t ∷ ps) g = clean_append t (body ps) g.1 (body_clean ps g.2)

pub line_body : (ps : List Piece) → line_text ps ≡ body ps ++ 10 ∷ []
line_body [] = refl
line_body (Next t ∷ ps) = ap (λ l. t ++ l) (line_body ps) ∙ sym (append_assoc t (body ps) (10 ∷ []))
line_body (After t ∷ ps) = ap (λ l. 32 ∷ (t ++ l)) (line_body ps) ∙ ap (λ l. 32 ∷ l) (sym (append_assoc t (body ps) (10 ∷ [])))

words_are : (ps : List Piece) → AreGood ps → words_of (body ps) ≡ Some (map token_of ps)
words_are ps g =
    let t = body ps in
    let h = body_clean ps g in
    ap (λ x. cond x (split (take (code_len t) t)) None) (ascii_clean t h)
    ∙ ap (λ n. split (take n t)) (code_clean t h)
    ∙ ap split (take_all (length t) t (omega arith))
    ∙ cut_again ps (good_cut ps g)

-- if pieces are good (`AreGood`: each token is clean, and is the first token of the text from its place on) and their
-- tokens are parsed as the line l, then the text of the pieces is parsed as l too
pub line_says : (ps : List Piece) (l : Line) → AreGood ps → line_of (map kind_of (map token_of ps)) ≡ Some l
    → row_of (body ps) ≡ Some (row l (label_of l (map token_of ps)))
line_says ps l g h = ap row_by (words_are ps g) ∙ ap (λ o. row_with o (map token_of ps)) h

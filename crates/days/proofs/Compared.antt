-- A text is compared with another one line by line: the first line that differs is found.
use Rattle.std.proofs.Common.{◌≡◌, ℕ, ◌+◌, ◌<◌, List, [], ◌∷◌, ◌++◌, length, min, eqb, MatchOption, Option, Some, None}
use Rattle.std.proofs.Common.{refl, sym, ◌∙◌, ap, subst, append_assoc, length-append, arith, suc}
use Rattle.std.specs.List.{join_with_byte}
use Rattle.std.specs.Option.{option_map_or}
use Rattle.std.proofs.lemmas.List.Splits.{join_with_byte-slice_split, length-slice_split}
use Rattle.days.specs.declared.file.OpeningFlaw.{OpeningFlaw}
use Rattle.days.specs.declared.file.OpeningFlaw.TheVariants as flaws
use Rattle.days.specs.Flaws.{Begins, Differs, HaveAlike, IsLineFlaw, LacksLine}
use Rattle.days.specs.Parsing.{line_read}
use Rattle.days.specs.Reading.{pieces}

-- the pieces of a text whose first piece is taken off by `first_part`
pub parted : {T : Type 0} (now : T → List ℕ) (more : Option T) (text line : List ℕ)
    → MatchOption more (pieces text ≡ line ∷ []) (λ r. (pieces text ≡ line ∷ pieces (now r)) × (length (now r) < length text))
    → pieces text ≡ line ∷ option_map_or (λ r. pieces (now r)) more []
parted now None text line h = h
parted now (Some r) text line h = h.0

pub shrinks : {T : Type 0} (now : T → List ℕ) (more : Option T) (text line : List ℕ)
    → MatchOption more (pieces text ≡ line ∷ []) (λ r. (pieces text ≡ line ∷ pieces (now r)) × (length (now r) < length text))
    → option_map_or (λ r. suc (length (now r))) more 0 < suc (length text)
shrinks now None text line h = omega arith
shrinks now (Some r) text line h = omega (arith, h.1)

pub some_found : {T : Type 0} (found : Option T) (x : T) (A : Type 0) (P : T → Type 0) → found ≡ Some x → MatchOption found A P → P x
some_found found x A P e h = subst (λ o. MatchOption o A P) e h

pub none_found : {T : Type 0} (found : Option T) (A : Type 0) (P : T → Type 0) → ((x : T) → found ≡ Some x → ⊥) → MatchOption found A P → A
none_found None A P e h = h
none_found (Some x) A P e h = absurd (e x refl)

same_tail : (w v : List ℕ) (ws vs : List (List ℕ)) → w ∷ ws ≡ v ∷ vs → ws ≡ vs
same_tail w v ws vs h = cc

-- a text without LF is its own piece
pub own_piece : (text line : List ℕ) → pieces text ≡ line ∷ [] → pieces text ≡ text ∷ []
own_piece text line h =
    let same : text ≡ line = sym (join_with_byte-slice_split 10 text) ∙ ap (join_with_byte 10) h in h ∙ ap (λ w. w ∷ []) (sym same)

pub lacks_cut : (text own line : List ℕ) → pieces text ≡ own ∷ [] → LacksLine text line
lacks_cut text own line h behind is =
    let none : length (pieces behind) ≡ 0 = ap length (sym (same_tail own line [] (pieces behind) (sym h ∙ is))) in
    absurd (omega (arith, none, length-slice_split (λ b. eqb b 10) behind))

pub alike_more : (text other rest left more behind line : List ℕ) (n m : ℕ) → HaveAlike text other rest left n → pieces rest ≡ line ∷ pieces more
    → pieces left ≡ line ∷ pieces behind → m ≡ min (n + 1) 4294967295 → HaveAlike text other more behind m
alike_more text other rest left more behind line n m h next own k = record {
  before = h.before ++ line ∷ [];
  text_is = h.text_is ∙ ap (λ ps. h.before ++ ps) next ∙ sym (append_assoc h.before (line ∷ []) (pieces more));
  other_is = h.other_is ∙ ap (λ ps. h.before ++ ps) own ∙ sym (append_assoc h.before (line ∷ []) (pieces behind));
  number_is = omega (arith, h.number_is, k, length-append h.before (line ∷ []));
}

begins_line : (flaw : OpeningFlaw) (rest left line behind : List ℕ) (n : ℕ) → pieces rest ≡ line ∷ pieces behind → LacksLine left line
    → IsLineFlaw n (line_read line) flaw → Begins rest left n flaw
begins_line (flaws.BadLine m) rest left line behind n next lacks h = (line, behind, next, lacks, h)
begins_line (flaws.Ends m) rest left line behind n next lacks h = absurd h
begins_line (flaws.CutLine m) rest left line behind n next lacks h = absurd h
begins_line (flaws.BadProgram m slot program refusal) rest left line behind n next lacks h = (line, behind, next, lacks, h)
begins_line flaws.OutOfMemory rest left line behind n next lacks h = (line, behind, next, lacks, h)

pub line_differs : (flaw : OpeningFlaw) (text other rest left line behind : List ℕ) (n : ℕ) → HaveAlike text other rest left n
    → pieces rest ≡ line ∷ pieces behind → LacksLine left line → IsLineFlaw n (line_read line) flaw → Differs text other flaw
line_differs flaw text other rest left line behind n alike next lacks h =
    record { rest = rest; left = left; number = n; alike = alike; begins = begins_line flaw rest left line behind n next lacks h }

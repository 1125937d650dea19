-- If the canonical line of each instruction is parsed as this instruction, then the canonical text of a program
-- assembles to it.
use Rattle.std.proofs.Common.{◌≡◌, ◌<◌, ◌≤◌, ◌+◌, ℕ, List, [], ◌∷◌, ◌++◌, length, map, Some, None, Bool, true, false, refl, ap, sym, ◌∙◌, subst, append_assoc}
use Rattle.std.proofs.Common.{arith, length-append}
use Rattle.std.specs.Prelude.{◌&&◌, not, Ok, cond, ℤ, is_some, ⊤}
use Rattle.std.proofs.lemmas.Bool.Decides.{nat_tests}
use Rattle.bpf_model.specs.declared.instruction.Inst.{Inst}
use Rattle.bpf_model.specs.declared.instruction.Form.{Form}
use Rattle.bpf_model.specs.declared.instruction.Unit.{Unit as ProgramUnit}
use Rattle.bpf_model.specs.declared.instruction.Unit.TheVariants.{First, Second}
use Rattle.bpf_model.specs.Reading.{form_of, is_wide}
use Rattle.bpf_asm.specs.declared.AsmFault.TheVariants.{BadLabel, OutOfRange}
use Rattle.bpf_asm.specs.declared.grammar.Statement.{Statement}
use Rattle.bpf_asm.specs.declared.grammar.Line.TheVariants as line
use Rattle.bpf_asm.specs.Lex.{Text, kind_of}
use Rattle.bpf_asm.specs.Grammar.{line_of}
use Rattle.bpf_asm.specs.Text.{Piece, token_of, pieces, instruction_text, canonical_text, high_of}
use Rattle.bpf_asm.specs.Program.{row, row_of, with_row, rows_of, last_word, statement_fits, row_fault, or_fault, first_line_fault, Definition, statement_len}
use Rattle.bpf_asm.specs.Program.{units_in, labels_from, label_fault, jumps_to_label, place_found, statement_units, units_from, length_fault, rows_fault}
use Rattle.bpf_asm.specs.Program.{fault_of, assembled_with, assembled, cut}
use Rattle.bpf_asm.proofs.Again.{body}
use Rattle.bpf_asm.proofs.LineText.{AreGood, body_clean, cut_clean, line_body, line_says}

-- The units of an instruction. The first has the fields i. A wide load (true) has a second one, with the number `high`.
abbrev pub units_by : Bool → Inst → ℤ → List ProgramUnit
units_by true i high = First i ∷ Second high ∷ []
units_by false i high = First i ∷ []

-- The text of these pieces is parsed as an instruction whose first unit has the fields i. If `wide`, the instruction
-- has a second unit, which holds the number `high`; if not, it has only the first. The numbers in the text are in
-- range, and the instruction doesn't jump to a label.
pub record ParsesAs (ps : List Piece) (wide : Bool) (i : Inst) (high : ℤ) : Type 0 where
  pub parsed : Statement
  pub good : AreGood ps
  pub means : line_of (map kind_of (map token_of ps)) ≡ Some (line.Statement parsed)
  pub fits : statement_fits parsed ≡ true
  pub no_label : jumps_to_label parsed ≡ false
  pub len : statement_len parsed ≡ length (units_by wide i high)
  pub units : (labels : List Definition) (at : ℕ) (name : Text) → statement_units labels at name parsed ≡ units_by wide i high

-- The canonical line of an instruction is parsed as this instruction. The instruction has the form f, and its first
-- unit has the fields i. If it is a wide load, its second unit holds the number `high`.
abbrev pub ParsesBack : Form → Inst → ℤ → Type 0
ParsesBack f i high = ParsesAs (pieces f i high) (is_wide (Some f)) i high

abbrev pub AllParseBack : Bool → List ProgramUnit → Type 0
AllParseBack true [] = ⊤
AllParseBack true (First i ∷ us) = (f : Form) × (form_of i.opcode ≡ Some f) × ParsesBack f i (high_of us) × AllParseBack (not (is_wide (Some f))) us
AllParseBack true (Second v ∷ us) = ⊥
AllParseBack false [] = ⊥
AllParseBack false (First i ∷ us) = ⊥
AllParseBack false (Second v ∷ us) = AllParseBack true us

-- The lines of the text have neither faults nor labels, and their units are `us`.
record Back (text : Text) (us : List ProgramUnit) : Type 0 where
  none : (n : ℕ) → first_line_fault n (cut text) ≡ None
  labels : (at : ℕ) → labels_from at (rows_of (cut text)) ≡ []
  faultless : (all : List Definition) (n : ℕ) (before : List Text) → label_fault all n before (rows_of (cut text)) ≡ None
  units : (ls : List Definition) (at : ℕ) → units_from ls at (rows_of (cut text)) ≡ us
  count : units_in (rows_of (cut text)) ≡ length us

module _ (ps : List Piece) (s : Statement) (lab : Text) (more : Text) (us us' : List ProgramUnit) (clean_line : cut (body ps ++ 10 ∷ more) ≡ body ps ∷ cut more)
    (said : row_of (body ps) ≡ Some (row (line.Statement s) lab)) (fits : statement_fits s ≡ true) (no_label : jumps_to_label s ≡ false)
    (here : (ls : List Definition) (at : ℕ) → statement_units ls at lab s ++ us ≡ us') (len : statement_len s + length us ≡ length us') (b : Back more us) where
  rows_are : rows_of (cut (body ps ++ 10 ∷ more)) ≡ row (line.Statement s) lab ∷ rows_of (cut more)
  rows_are = ap rows_of clean_line ∙ ap (λ o. with_row o (rows_of (cut more))) said

  one_line : Back (body ps ++ 10 ∷ more) us'
  one_line =
      record {
        none = λ n. ap (first_line_fault n) clean_line ∙ ap (λ o. or_fault (row_fault n o) (first_line_fault (n + 1) (cut more))) said ∙ ap
            (λ x. or_fault (cond x None (Some (OutOfRange n))) (first_line_fault (n + 1) (cut more))) fits ∙ b.none (n + 1);
        labels = λ at. ap (labels_from at) rows_are ∙ b.labels (at + statement_len s);
        faultless = λ all n before. ap (label_fault all n before) rows_are ∙ ap
            (λ x. cond (x && not (is_some (place_found all lab))) (Some (BadLabel n)) (label_fault all (n + 1) before (rows_of (cut more)))) no_label
            ∙ b.faultless all (n + 1) before;
        units = λ ls at. ap (units_from ls at) rows_are ∙ ap (λ l. statement_units ls at lab s ++ l) (b.units ls (at + statement_len s)) ∙ here ls at;
        count = ap units_in rows_are ∙ ap (λ n. statement_len s + n) b.count ∙ len;
      }

abbrev behind : Bool → List ProgramUnit → List ProgramUnit
behind true us = us
behind false [] = []
behind false (u ∷ us) = us

wide_behind : (us : List ProgramUnit) → AllParseBack false us → Second (high_of us) ∷ behind false us ≡ us
wide_behind [] h = absurd h
wide_behind (First i ∷ us) h = absurd h
wide_behind (Second v ∷ us) h = refl

whole_units : (wide : Bool) (i : Inst) (us : List ProgramUnit) → AllParseBack (not wide) us → units_by wide i (high_of us) ++ behind (not wide) us ≡ First i ∷ us
whole_units true i us h = ap (λ l. First i ∷ l) (wide_behind us h)
whole_units false i us h = refl

text_is : (f : Form) (i : Inst) (us : List ProgramUnit) → form_of i.opcode ≡ Some f → canonical_text (First i ∷ us) ≡ body (pieces f i (high_of us)) ++ 10 ∷ canonical_text us
text_is f i us is =
    let ps = pieces f i (high_of us) in
    ap (λ o. instruction_text o i (high_of us) ++ canonical_text us) is
    ∙ ap (λ t. t ++ canonical_text us) (line_body ps)
    ∙ append_assoc (body ps) (10 ∷ []) (canonical_text us)

lengths : (a b c : List ProgramUnit) → a ++ b ≡ c → length a + length b ≡ length c
lengths a b c e = sym (length-append a b) ∙ ap length e

one_back : (f : Form) (i : Inst) (us : List ProgramUnit) → form_of i.opcode ≡ Some f → ParsesBack f i (high_of us) → AllParseBack (not (is_wide (Some f))) us
    → Back (canonical_text us) (behind (not (is_wide (Some f))) us) → Back (canonical_text (First i ∷ us)) (First i ∷ us)
one_back f i us is s rest b =
    let ps = pieces f i (high_of us) in
    let wide = is_wide (Some f) in
    let lab = last_word (map token_of ps) in
    let whole = whole_units wide i us rest in
    let here : (ls : List Definition) (at : ℕ) → statement_units ls at lab s.parsed ++ behind (not wide) us ≡ First i ∷ us =
    λ ls at. ap (λ l. l ++ behind (not wide) us) (s.units ls at lab) ∙ whole in
    let len : statement_len s.parsed + length (behind (not wide) us) ≡ length (First i ∷ us) =
    ap (λ n. n + length (behind (not wide) us)) s.len ∙ lengths (units_by wide i (high_of us)) (behind (not wide) us) (First i ∷ us) whole in
    subst (λ t. Back t (First i ∷ us)) (sym (text_is f i us is))
    (one_line ps s.parsed lab (canonical_text us) (behind (not wide) us) (First i ∷ us) (cut_clean (body ps) (canonical_text us) (body_clean ps s.good))
    (line_says ps (line.Statement s.parsed) s.good s.means) s.fits s.no_label here len b)

all_back : (first : Bool) (us : List ProgramUnit) → AllParseBack first us → Back (canonical_text us) (behind first us)
all_back true [] h = record { none = λ n. refl; labels = λ at. refl; faultless = λ all n before. refl; units = λ ls at. refl; count = refl }
all_back true (First i ∷ us) h = one_back h.0 i us h.1 h.2 h.3 (all_back (not (is_wide (Some h.0))) us h.3)
all_back true (Second v ∷ us) h = absurd h
all_back false [] h = absurd h
all_back false (First i ∷ us) h = absurd h
all_back false (Second v ∷ us) h = all_back true us h

good_length : (n : ℕ) → 0 < n → n ≤ 512 → length_fault n ≡ None
good_length n low high = grind (arith, nat_tests)

-- if the line of each instruction is parsed as this instruction, then the canonical text of 1 to 512 units assembles to
-- them
pub spells_again : (us : List ProgramUnit) → 0 < length us → length us ≤ 512 → AllParseBack true us → assembled (canonical_text us) ≡ Ok us
spells_again us some few h =
    let b = all_back true us h in
    let lines = cut (canonical_text us) in
    let rows = rows_of lines in
    let sound : fault_of lines ≡ None =
    ap (λ o. or_fault o (rows_fault rows)) (b.none 1)
    ∙ ap (λ n. or_fault (length_fault n) (label_fault (labels_from 0 rows) 1 [] rows)) b.count
    ∙ ap (λ o. or_fault o (label_fault (labels_from 0 rows) 1 [] rows)) (good_length (length us) some few)
    ∙ b.faultless (labels_from 0 rows) 1 []
    in
    ap (assembled_with lines) sound ∙ ap Ok (b.units (labels_from 0 rows) 0)

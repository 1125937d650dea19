-- The canonical line of an instruction is parsed as this instruction, for each form.
use Rattle.std.proofs.Common.{◌≡◌, ◌<◌, ◌≤◌, ◌+◌, ◌^◌, ◌*◌, ◌/◌, ◌%◌, ℕ, suc, List, [], ◌∷◌, ◌++◌, length, map, Option, Some, None, Bool, true, false, refl, ap}
use Rattle.std.proofs.Common.{sym, ◌∙◌, subst, arith, rules, w16, w32, FitsSigned, inl, inr}
use Rattle.std.specs.Prelude.{codes, ◌&&◌, ◌==◌, ◌⊎◌, ℤ, pos, negsuc, option_map, ⊤}
use Rattle.std.specs.Char.{is_ascii_digit}
use Rattle.std.specs.Str.{all_ascii_digits}
use Rattle.std.specs.Fmt.{decimal}
use Rattle.std.proofs.lemmas.Bool.{cases_lt}
use Rattle.std.proofs.lemmas.Int.{ints, to_z-of_z}
use Rattle.std.proofs.Math.Facts.{Fits-of_z}
use Rattle.std.specs.Int.{cast_signed, cast_unsigned}
use Rattle.std.proofs.lemmas.Bool.Decides.{nat_tests}
use Rattle.std.proofs.lemmas.Fmt.{decimal_nonempty, decimal_digit, decimal_step}
use Rattle.bpf_model.specs.declared.instruction.Width.{Width}
use Rattle.bpf_model.specs.declared.instruction.Width.TheVariants.{Bits32, Bits64}
use Rattle.bpf_model.specs.declared.instruction.Source.{Source}
use Rattle.bpf_model.specs.declared.instruction.Source.TheVariants as source
use Rattle.bpf_model.specs.declared.instruction.Unit.TheVariants.{First, Second}
use Rattle.bpf_model.specs.Reading.{is_wide, is_double}
use Rattle.bpf_model.specs.declared.instruction.Operator.{Operator}
use Rattle.bpf_model.specs.declared.instruction.Operator.TheVariants as operator
use Rattle.bpf_model.specs.declared.instruction.Condition.{Condition}
use Rattle.bpf_model.specs.declared.instruction.Condition.TheVariants as condition
use Rattle.bpf_model.specs.declared.instruction.Size.{Size}
use Rattle.bpf_model.specs.declared.instruction.Size.TheVariants.{Byte, Half, Word, Double}
use Rattle.bpf_model.specs.declared.instruction.Form.{Form}
use Rattle.bpf_model.specs.declared.instruction.Form.TheVariants as form
use Rattle.bpf_asm.specs.declared.token.Token.{Token}
use Rattle.bpf_asm.specs.declared.token.Token.TheVariants.{Register, Number, Assign, Compare, Unsigned, Signed, Swap, If, Goto, GotoLong, Call, Long, Open}
use Rattle.bpf_asm.specs.declared.token.Token.TheVariants.{Close, Star, Plus, Minus}
use Rattle.bpf_asm.specs.declared.grammar.Value.{Value}
use Rattle.bpf_asm.specs.declared.grammar.Target.TheVariants.{Distance}
use Rattle.bpf_asm.specs.declared.grammar.Statement.TheVariants.{Plain, Wide, Jump}
use Rattle.bpf_asm.specs.declared.grammar.Line.{Line}
use Rattle.bpf_asm.specs.declared.grammar.Line.TheVariants as line
use Rattle.bpf_asm.specs.Lex.{Text, token_len, continues_word, kind_of}
use Rattle.bpf_asm.specs.Grammar.{Tokens, plus, minus, exactly, fields, plain, line_of, is_same, when, statement, no_fields, first_some, operand, swap, extend}
use Rattle.bpf_asm.specs.Grammar.{extension, guarded, load_form, load_with}
use Rattle.bpf_asm.specs.Text.{Piece, Next, After, token_of, register_text, operator_text, condition_text, size_text, signed_size_text, number, distance, shift}
use Rattle.bpf_asm.specs.Text.{place, swap_text, wide_value}
use Rattle.bpf_asm.specs.Program.{fits, inst_of, int_of, low_half, high_half}
use Rattle.bpf_asm.proofs.Again.{stops, body, IsFront, lit, number_front, register_front, decimal_digits, digits_continue, prefix_front, digit_code}
use Rattle.bpf_asm.proofs.Again.{number_kind, register_by, minus_token, plus_token}
use Rattle.bpf_asm.proofs.LineText.{clean, clean_append, decimal_clean, AreGood}
use Rattle.bpf_asm.proofs.ReadBack.{ParsesAs}

-- ---- the text of a number is split into its tokens and parsed as this number

abbrev pub value_of : ℤ → Value
value_of (pos n) = plus (Some n)
value_of (negsuc n) = minus (Some (suc n))

abbrev pub number_tokens : ℤ → Tokens → Tokens
number_tokens (pos n) rest = Number (Some n) ∷ rest
number_tokens (negsuc n) rest = Minus ∷ Number (Some (suc n)) ∷ rest

pub and_left : (a b : Bool) → (a && b) ≡ true → a ≡ true
and_left true b h = refl
and_left false b h = h

pub digits_minus : (t u : Text) → 0 < length t → all_ascii_digits t ≡ true → token_len (codes "-" ++ t ++ u) ≡ 1
digits_minus [] u some all = absurd (omega arith)
digits_minus (d ∷ t) u some all = minus_token (t ++ u) d (and_left (is_ascii_digit d) (all_ascii_digits t) all)

pub minus_front : (n : ℕ) (u : Text) → n < 2 ^ 64 → IsFront (codes "-") (decimal n ++ u)
minus_front n u small = lit (codes "-") (decimal n ++ u) (omega arith) refl (digits_minus (decimal n) u (decimal_nonempty n small) (decimal_digits n small))

pub number_good : (z : ℤ) (ps : List Piece) → FitsSigned w32 z → stops continues_word (body ps) → AreGood ps → AreGood (number z ps)
number_good (pos n) ps h stop g =
    let small : n < 2 ^ 64 = omega (arith, ints, h) in
    (number_front n (body ps) small stop, decimal_clean n small, g)
number_good (negsuc n) ps h stop g =
    let small : suc n < 2 ^ 64 = omega (arith, ints, h) in
    (minus_front (suc n) (body ps) small, refl, (number_front (suc n) (body ps) small stop, decimal_clean (suc n) small, g))

pub number_kinds : (z : ℤ) (ps : List Piece) → FitsSigned w32 z → map kind_of (map token_of (number z ps)) ≡ number_tokens z (map kind_of (map token_of ps))
number_kinds (pos n) ps h =
    let small : n < 2 ^ 64 = omega (arith, ints, h) in
    ap (λ k. k ∷ map kind_of (map token_of ps)) (number_kind n small)
number_kinds (negsuc n) ps h =
    let small : suc n < 2 ^ 64 = omega (arith, ints, h) in
    ap (λ k. Minus ∷ k ∷ map kind_of (map token_of ps)) (number_kind (suc n) small)

pub int_back : (z : ℤ) → int_of (value_of z) ≡ z
int_back (pos n) = refl
int_back (negsuc n) = refl

pub in_range32 : (z : ℤ) → FitsSigned w32 z → fits (2 ^ 31) (value_of z) ≡ true
in_range32 (pos n) h = let l : n < 2147483648 = omega (arith, ints, h) in grind (arith, nat_tests)
in_range32 (negsuc n) h = let l : suc n ≤ 2147483648 = omega (arith, ints, h) in grind (arith, nat_tests)

pub in_range16 : (z : ℤ) → FitsSigned w16 z → fits (2 ^ 15) (value_of z) ≡ true
in_range16 (pos n) h = let l : n < 32768 = omega (arith, ints, h) in grind (arith, nat_tests)
in_range16 (negsuc n) h = let l : suc n ≤ 32768 = omega (arith, ints, h) in grind (arith, nat_tests)

-- ---- the text of a register is split off as one token and parsed as this register

pub narrow_token : (n : ℕ) (u : Text) → n < 2 ^ 64 → stops continues_word u → token_len (119 ∷ decimal n ++ u) ≡ suc (length (decimal n))
narrow_token n u small stop = rw (prefix_front continues_word (decimal n) u (digits_continue (decimal n) (decimal_digits n small)) stop) (omega arith)

pub register_good : (w : Width) (n : ℕ) (u : Text) → n ≤ 10 → stops continues_word u → IsFront (register_text w n) u
register_good Bits64 n u l stop = register_front n u (omega arith) stop
register_good Bits32 n u l stop = record { some = omega arith; dark = refl; len = narrow_token n u (omega arith) stop }

pub register_clean : (w : Width) (n : ℕ) → n ≤ 10 → clean (register_text w n) ≡ true
register_clean Bits64 n l = clean_append (114 ∷ []) (decimal n) refl (decimal_clean n (omega arith))
register_clean Bits32 n l = clean_append (119 ∷ []) (decimal n) refl (decimal_clean n (omega arith))

pub small_narrow : (n : ℕ) → n < 10 → kind_of (register_text Bits32 n) ≡ Register Bits32 n
small_narrow n small = rw (decimal_digit n small) (rw (digit_code n small) (ap (Register Bits32) (omega arith)))

pub ten_narrow : kind_of (register_text Bits32 10) ≡ Register Bits32 10
ten_narrow = rw (decimal_step 10 (omega arith) (omega arith), decimal_digit 1 (omega arith)) refl

pub narrow_by : (n : ℕ) → (n < 10) ⊎ (n ≡ 10) → kind_of (register_text Bits32 n) ≡ Register Bits32 n
narrow_by n (inl low) = small_narrow n low
narrow_by n (inr e) = rw e ten_narrow

pub up_to_ten : (n : ℕ) → n ≤ 10 → (n < 10) ⊎ (n ≡ 10)
up_to_ten n l = elim (cases_lt n 10) [ inl a ↦ inl a | inr b ↦ inr (omega arith) ]

pub register_kind : (w : Width) (n : ℕ) → n ≤ 10 → kind_of (register_text w n) ≡ Register w n
register_kind Bits64 n l = register_by n l (up_to_ten n l)
register_kind Bits32 n l = narrow_by n (up_to_ten n l)

-- ---- an operator with two operands, or a condition, is written as one token, and is parsed back from it

-- With a blank after it, the text t is split off as one token, and this token is k. The text is clean: it neither ends
-- a line nor begins a comment.
pub record IsWritten (t : Text) (k : Token) : Type 0 where
  pub front : (u : Text) → IsFront t (32 ∷ u)
  pub plain_text : clean t ≡ true
  pub kind : kind_of t ≡ k

abbrev pub IsTwo : Operator → Type 0
IsTwo operator.Add = ⊤
IsTwo operator.Sub = ⊤
IsTwo operator.Mul = ⊤
IsTwo operator.Div = ⊤
IsTwo operator.Or = ⊤
IsTwo operator.And = ⊤
IsTwo operator.Lsh = ⊤
IsTwo operator.Rsh = ⊤
IsTwo operator.Mod = ⊤
IsTwo operator.Xor = ⊤
IsTwo operator.Mov = ⊤
IsTwo operator.Arsh = ⊤
IsTwo operator.Neg = ⊥
IsTwo operator.SwapBytes = ⊥

pub operator_written : (op : Operator) → IsTwo op → IsWritten (operator_text op (pos 0)) (Assign op 0)
operator_written operator.Add h =
    record { front = λ u. lit (operator_text operator.Add (pos 0)) (32 ∷ u) (omega arith) refl refl; plain_text = refl; kind = refl }
operator_written operator.Sub h =
    record { front = λ u. lit (operator_text operator.Sub (pos 0)) (32 ∷ u) (omega arith) refl refl; plain_text = refl; kind = refl }
operator_written operator.Mul h =
    record { front = λ u. lit (operator_text operator.Mul (pos 0)) (32 ∷ u) (omega arith) refl refl; plain_text = refl; kind = refl }
operator_written operator.Div h =
    record { front = λ u. lit (operator_text operator.Div (pos 0)) (32 ∷ u) (omega arith) refl refl; plain_text = refl; kind = refl }
operator_written operator.Or h =
    record { front = λ u. lit (operator_text operator.Or (pos 0)) (32 ∷ u) (omega arith) refl refl; plain_text = refl; kind = refl }
operator_written operator.And h =
    record { front = λ u. lit (operator_text operator.And (pos 0)) (32 ∷ u) (omega arith) refl refl; plain_text = refl; kind = refl }
operator_written operator.Lsh h =
    record { front = λ u. lit (operator_text operator.Lsh (pos 0)) (32 ∷ u) (omega arith) refl refl; plain_text = refl; kind = refl }
operator_written operator.Rsh h =
    record { front = λ u. lit (operator_text operator.Rsh (pos 0)) (32 ∷ u) (omega arith) refl refl; plain_text = refl; kind = refl }
operator_written operator.Mod h =
    record { front = λ u. lit (operator_text operator.Mod (pos 0)) (32 ∷ u) (omega arith) refl refl; plain_text = refl; kind = refl }
operator_written operator.Xor h =
    record { front = λ u. lit (operator_text operator.Xor (pos 0)) (32 ∷ u) (omega arith) refl refl; plain_text = refl; kind = refl }
operator_written operator.Mov h =
    record { front = λ u. lit (operator_text operator.Mov (pos 0)) (32 ∷ u) (omega arith) refl refl; plain_text = refl; kind = refl }
operator_written operator.Arsh h =
    record { front = λ u. lit (operator_text operator.Arsh (pos 0)) (32 ∷ u) (omega arith) refl refl; plain_text = refl; kind = refl }
operator_written operator.Neg h = absurd h
operator_written operator.SwapBytes h = absurd h

pub signed_quotient : IsWritten (operator_text operator.Div (pos 1)) (Assign operator.Div 1)
signed_quotient = record { front = λ u. lit (codes "s/=") (32 ∷ u) (omega arith) refl refl; plain_text = refl; kind = refl }

pub signed_remainder : IsWritten (operator_text operator.Mod (pos 1)) (Assign operator.Mod 1)
signed_remainder = record { front = λ u. lit (codes "s%=") (32 ∷ u) (omega arith) refl refl; plain_text = refl; kind = refl }

pub condition_written : (c : Condition) → IsWritten (condition_text c) (Compare c)
condition_written condition.Jeq =
    record { front = λ u. lit (condition_text condition.Jeq) (32 ∷ u) (omega arith) refl refl; plain_text = refl; kind = refl }
condition_written condition.Jgt = record { front = λ u. lit (condition_text condition.Jgt) (32 ∷ u) (omega arith) refl refl; plain_text = refl; kind = refl }
condition_written condition.Jge =
    record { front = λ u. lit (condition_text condition.Jge) (32 ∷ u) (omega arith) refl refl; plain_text = refl; kind = refl }
condition_written condition.Jset =
    record { front = λ u. lit (condition_text condition.Jset) (32 ∷ u) (omega arith) refl refl; plain_text = refl; kind = refl }
condition_written condition.Jne =
    record { front = λ u. lit (condition_text condition.Jne) (32 ∷ u) (omega arith) refl refl; plain_text = refl; kind = refl }
condition_written condition.Jsgt =
    record { front = λ u. lit (condition_text condition.Jsgt) (32 ∷ u) (omega arith) refl refl; plain_text = refl; kind = refl }
condition_written condition.Jsge =
    record { front = λ u. lit (condition_text condition.Jsge) (32 ∷ u) (omega arith) refl refl; plain_text = refl; kind = refl }
condition_written condition.Jlt =
    record { front = λ u. lit (condition_text condition.Jlt) (32 ∷ u) (omega arith) refl refl; plain_text = refl; kind = refl }
condition_written condition.Jle =
    record { front = λ u. lit (condition_text condition.Jle) (32 ∷ u) (omega arith) refl refl; plain_text = refl; kind = refl }
condition_written condition.Jslt =
    record { front = λ u. lit (condition_text condition.Jslt) (32 ∷ u) (omega arith) refl refl; plain_text = refl; kind = refl }
condition_written condition.Jsle =
    record { front = λ u. lit (condition_text condition.Jsle) (32 ∷ u) (omega arith) refl refl; plain_text = refl; kind = refl }

-- ---- the line of an instruction with two operands, as in `r1 += 5` or `r1 += r2`, is parsed as this instruction

pub line_by : (ts ts' : Tokens) (x : Option Line) → ts ≡ ts' → line_of ts' ≡ x → line_of ts ≡ x
line_by ts ts' x e h = ap line_of e ∙ h

pub both : (a b : Bool) → a ≡ true → b ≡ true → (a && b) ≡ true
both a b g h = ap (λ x. x && b) g ∙ h

pub same_width : (w : Width) → is_same w w ≡ true
same_width Bits32 = refl
same_width Bits64 = refl

pub short_number : (n : ℕ) → n ≤ 32 → fits (2 ^ 15) (exactly n) ≡ true
short_number n l = grind (arith, nat_tests)

pub number_line : (op : Operator) (n : ℕ) (w : Width) (d : ℕ) (z high : ℤ) → IsWritten (operator_text op (pos n)) (Assign op n) → n ≤ 32 → d ≤ 10
    → FitsSigned w32 z → statement (Register w d ∷ Assign op n ∷ number_tokens z [])
    ≡ Some (Plain (form.Arithmetic op w source.Immediate) (fields d 0 (exactly n) (value_of z)))
    → ParsesAs (Next (register_text w d) ∷ After (operator_text op (pos n)) ∷ number z []) false (inst_of (form.Arithmetic op w source.Immediate) d 0 (pos n) z)
    high
number_line op n w d (pos k) high o small l h m =
    record {
      parsed = Plain (form.Arithmetic op w source.Immediate) (fields d 0 (exactly n) (value_of (pos k)));
      good = (register_good w d _ l refl, register_clean w d l, (o.front _, o.plain_text, number_good (pos k) [] h tt tt));
      means = line_by _ (Register w d ∷ Assign op n ∷ number_tokens (pos k) []) _
          (λ j. register_kind w d l j ∷ o.kind j ∷ number_kinds (pos k) [] h j) (ap (option_map line.Statement) m);
      fits = both (fits (2 ^ 15) (exactly n)) (fits (2 ^ 31) (value_of (pos k))) (short_number n small) (in_range32 (pos k) h);
      no_label = refl;
      len = refl;
      units = λ ls at name. refl;
    }
number_line op n w d (negsuc k) high o small l h m =
    record {
      parsed = Plain (form.Arithmetic op w source.Immediate) (fields d 0 (exactly n) (value_of (negsuc k)));
      good = (register_good w d _ l refl, register_clean w d l, (o.front _, o.plain_text, number_good (negsuc k) [] h tt tt));
      means = line_by _ (Register w d ∷ Assign op n ∷ number_tokens (negsuc k) []) _ (λ j. register_kind w d l j ∷ o.kind j ∷ number_kinds (negsuc k) [] h j)
          (ap (option_map line.Statement) m);
      fits = both (fits (2 ^ 15) (exactly n)) (fits (2 ^ 31) (value_of (negsuc k))) (short_number n small) (in_range32 (negsuc k) h);
      no_label = refl;
      len = refl;
      units = λ ls at name. refl;
    }

pub register_line : (op : Operator) (n : ℕ) (w : Width) (d s : ℕ) (high : ℤ) → IsWritten (operator_text op (pos n)) (Assign op n) → n ≤ 32 → d ≤ 10 → s ≤ 10
    → statement (Register w d ∷ Assign op n ∷ Register w s ∷ []) ≡ Some (Plain (form.Arithmetic op w source.Register) (fields d s (exactly n) (exactly 0)))
    → ParsesAs (Next (register_text w d) ∷ After (operator_text op (pos n)) ∷ After (register_text w s) ∷ []) false
    (inst_of (form.Arithmetic op w source.Register) d s (pos n) (pos 0)) high
register_line op n w d s high o small l r m =
    record {
      parsed = Plain (form.Arithmetic op w source.Register) (fields d s (exactly n) (exactly 0));
      good = (register_good w d _ l refl, register_clean w d l, (o.front _, o.plain_text, (register_good w s [] r tt, register_clean w s r, tt)));
      means = line_by _ (Register w d ∷ Assign op n ∷ Register w s ∷ []) _
          (λ j. register_kind w d l j ∷ o.kind j ∷ register_kind w s r j ∷ []) (ap (option_map line.Statement) m);
      fits = both (fits (2 ^ 15) (exactly n)) (fits (2 ^ 31) (exactly 0)) (short_number n small) refl;
      no_label = refl;
      len = refl;
      units = λ ls at name. refl;
    }

pub number_means : (op : Operator) → IsTwo op → (w : Width) (d : ℕ) (z : ℤ) → statement (Register w d ∷ Assign op 0 ∷ number_tokens z [])
    ≡ Some (Plain (form.Arithmetic op w source.Immediate) (fields d 0 (exactly 0) (value_of z)))
number_means operator.Add h w d (pos k) = refl
number_means operator.Add h w d (negsuc k) = refl
number_means operator.Sub h w d (pos k) = refl
number_means operator.Sub h w d (negsuc k) = refl
number_means operator.Mul h w d (pos k) = refl
number_means operator.Mul h w d (negsuc k) = refl
number_means operator.Div h w d (pos k) = refl
number_means operator.Div h w d (negsuc k) = refl
number_means operator.Or h w d (pos k) = refl
number_means operator.Or h w d (negsuc k) = refl
number_means operator.And h w d (pos k) = refl
number_means operator.And h w d (negsuc k) = refl
number_means operator.Lsh h w d (pos k) = refl
number_means operator.Lsh h w d (negsuc k) = refl
number_means operator.Rsh h w d (pos k) = refl
number_means operator.Rsh h w d (negsuc k) = refl
number_means operator.Mod h w d (pos k) = refl
number_means operator.Mod h w d (negsuc k) = refl
number_means operator.Xor h w d (pos k) = refl
number_means operator.Xor h w d (negsuc k) = refl
number_means operator.Mov h w d (pos k) = refl
number_means operator.Mov h w d (negsuc k) = refl
number_means operator.Arsh h w d (pos k) = refl
number_means operator.Arsh h w d (negsuc k) = refl
number_means operator.Neg h w d z = absurd h
number_means operator.SwapBytes h w d z = absurd h

pub signed_quotient_means : (w : Width) (d : ℕ) (z : ℤ) → statement (Register w d ∷ Assign operator.Div 1 ∷ number_tokens z [])
    ≡ Some (Plain (form.Arithmetic operator.Div w source.Immediate) (fields d 0 (exactly 1) (value_of z)))
signed_quotient_means w d (pos k) = refl
signed_quotient_means w d (negsuc k) = refl

pub signed_remainder_means : (w : Width) (d : ℕ) (z : ℤ) → statement (Register w d ∷ Assign operator.Mod 1 ∷ number_tokens z [])
    ≡ Some (Plain (form.Arithmetic operator.Mod w source.Immediate) (fields d 0 (exactly 1) (value_of z)))
signed_remainder_means w d (pos k) = refl
signed_remainder_means w d (negsuc k) = refl

pub register_means : (op : Operator) → IsTwo op → (w : Width) (d s : ℕ) → statement (Register w d ∷ Assign op 0 ∷ Register w s ∷ [])
    ≡ Some (Plain (form.Arithmetic op w source.Register) (fields d s (exactly 0) (exactly 0)))
register_means operator.Add h w d s =
    ap (λ b. when b (Plain (form.Arithmetic operator.Add w source.Register) (fields d s (exactly 0) (exactly 0)))) (same_width w)
register_means operator.Sub h w d s =
    ap (λ b. when b (Plain (form.Arithmetic operator.Sub w source.Register) (fields d s (exactly 0) (exactly 0)))) (same_width w)
register_means operator.Mul h w d s =
    ap (λ b. when b (Plain (form.Arithmetic operator.Mul w source.Register) (fields d s (exactly 0) (exactly 0)))) (same_width w)
register_means operator.Div h w d s =
    ap (λ b. when b (Plain (form.Arithmetic operator.Div w source.Register) (fields d s (exactly 0) (exactly 0)))) (same_width w)
register_means operator.Or h w d s =
    ap (λ b. when b (Plain (form.Arithmetic operator.Or w source.Register) (fields d s (exactly 0) (exactly 0)))) (same_width w)
register_means operator.And h w d s =
    ap (λ b. when b (Plain (form.Arithmetic operator.And w source.Register) (fields d s (exactly 0) (exactly 0)))) (same_width w)
register_means operator.Lsh h w d s =
    ap (λ b. when b (Plain (form.Arithmetic operator.Lsh w source.Register) (fields d s (exactly 0) (exactly 0)))) (same_width w)
register_means operator.Rsh h w d s =
    ap (λ b. when b (Plain (form.Arithmetic operator.Rsh w source.Register) (fields d s (exactly 0) (exactly 0)))) (same_width w)
register_means operator.Mod h w d s =
    ap (λ b. when b (Plain (form.Arithmetic operator.Mod w source.Register) (fields d s (exactly 0) (exactly 0)))) (same_width w)
register_means operator.Xor h w d s =
    ap (λ b. when b (Plain (form.Arithmetic operator.Xor w source.Register) (fields d s (exactly 0) (exactly 0)))) (same_width w)
register_means operator.Mov h w d s =
    ap (λ b. when b (Plain (form.Arithmetic operator.Mov w source.Register) (fields d s (exactly 0) (exactly 0)))) (same_width w)
register_means operator.Arsh h w d s =
    ap (λ b. when b (Plain (form.Arithmetic operator.Arsh w source.Register) (fields d s (exactly 0) (exactly 0)))) (same_width w)
register_means operator.Neg h w d s = absurd h
register_means operator.SwapBytes h w d s = absurd h

-- ---- the line of a negation, as in `r1 = -r1`, is parsed as this instruction

pub same_number : (n : ℕ) → (n == n) ≡ true
same_number n = grind (arith, nat_tests)

pub move_written : IsWritten (codes "=") (Assign operator.Mov 0)
move_written = operator_written operator.Mov tt

pub minus_register : (w : Width) (n : ℕ) (u : Text) → IsFront (codes "-") (register_text w n ++ u)
minus_register Bits64 n u = lit (codes "-") (register_text Bits64 n ++ u) (omega arith) refl refl
minus_register Bits32 n u = lit (codes "-") (register_text Bits32 n ++ u) (omega arith) refl refl

pub negation_line : (w : Width) (d : ℕ) (high : ℤ) → d ≤ 10
    → ParsesAs (Next (register_text w d) ∷ After (codes "=") ∷ After (codes "-") ∷ Next (register_text w d) ∷ []) false
    (inst_of (form.Arithmetic operator.Neg w source.Immediate) d 0 (pos 0) (pos 0)) high
negation_line w d high l =
    record {
      parsed = Plain (form.Arithmetic operator.Neg w source.Immediate) (fields d 0 (exactly 0) (exactly 0));
      good = (
        register_good w d _ l refl,
        register_clean w d l,
        (move_written.front _, refl, (minus_register w d [], refl, (register_good w d [] l tt, register_clean w d l, tt))),
      );
      means = line_by _ (Register w d ∷ Assign operator.Mov 0 ∷ Minus ∷ Register w d ∷ []) _
          (λ j. register_kind w d l j ∷ Assign operator.Mov 0 ∷ Minus ∷ register_kind w d l j ∷ [])
          (ap (λ b. option_map line.Statement (first_some (when b (plain (form.Arithmetic operator.Neg w source.Immediate) d 0 (exactly 0) (exactly 0)))
          (operand operator.Mov 0 w d (Minus ∷ Register w d ∷ [])))) (both (is_same w w) (d == d) (same_width w) (same_number d)));
      fits = refl;
      no_label = refl;
      len = refl;
      units = λ ls at name. refl;
    }

-- ---- the line of END (a swap of bytes), as in `r1 = le16 r1`, is parsed as this instruction

pub decimal16 : decimal 16 ≡ codes "16"
decimal16 = rw (decimal_step 16 (omega arith) (omega arith), decimal_digit 1 (omega arith)) refl

pub decimal32 : decimal 32 ≡ codes "32"
decimal32 = rw (decimal_step 32 (omega arith) (omega arith), decimal_digit 3 (omega arith)) refl

pub decimal64 : decimal 64 ≡ codes "64"
decimal64 = rw (decimal_step 64 (omega arith) (omega arith), decimal_digit 6 (omega arith)) refl

pub written_as : (t u : Text) (k : Token) → t ≡ u → IsWritten u k → IsWritten t k
written_as t u k e h = subst (λ x. IsWritten x k) (sym e) h

pub le16_written : IsWritten (swap_text Bits32 source.Immediate (pos 16)) (Swap Bits32 source.Immediate 16)
le16_written = written_as (codes "le" ++ decimal 16) (codes "le16") (Swap Bits32 source.Immediate 16) (ap (λ t. codes "le" ++ t) decimal16)
    (record { front = λ u. lit (codes "le16") (32 ∷ u) (omega arith) refl refl; plain_text = refl; kind = refl })

pub le32_written : IsWritten (swap_text Bits32 source.Immediate (pos 32)) (Swap Bits32 source.Immediate 32)
le32_written = written_as (codes "le" ++ decimal 32) (codes "le32") (Swap Bits32 source.Immediate 32) (ap (λ t. codes "le" ++ t) decimal32)
    (record { front = λ u. lit (codes "le32") (32 ∷ u) (omega arith) refl refl; plain_text = refl; kind = refl })

pub le64_written : IsWritten (swap_text Bits32 source.Immediate (pos 64)) (Swap Bits32 source.Immediate 64)
le64_written = written_as (codes "le" ++ decimal 64) (codes "le64") (Swap Bits32 source.Immediate 64) (ap (λ t. codes "le" ++ t) decimal64)
    (record { front = λ u. lit (codes "le64") (32 ∷ u) (omega arith) refl refl; plain_text = refl; kind = refl })

pub be16_written : IsWritten (swap_text Bits32 source.Register (pos 16)) (Swap Bits32 source.Register 16)
be16_written = written_as (codes "be" ++ decimal 16) (codes "be16") (Swap Bits32 source.Register 16) (ap (λ t. codes "be" ++ t) decimal16)
    (record { front = λ u. lit (codes "be16") (32 ∷ u) (omega arith) refl refl; plain_text = refl; kind = refl })

pub be32_written : IsWritten (swap_text Bits32 source.Register (pos 32)) (Swap Bits32 source.Register 32)
be32_written = written_as (codes "be" ++ decimal 32) (codes "be32") (Swap Bits32 source.Register 32) (ap (λ t. codes "be" ++ t) decimal32)
    (record { front = λ u. lit (codes "be32") (32 ∷ u) (omega arith) refl refl; plain_text = refl; kind = refl })

pub be64_written : IsWritten (swap_text Bits32 source.Register (pos 64)) (Swap Bits32 source.Register 64)
be64_written = written_as (codes "be" ++ decimal 64) (codes "be64") (Swap Bits32 source.Register 64) (ap (λ t. codes "be" ++ t) decimal64)
    (record { front = λ u. lit (codes "be64") (32 ∷ u) (omega arith) refl refl; plain_text = refl; kind = refl })

pub bswap16_written : IsWritten (swap_text Bits64 source.Immediate (pos 16)) (Swap Bits64 source.Immediate 16)
bswap16_written = written_as (codes "bswap" ++ decimal 16) (codes "bswap16") (Swap Bits64 source.Immediate 16) (ap (λ t. codes "bswap" ++ t) decimal16)
    (record { front = λ u. lit (codes "bswap16") (32 ∷ u) (omega arith) refl refl; plain_text = refl; kind = refl })

pub bswap32_written : IsWritten (swap_text Bits64 source.Immediate (pos 32)) (Swap Bits64 source.Immediate 32)
bswap32_written = written_as (codes "bswap" ++ decimal 32) (codes "bswap32") (Swap Bits64 source.Immediate 32) (ap (λ t. codes "bswap" ++ t) decimal32)
    (record { front = λ u. lit (codes "bswap32") (32 ∷ u) (omega arith) refl refl; plain_text = refl; kind = refl })

pub bswap64_written : IsWritten (swap_text Bits64 source.Immediate (pos 64)) (Swap Bits64 source.Immediate 64)
bswap64_written = written_as (codes "bswap" ++ decimal 64) (codes "bswap64") (Swap Bits64 source.Immediate 64) (ap (λ t. codes "bswap" ++ t) decimal64)
    (record { front = λ u. lit (codes "bswap64") (32 ∷ u) (omega arith) refl refl; plain_text = refl; kind = refl })

pub low_bits : (n : ℕ) → n ≤ 64 → fits (2 ^ 31) (exactly n) ≡ true
low_bits n l = grind (arith, nat_tests)

pub swap_line : (w : Width) (s : Source) (bits d : ℕ) (high : ℤ) → IsWritten (swap_text w s (pos bits)) (Swap w s bits) → bits ≤ 64 → d ≤ 10
    → ParsesAs (Next (register_text Bits64 d) ∷ After (codes "=") ∷ After (swap_text w s (pos bits)) ∷ After (register_text Bits64 d) ∷ []) false
    (inst_of (form.Arithmetic operator.SwapBytes w s) d 0 (pos 0) (pos bits)) high
swap_line w s bits d high o few l =
    record {
      parsed = Plain (form.Arithmetic operator.SwapBytes w s) (fields d 0 (exactly 0) (exactly bits));
      good = (
        register_good Bits64 d _ l refl,
        register_clean Bits64 d l,
        (move_written.front _, refl, (o.front _, o.plain_text, (register_good Bits64 d [] l tt, register_clean Bits64 d l, tt))),
      );
      means = line_by _ (Register Bits64 d ∷ Assign operator.Mov 0 ∷ Swap w s bits ∷ Register Bits64 d ∷ []) _
          (λ j. register_kind Bits64 d l j ∷ Assign operator.Mov 0 ∷ o.kind j ∷ register_kind Bits64 d l j ∷ [])
          (ap (λ b. option_map line.Statement (first_some (when b (swap w s bits d)) (operand operator.Mov 0 Bits64 d (Swap w s bits ∷ Register Bits64 d ∷ []))))
          (same_number d));
      fits = low_bits bits few;
      no_label = refl;
      len = refl;
      units = λ ls at name. refl;
    }

-- ---- the line of a sign extension, as in `r1 = (s8)r2`, is parsed as this instruction

pub extension8_line : (w : Width) (d s : ℕ) (high : ℤ)
    → extend w d s (extension w Byte) ≡ Some (plain (form.Arithmetic operator.Mov w source.Register) d s (exactly 8) (exactly 0)) → d ≤ 10 → s ≤ 10
    → ParsesAs (Next (register_text w d) ∷ After (codes "=") ∷ After (codes "(") ∷ Next (codes "s8") ∷ Next (codes ")") ∷ Next (register_text w s) ∷ []) false
    (inst_of (form.Arithmetic operator.Mov w source.Register) d s (pos 8) (pos 0)) high
extension8_line w d s high e l r =
    record {
      parsed = Plain (form.Arithmetic operator.Mov w source.Register) (fields d s (exactly 8) (exactly 0));
      good = (
        register_good w d _ l refl,
        register_clean w d l,
        (
          move_written.front _,
          refl,
          (
            lit (codes "(") _ (omega arith) refl refl,
            refl,
            (
              lit (codes "s8") _ (omega arith) refl refl,
              refl,
              (lit (codes ")") _ (omega arith) refl refl, refl, (register_good w s [] r tt, register_clean w s r, tt)),
            ),
          ),
        ),
      );
      means = line_by _ (Register w d ∷ Assign operator.Mov 0 ∷ Open ∷ Signed Byte ∷ Close ∷ Register w s ∷ []) _
          (λ j. register_kind w d l j ∷ Assign operator.Mov 0 ∷ Open ∷ Signed Byte ∷ Close ∷ register_kind w s r j ∷ [])
          (ap (λ b. option_map line.Statement
          (first_some (guarded b (extend w d s (extension w Byte))) (operand operator.Mov 0 w d (Open ∷ Signed Byte ∷ Close ∷ Register w s ∷ []))))
          (same_width w) ∙ ap (λ o. option_map line.Statement (first_some o (operand operator.Mov 0 w d (Open ∷ Signed Byte ∷ Close ∷ Register w s ∷ [])))) e);
      fits = refl;
      no_label = refl;
      len = refl;
      units = λ ls at name. refl;
    }

pub extension16_line : (w : Width) (d s : ℕ) (high : ℤ)
    → extend w d s (extension w Half) ≡ Some (plain (form.Arithmetic operator.Mov w source.Register) d s (exactly 16) (exactly 0)) → d ≤ 10 → s ≤ 10
    → ParsesAs (Next (register_text w d) ∷ After (codes "=") ∷ After (codes "(") ∷ Next (codes "s16") ∷ Next (codes ")") ∷ Next (register_text w s) ∷ []) false
    (inst_of (form.Arithmetic operator.Mov w source.Register) d s (pos 16) (pos 0)) high
extension16_line w d s high e l r =
    record {
      parsed = Plain (form.Arithmetic operator.Mov w source.Register) (fields d s (exactly 16) (exactly 0));
      good = (
        register_good w d _ l refl,
        register_clean w d l,
        (
          move_written.front _,
          refl,
          (
            lit (codes "(") _ (omega arith) refl refl,
            refl,
            (
              lit (codes "s16") _ (omega arith) refl refl,
              refl,
              (lit (codes ")") _ (omega arith) refl refl, refl, (register_good w s [] r tt, register_clean w s r, tt)),
            ),
          ),
        ),
      );
      means = line_by _ (Register w d ∷ Assign operator.Mov 0 ∷ Open ∷ Signed Half ∷ Close ∷ Register w s ∷ []) _
          (λ j. register_kind w d l j ∷ Assign operator.Mov 0 ∷ Open ∷ Signed Half ∷ Close ∷ register_kind w s r j ∷ [])
          (ap (λ b. option_map line.Statement
          (first_some (guarded b (extend w d s (extension w Half))) (operand operator.Mov 0 w d (Open ∷ Signed Half ∷ Close ∷ Register w s ∷ []))))
          (same_width w) ∙ ap (λ o. option_map line.Statement (first_some o (operand operator.Mov 0 w d (Open ∷ Signed Half ∷ Close ∷ Register w s ∷ [])))) e);
      fits = refl;
      no_label = refl;
      len = refl;
      units = λ ls at name. refl;
    }

pub extension32_line : (w : Width) (d s : ℕ) (high : ℤ)
    → extend w d s (extension w Word) ≡ Some (plain (form.Arithmetic operator.Mov w source.Register) d s (exactly 32) (exactly 0)) → d ≤ 10 → s ≤ 10
    → ParsesAs (Next (register_text w d) ∷ After (codes "=") ∷ After (codes "(") ∷ Next (codes "s32") ∷ Next (codes ")") ∷ Next (register_text w s) ∷ []) false
    (inst_of (form.Arithmetic operator.Mov w source.Register) d s (pos 32) (pos 0)) high
extension32_line w d s high e l r =
    record {
      parsed = Plain (form.Arithmetic operator.Mov w source.Register) (fields d s (exactly 32) (exactly 0));
      good = (
        register_good w d _ l refl,
        register_clean w d l,
        (
          move_written.front _,
          refl,
          (
            lit (codes "(") _ (omega arith) refl refl,
            refl,
            (
              lit (codes "s32") _ (omega arith) refl refl,
              refl,
              (lit (codes ")") _ (omega arith) refl refl, refl, (register_good w s [] r tt, register_clean w s r, tt)),
            ),
          ),
        ),
      );
      means = line_by _ (Register w d ∷ Assign operator.Mov 0 ∷ Open ∷ Signed Word ∷ Close ∷ Register w s ∷ []) _
          (λ j. register_kind w d l j ∷ Assign operator.Mov 0 ∷ Open ∷ Signed Word ∷ Close ∷ register_kind w s r j ∷ [])
          (ap (λ b. option_map line.Statement
          (first_some (guarded b (extend w d s (extension w Word))) (operand operator.Mov 0 w d (Open ∷ Signed Word ∷ Close ∷ Register w s ∷ []))))
          (same_width w) ∙ ap (λ o. option_map line.Statement (first_some o (operand operator.Mov 0 w d (Open ∷ Signed Word ∷ Close ∷ Register w s ∷ [])))) e);
      fits = refl;
      no_label = refl;
      len = refl;
      units = λ ls at name. refl;
    }

-- ---- the line of a wide load, as in `r1 = 5 ll`, is parsed as this instruction

pub wide_low : (a b : ℕ) → a < 2 ^ 32 → (a + 2 ^ 32 * b) % 2 ^ 32 ≡ a
wide_low a b h = omega arith

pub wide_high : (a b : ℕ) → a < 2 ^ 32 → b < 2 ^ 32 → (a + 2 ^ 32 * b) / 2 ^ 32 % 2 ^ 32 ≡ b
wide_high a b h k = omega arith

pub unsigned_small : (z : ℤ) → FitsSigned w32 z → cast_unsigned w32 z < 2 ^ 32
unsigned_small z h = let f = Fits-of_z {w = w32} {z = z} h in omega (arith, f)

pub wide_line : (d : ℕ) (imm high : ℤ) → FitsSigned w32 imm → FitsSigned w32 high → d ≤ 10
    → ParsesAs (Next (register_text Bits64 d) ∷ After (codes "=") ∷ After (decimal (wide_value imm high)) ∷ After (codes "ll") ∷ []) true
    (inst_of form.Wide d 0 (pos 0) imm) high
wide_line d imm high f g l =
    let a = cast_unsigned w32 imm in
    let b = cast_unsigned w32 high in
    let small : wide_value imm high < 2 ^ 64 = let x = unsigned_small imm f in let y = unsigned_small high g in omega arith in
    let low : low_half (wide_value imm high) ≡ imm = ap (cast_signed w32) (wide_low a b (unsigned_small imm f)) ∙ to_z-of_z w32 imm f in
    let top : high_half (wide_value imm high) ≡ high = ap (cast_signed w32) (wide_high a b (unsigned_small imm f) (unsigned_small high g)) ∙ to_z-of_z w32 high g in
    record {
      parsed = Wide d (Some (wide_value imm high));
      good = (
        register_good Bits64 d _ l refl,
        register_clean Bits64 d l,
        (
          move_written.front _,
          refl,
          (number_front (wide_value imm high) _ small refl, decimal_clean (wide_value imm high) small, (lit (codes "ll") [] (omega arith) refl refl, refl, tt)),
        ),
      );
      means = line_by _ (Register Bits64 d ∷ Assign operator.Mov 0 ∷ Number (Some (wide_value imm high)) ∷ Long ∷ []) _
          (λ j. register_kind Bits64 d l j ∷ Assign operator.Mov 0 ∷ number_kind (wide_value imm high) small j ∷ Long ∷ []) refl;
      fits = refl;
      no_label = refl;
      len = refl;
      units = λ ls at name. ap (λ z. First (inst_of form.Wide d 0 (pos 0) z) ∷ Second (high_half (wide_value imm high)) ∷ []) low ∙ ap
          (λ z. First (inst_of form.Wide d 0 (pos 0) imm) ∷ Second z ∷ []) top;
    }

-- ---- the line of a load, as in `r1 = *(u8 *)(r2 + 8)`, is parsed as this instruction

abbrev pub sign_tokens : ℤ → Tokens → Tokens
sign_tokens (pos n) rest = Plus ∷ Number (Some n) ∷ rest
sign_tokens (negsuc n) rest = Minus ∷ Number (Some (suc n)) ∷ rest

pub shift_good : (z : ℤ) (ps : List Piece) → FitsSigned w16 z → stops continues_word (body ps) → AreGood ps → AreGood (shift z ps)
shift_good (pos n) ps h stop g =
    let small : n < 2 ^ 64 = omega (arith, ints, h) in
    (lit (codes "+") _ (omega arith) refl refl, refl, (number_front n (body ps) small stop, decimal_clean n small, g))
shift_good (negsuc n) ps h stop g =
    let small : suc n < 2 ^ 64 = omega (arith, ints, h) in
    (lit (codes "-") _ (omega arith) refl refl, refl, (number_front (suc n) (body ps) small stop, decimal_clean (suc n) small, g))

pub shift_kinds : (z : ℤ) (ps : List Piece) → FitsSigned w16 z → map kind_of (map token_of (shift z ps)) ≡ sign_tokens z (map kind_of (map token_of ps))
shift_kinds (pos n) ps h =
    let small : n < 2 ^ 64 = omega (arith, ints, h) in
    ap (λ k. Plus ∷ k ∷ map kind_of (map token_of ps)) (number_kind n small)
shift_kinds (negsuc n) ps h =
    let small : suc n < 2 ^ 64 = omega (arith, ints, h) in
    ap (λ k. Minus ∷ k ∷ map kind_of (map token_of ps)) (number_kind (suc n) small)

pub shift_stops : (z : ℤ) (ps : List Piece) → stops continues_word (body (shift z ps))
shift_stops (pos n) ps = refl
shift_stops (negsuc n) ps = refl

-- The text t of a SIZE, such as `u8`, is split off as one token if a blank comes after it, and this token is k. A `(`
-- before t is split off as one token too. The text t is clean: it neither ends a line nor begins a comment.
pub record IsSize (t : Text) (k : Token) : Type 0 where
  pub front : (u : Text) → IsFront t (32 ∷ u)
  pub open_front : (u : Text) → IsFront (codes "(") (t ++ u)
  pub plain_text : clean t ≡ true
  pub kind : kind_of t ≡ k

pub unsigned_size : (n : Size) → IsSize (size_text n) (Unsigned n)
unsigned_size Byte = record {
  front = λ u. lit (size_text Byte) (32 ∷ u) (omega arith) refl refl;
  open_front = λ u. lit (codes "(") (size_text Byte ++ u) (omega arith) refl refl;
  plain_text = refl;
  kind = refl;
}
unsigned_size Half = record {
  front = λ u. lit (size_text Half) (32 ∷ u) (omega arith) refl refl;
  open_front = λ u. lit (codes "(") (size_text Half ++ u) (omega arith) refl refl;
  plain_text = refl;
  kind = refl;
}
unsigned_size Word = record {
  front = λ u. lit (size_text Word) (32 ∷ u) (omega arith) refl refl;
  open_front = λ u. lit (codes "(") (size_text Word ++ u) (omega arith) refl refl;
  plain_text = refl;
  kind = refl;
}
unsigned_size Double = record {
  front = λ u. lit (size_text Double) (32 ∷ u) (omega arith) refl refl;
  open_front = λ u. lit (codes "(") (size_text Double ++ u) (omega arith) refl refl;
  plain_text = refl;
  kind = refl;
}

pub signed_size : (n : Size) → is_double n ≡ false → IsSize (signed_size_text n) (Signed n)
signed_size Byte h = record {
  front = λ u. lit (signed_size_text Byte) (32 ∷ u) (omega arith) refl refl;
  open_front = λ u. lit (codes "(") (signed_size_text Byte ++ u) (omega arith) refl refl;
  plain_text = refl;
  kind = refl;
}
signed_size Half h = record {
  front = λ u. lit (signed_size_text Half) (32 ∷ u) (omega arith) refl refl;
  open_front = λ u. lit (codes "(") (signed_size_text Half ++ u) (omega arith) refl refl;
  plain_text = refl;
  kind = refl;
}
signed_size Word h = record {
  front = λ u. lit (signed_size_text Word) (32 ∷ u) (omega arith) refl refl;
  open_front = λ u. lit (codes "(") (signed_size_text Word ++ u) (omega arith) refl refl;
  plain_text = refl;
  kind = refl;
}
signed_size Double h = absurd (cc)

pub place_good : (t : Text) (k : Token) (base : ℕ) (z : ℤ) (rest : List Piece) → IsSize t k → base ≤ 10 → FitsSigned w16 z → IsFront (codes ")") (body rest)
    → AreGood rest → AreGood (place t base z rest)
place_good t k base z rest o l h close g = (
  o.open_front _,
  refl,
  (
    o.front _,
    o.plain_text,
    (
      lit (codes "*") _ (omega arith) refl refl,
      refl,
      (
        lit (codes ")") _ (omega arith) refl refl,
        refl,
        (
          lit (codes "(") _ (omega arith) refl refl,
          refl,
          (register_good Bits64 base _ l (shift_stops z _), register_clean Bits64 base l, shift_good z (Next (codes ")") ∷ rest) h refl (close, refl, g)),
        ),
      ),
    ),
  ),
)

pub place_kinds : (t : Text) (k : Token) (base : ℕ) (z : ℤ) (rest : List Piece) → IsSize t k → base ≤ 10 → FitsSigned w16 z
    → map kind_of (map token_of (place t base z rest)) ≡ Open ∷ k ∷ Star ∷ Close ∷ Open ∷ Register Bits64 base
    ∷ sign_tokens z (Close ∷ map kind_of (map token_of rest))
place_kinds t k base z rest o l h = λ j. Open ∷ o.kind j ∷ Star ∷ Close ∷ Open ∷ register_kind Bits64 base l j ∷ shift_kinds z (Next (codes ")") ∷ rest) h j

pub load_means : (f : Form) (k : Token) (d b : ℕ) (z : ℤ) → load_form k ≡ Some f
    → line_of (Register Bits64 d ∷ Assign operator.Mov 0 ∷ Star ∷ Open ∷ k ∷ Star ∷ Close ∷ Open ∷ Register Bits64 b ∷ sign_tokens z (Close ∷ []))
    ≡ Some (line.Statement (Plain f (fields d b (value_of z) (exactly 0))))
load_means f k d b (pos n) e = ap (λ o. option_map line.Statement (first_some (load_with d o (Some (b, plus (Some n), []))) None)) e
load_means f k d b (negsuc n) e = ap (λ o. option_map line.Statement (first_some (load_with d o (Some (b, minus (Some (suc n)), []))) None)) e

pub load_line : (f : Form) (t : Text) (k : Token) (d b : ℕ) (z high : ℤ) → IsSize t k → load_form k ≡ Some f → is_wide (Some f) ≡ false → d ≤ 10 → b ≤ 10
    → FitsSigned w16 z → ParsesAs (Next (register_text Bits64 d) ∷ After (codes "=") ∷ After (codes "*") ∷ place t b z []) false (inst_of f d b z (pos 0)) high
load_line f t k d b z high o e narrow l r h =
    record {
      parsed = Plain f (fields d b (value_of z) (exactly 0));
      good = (
        register_good Bits64 d _ l refl,
        register_clean Bits64 d l,
        (
          move_written.front _,
          refl,
          (lit (codes "*") _ (omega arith) refl refl, refl, place_good t k b z [] o r h (lit (codes ")") [] (omega arith) refl refl) tt),
        ),
      );
      means = line_by _ (Register Bits64 d ∷ Assign operator.Mov 0 ∷ Star ∷ Open ∷ k ∷ Star ∷ Close ∷ Open ∷ Register Bits64 b ∷ sign_tokens z (Close ∷ [])) _
          (λ j. register_kind Bits64 d l j ∷ Assign operator.Mov 0 ∷ Star ∷ place_kinds t k b z [] o r h j) (load_means f k d b z e);
      fits = both (fits (2 ^ 15) (value_of z)) (fits (2 ^ 31) (exactly 0)) (in_range16 z h) refl;
      no_label = refl;
      len = refl;
      units = λ ls at name. ap (λ x. First (inst_of f d b x (pos 0)) ∷ []) (int_back z);
    }

-- ---- the line of a store, as in `*(u8 *)(r1 + 2) = r3`, is parsed as this instruction

pub register_store_means : (n : Size) (b s : ℕ) (z : ℤ)
    → line_of (Star ∷ Open ∷ Unsigned n ∷ Star ∷ Close ∷ Open ∷ Register Bits64 b ∷ sign_tokens z (Close ∷ Assign operator.Mov 0 ∷ Register Bits64 s ∷ []))
    ≡ Some (line.Statement (Plain (form.StoreRegister n) (fields b s (value_of z) (exactly 0))))
register_store_means n b s (pos k) = refl
register_store_means n b s (negsuc k) = refl

pub number_store_means : (n : Size) (b : ℕ) (z v : ℤ)
    → line_of (Star ∷ Open ∷ Unsigned n ∷ Star ∷ Close ∷ Open ∷ Register Bits64 b ∷ sign_tokens z (Close ∷ Assign operator.Mov 0 ∷ number_tokens v []))
    ≡ Some (line.Statement (Plain (form.StoreImmediate n) (fields b 0 (value_of z) (value_of v))))
number_store_means n b (pos k) (pos m) = refl
number_store_means n b (pos k) (negsuc m) = refl
number_store_means n b (negsuc k) (pos m) = refl
number_store_means n b (negsuc k) (negsuc m) = refl

pub equals_number : (v : ℤ) → IsFront (codes "=") (body (number v []))
equals_number (pos n) = move_written.front _
equals_number (negsuc n) = move_written.front _

pub register_store_line : (n : Size) (b s : ℕ) (z high : ℤ) → b ≤ 10 → s ≤ 10 → FitsSigned w16 z
    → ParsesAs (Next (codes "*") ∷ place (size_text n) b z (After (codes "=") ∷ After (register_text Bits64 s) ∷ [])) false
    (inst_of (form.StoreRegister n) b s z (pos 0)) high
register_store_line n b s z high l r h =
    record {
      parsed = Plain (form.StoreRegister n) (fields b s (value_of z) (exactly 0));
      good = (
        lit (codes "*") _ (omega arith) refl refl,
        refl,
        place_good (size_text n) (Unsigned n) b z (After (codes "=") ∷ After (register_text Bits64 s) ∷ [])
            (unsigned_size n) l h (lit (codes ")") _ (omega arith) refl refl)
            (move_written.front _, refl, (register_good Bits64 s [] r tt, register_clean Bits64 s r, tt)),
      );
      means = line_by _ (Star ∷ Open ∷ Unsigned n ∷ Star ∷ Close ∷ Open ∷ Register Bits64 b
          ∷ sign_tokens z (Close ∷ Assign operator.Mov 0 ∷ Register Bits64 s ∷ [])) _
          ((λ j. Star ∷ place_kinds (size_text n) (Unsigned n) b z (After (codes "=") ∷ After (register_text Bits64 s) ∷ []) (unsigned_size n) l h j) ∙ ap
          (λ k. Star ∷ Open ∷ Unsigned n ∷ Star ∷ Close ∷ Open ∷ Register Bits64 b ∷ sign_tokens z (Close ∷ Assign operator.Mov 0 ∷ k ∷ []))
          (register_kind Bits64 s r)) (register_store_means n b s z);
      fits = both (fits (2 ^ 15) (value_of z)) (fits (2 ^ 31) (exactly 0)) (in_range16 z h) refl;
      no_label = refl;
      len = refl;
      units = λ ls at name. ap (λ x. First (inst_of (form.StoreRegister n) b s x (pos 0)) ∷ []) (int_back z);
    }

pub number_store_line : (n : Size) (b : ℕ) (z v high : ℤ) → b ≤ 10 → FitsSigned w16 z → FitsSigned w32 v
    → ParsesAs (Next (codes "*") ∷ place (size_text n) b z (After (codes "=") ∷ number v [])) false (inst_of (form.StoreImmediate n) b 0 z v) high
number_store_line n b z v high l h g =
    record {
      parsed = Plain (form.StoreImmediate n) (fields b 0 (value_of z) (value_of v));
      good = (
        lit (codes "*") _ (omega arith) refl refl,
        refl,
        place_good (size_text n) (Unsigned n) b z (After (codes "=") ∷ number v []) (unsigned_size n) l h
            (lit (codes ")") _ (omega arith) refl refl) (equals_number v, refl, number_good v [] g tt tt),
      );
      means = line_by _ (Star ∷ Open ∷ Unsigned n ∷ Star ∷ Close ∷ Open ∷ Register Bits64 b ∷ sign_tokens z (Close ∷ Assign operator.Mov 0 ∷ number_tokens v []))
          _ ((λ j. Star ∷ place_kinds (size_text n) (Unsigned n) b z (After (codes "=") ∷ number v []) (unsigned_size n) l h j) ∙ ap
          (λ k. Star ∷ Open ∷ Unsigned n ∷ Star ∷ Close ∷ Open ∷ Register Bits64 b ∷ sign_tokens z (Close ∷ Assign operator.Mov 0 ∷ k)) (number_kinds v [] g))
          (number_store_means n b z v);
      fits = both (fits (2 ^ 15) (value_of z)) (fits (2 ^ 31) (value_of v)) (in_range16 z h) (in_range32 v g);
      no_label = refl;
      len = refl;
      units = λ ls at name. ap (λ x. First (inst_of (form.StoreImmediate n) b 0 x (int_of (value_of v))) ∷ []) (int_back z) ∙ ap
          (λ x. First (inst_of (form.StoreImmediate n) b 0 z x) ∷ []) (int_back v);
    }

-- ---- the line of a jump, a call or an exit is parsed as this instruction

pub digits_plus : (t u : Text) → 0 < length t → all_ascii_digits t ≡ true → token_len (codes "+" ++ t ++ u) ≡ 1
digits_plus [] u some all = absurd (omega arith)
digits_plus (d ∷ t) u some all = plus_token (t ++ u) d (and_left (is_ascii_digit d) (all_ascii_digits t) all)

pub plus_front : (n : ℕ) (u : Text) → n < 2 ^ 64 → IsFront (codes "+") (decimal n ++ u)
plus_front n u small = lit (codes "+") (decimal n ++ u) (omega arith) refl (digits_plus (decimal n) u (decimal_nonempty n small) (decimal_digits n small))

pub distance_good : (z : ℤ) → FitsSigned w32 z → AreGood (distance z [])
distance_good (pos n) h =
    let small : n < 2 ^ 64 = omega (arith, ints, h) in
    (plus_front n [] small, refl, (number_front n [] small tt, decimal_clean n small, tt))
distance_good (negsuc n) h =
    let small : suc n < 2 ^ 64 = omega (arith, ints, h) in
    (minus_front (suc n) [] small, refl, (number_front (suc n) [] small tt, decimal_clean (suc n) small, tt))

pub distance_kinds : (z : ℤ) → FitsSigned w32 z → map kind_of (map token_of (distance z [])) ≡ sign_tokens z []
distance_kinds (pos n) h =
    let small : n < 2 ^ 64 = omega (arith, ints, h) in
    ap (λ k. Plus ∷ k ∷ []) (number_kind n small)
distance_kinds (negsuc n) h =
    let small : suc n < 2 ^ 64 = omega (arith, ints, h) in
    ap (λ k. Minus ∷ k ∷ []) (number_kind (suc n) small)

pub before_number : (t : Text) (k : Token) (v : ℤ) (ps : List Piece) → IsWritten t k → IsFront t (body (number v ps))
before_number t k (pos n) ps o = o.front _
before_number t k (negsuc n) ps o = o.front _

pub before_distance : (t : Text) (k : Token) (z : ℤ) → IsWritten t k → IsFront t (body (distance z []))
before_distance t k (pos n) o = o.front _
before_distance t k (negsuc n) o = o.front _

pub goto_written : IsWritten (codes "goto") Goto
goto_written = record { front = λ u. lit (codes "goto") (32 ∷ u) (omega arith) refl refl; plain_text = refl; kind = refl }

pub gotol_written : IsWritten (codes "gotol") GotoLong
gotol_written = record { front = λ u. lit (codes "gotol") (32 ∷ u) (omega arith) refl refl; plain_text = refl; kind = refl }

pub call_written : IsWritten (codes "call") Call
call_written = record { front = λ u. lit (codes "call") (32 ∷ u) (omega arith) refl refl; plain_text = refl; kind = refl }

pub wider : (z : ℤ) → FitsSigned w16 z → FitsSigned w32 z
wider z h = search rules

pub goto_means : (z : ℤ) → line_of (Goto ∷ sign_tokens z []) ≡ Some (line.Statement (Jump form.Ja no_fields (Distance (value_of z))))
goto_means (pos n) = refl
goto_means (negsuc n) = refl

pub gotol_means : (z : ℤ) → line_of (GotoLong ∷ sign_tokens z []) ≡ Some (line.Statement (Jump form.Ja32 no_fields (Distance (value_of z))))
gotol_means (pos n) = refl
gotol_means (negsuc n) = refl

pub goto_line : (z high : ℤ) → FitsSigned w16 z → ParsesAs (Next (codes "goto") ∷ distance z []) false (inst_of form.Ja 0 0 z (pos 0)) high
goto_line z high h =
    record {
      parsed = Jump form.Ja no_fields (Distance (value_of z));
      good = (before_distance (codes "goto") Goto z goto_written, refl, distance_good z (wider z h));
      means = line_by _ (Goto ∷ sign_tokens z []) _ (ap (λ l. Goto ∷ l) (distance_kinds z (wider z h))) (goto_means z);
      fits = in_range16 z h;
      no_label = refl;
      len = refl;
      units = λ ls at name. ap (λ x. First (inst_of form.Ja 0 0 x (pos 0)) ∷ []) (int_back z);
    }

pub gotol_line : (z high : ℤ) → FitsSigned w32 z → ParsesAs (Next (codes "gotol") ∷ distance z []) false (inst_of form.Ja32 0 0 (pos 0) z) high
gotol_line z high h =
    record {
      parsed = Jump form.Ja32 no_fields (Distance (value_of z));
      good = (before_distance (codes "gotol") GotoLong z gotol_written, refl, distance_good z h);
      means = line_by _ (GotoLong ∷ sign_tokens z []) _ (ap (λ l. GotoLong ∷ l) (distance_kinds z h)) (gotol_means z);
      fits = in_range32 z h;
      no_label = refl;
      len = refl;
      units = λ ls at name. ap (λ x. First (inst_of form.Ja32 0 0 (pos 0) x) ∷ []) (int_back z);
    }

pub branch_register_means : (c : Condition) (w : Width) (d s : ℕ) (z : ℤ) → line_of (If ∷ Register w d ∷ Compare c ∷ Register w s ∷ Goto ∷ sign_tokens z [])
    ≡ Some (line.Statement (Jump (form.Branch c w source.Register) (fields d s (exactly 0) (exactly 0)) (Distance (value_of z))))
branch_register_means c w d s (pos n) = ap
    (λ b. option_map line.Statement (guarded b (Some (Jump (form.Branch c w source.Register) (fields d s (exactly 0) (exactly 0)) (Distance (plus (Some n)))))))
    (same_width w)
branch_register_means c w d s (negsuc n) = ap
    (λ b. option_map line.Statement
    (guarded b (Some (Jump (form.Branch c w source.Register) (fields d s (exactly 0) (exactly 0)) (Distance (minus (Some (suc n)))))))) (same_width w)

pub branch_number_means : (c : Condition) (w : Width) (d : ℕ) (v z : ℤ) → line_of (If ∷ Register w d ∷ Compare c ∷ number_tokens v (Goto ∷ sign_tokens z []))
    ≡ Some (line.Statement (Jump (form.Branch c w source.Immediate) (fields d 0 (exactly 0) (value_of v)) (Distance (value_of z))))
branch_number_means c w d (pos m) (pos n) = refl
branch_number_means c w d (pos m) (negsuc n) = refl
branch_number_means c w d (negsuc m) (pos n) = refl
branch_number_means c w d (negsuc m) (negsuc n) = refl

pub branch_register_line : (c : Condition) (w : Width) (d s : ℕ) (z high : ℤ) → d ≤ 10 → s ≤ 10 → FitsSigned w16 z
    → ParsesAs (Next (codes "if") ∷ After (register_text w d) ∷ After (condition_text c) ∷ After (register_text w s) ∷ After (codes "goto") ∷ distance z []) false
    (inst_of (form.Branch c w source.Register) d s z (pos 0)) high
branch_register_line c w d s z high l r h =
    let o = condition_written c in
    record {
      parsed = Jump (form.Branch c w source.Register) (fields d s (exactly 0) (exactly 0)) (Distance (value_of z));
      good = (
        lit (codes "if") _ (omega arith) refl refl,
        refl,
        (
          register_good w d _ l refl,
          register_clean w d l,
          (
            o.front _,
            o.plain_text,
            (register_good w s _ r refl, register_clean w s r, (before_distance (codes "goto") Goto z goto_written, refl, distance_good z (wider z h))),
          ),
        ),
      );
      means = line_by _ (If ∷ Register w d ∷ Compare c ∷ Register w s ∷ Goto ∷ sign_tokens z []) _
          (λ j. If ∷ register_kind w d l j ∷ o.kind j ∷ register_kind w s r j ∷ Goto ∷ distance_kinds z (wider z h) j) (branch_register_means c w d s z);
      fits = in_range16 z h;
      no_label = refl;
      len = refl;
      units = λ ls at name. ap (λ x. First (inst_of (form.Branch c w source.Register) d s x (pos 0)) ∷ []) (int_back z);
    }

pub branch_number_line : (c : Condition) (w : Width) (d : ℕ) (v z high : ℤ) → d ≤ 10 → FitsSigned w32 v → FitsSigned w16 z
    → ParsesAs (Next (codes "if") ∷ After (register_text w d) ∷ After (condition_text c) ∷ number v (After (codes "goto") ∷ distance z [])) false
    (inst_of (form.Branch c w source.Immediate) d 0 z v) high
branch_number_line c w d v z high l g h =
    let o = condition_written c in
    record {
      parsed = Jump (form.Branch c w source.Immediate) (fields d 0 (exactly 0) (value_of v)) (Distance (value_of z));
      good = (
        lit (codes "if") _ (omega arith) refl refl,
        refl,
        (
          register_good w d _ l refl,
          register_clean w d l,
          (
            before_number (condition_text c) (Compare c) v _ o,
            o.plain_text,
            number_good v (After (codes "goto") ∷ distance z []) g refl
                (before_distance (codes "goto") Goto z goto_written, refl, distance_good z (wider z h)),
          ),
        ),
      );
      means = line_by _ (If ∷ Register w d ∷ Compare c ∷ number_tokens v (Goto ∷ sign_tokens z [])) _
          ((λ j. If ∷ register_kind w d l j ∷ o.kind j ∷ number_kinds v (After (codes "goto") ∷ distance z []) g j) ∙ ap
          (λ t. If ∷ Register w d ∷ Compare c ∷ number_tokens v (Goto ∷ t)) (distance_kinds z (wider z h))) (branch_number_means c w d v z);
      fits = both (fits (2 ^ 31) (value_of v)) (fits (2 ^ 15) (value_of z)) (in_range32 v g) (in_range16 z h);
      no_label = refl;
      len = refl;
      units = λ ls at name. ap (λ x. First (inst_of (form.Branch c w source.Immediate) d 0 x (int_of (value_of v))) ∷ []) (int_back z) ∙ ap
          (λ x. First (inst_of (form.Branch c w source.Immediate) d 0 z x) ∷ []) (int_back v);
    }

pub call_means : (v : ℤ) → line_of (Call ∷ number_tokens v []) ≡ Some (line.Statement (Plain form.Call (fields 0 0 (exactly 0) (value_of v))))
call_means (pos n) = refl
call_means (negsuc n) = refl

pub call_line : (v high : ℤ) → FitsSigned w32 v → ParsesAs (Next (codes "call") ∷ number v []) false (inst_of form.Call 0 0 (pos 0) v) high
call_line v high h =
    record {
      parsed = Plain form.Call (fields 0 0 (exactly 0) (value_of v));
      good = (before_number (codes "call") Call v [] call_written, refl, number_good v [] h tt tt);
      means = line_by _ (Call ∷ number_tokens v []) _ (ap (λ l. Call ∷ l) (number_kinds v [] h)) (call_means v);
      fits = in_range32 v h;
      no_label = refl;
      len = refl;
      units = λ ls at name. ap (λ x. First (inst_of form.Call 0 0 (pos 0) x) ∷ []) (int_back v);
    }

pub exit_line : (high : ℤ) → ParsesAs (Next (codes "exit") ∷ []) false (inst_of form.Exit 0 0 (pos 0) (pos 0)) high
exit_line high =
    record {
      parsed = Plain form.Exit (fields 0 0 (exactly 0) (exactly 0));
      good = (lit (codes "exit") [] (omega arith) refl refl, refl, tt);
      means = refl;
      fits = refl;
      no_label = refl;
      len = refl;
      units = λ ls at name. refl;
    }

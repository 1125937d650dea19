-- If the typing rules find a flaw in an instruction, then the flaw is one that `MayHave` allows for the instruction's
-- form, fields and unit.
use Rattle.std.proofs.Common.{◌≡◌, ℕ, ◌+◌, ◌-◌, ◌≤◌, List, Option, Some, None, Bool, true, false, refl, ap, subst, inl, inr, arith}
use Rattle.std.specs.Prelude.{Result, Ok, Err, ℤ, pos, negsuc, neg_ℤ, ◌+ℤ◌, int_le, nat_le, ◌==◌, ◌&&◌, ◌||◌, cond}
use Rattle.std.proofs.lemmas.Bool.{eqb-true}
use Rattle.std.proofs.lemmas.Bool.Decides.{nat_tests}
use Rattle.bpf_model.specs.declared.instruction.Inst.{Inst}
use Rattle.bpf_model.specs.declared.instruction.Width.{Width}
use Rattle.bpf_model.specs.declared.instruction.Width.TheVariants.{Bits32, Bits64}
use Rattle.bpf_model.specs.declared.instruction.Source.{Source}
use Rattle.bpf_model.specs.declared.instruction.Source.TheVariants.{Immediate, Register}
use Rattle.bpf_model.specs.declared.instruction.Operator.{Operator}
use Rattle.bpf_model.specs.declared.instruction.Operator.TheVariants.{Add, Sub, Neg, Mov, SwapBytes}
use Rattle.bpf_model.specs.declared.instruction.Form.{Form}
use Rattle.bpf_model.specs.declared.instruction.Form.TheVariants.{Arithmetic, Wide, Load, LoadSigned, StoreImmediate, StoreRegister, Ja, Ja32, Branch}
use Rattle.bpf_model.specs.declared.instruction.Form.TheVariants.{Call, Exit}
use Rattle.bpf_model.specs.declared.machine.Helper.{Helper}
use Rattle.bpf_model.specs.declared.machine.Helper.TheVariants.{CounterGet, CounterAdd, CounterTake, PointState, PointRecord, PriceOf}
use Rattle.bpf_model.specs.Reading.{bytes_in}
use Rattle.bpf_model.specs.Machine.{map_option, helper_of, shifted, is_aligned}
use Rattle.verifier.specs.declared.helpers.Kind.TheVariants.{Nothing, Number, Counter, Place}
use Rattle.verifier.specs.HelperCalls.{kinds}
use Rattle.verifier.specs.declared.types.LoadOptions.{LoadOptions}
use Rattle.bpf_model.specs.declared.context.Layout.{Layout}
use Rattle.bpf_model.specs.Layouts.{context_len}
use Rattle.verifier.specs.declared.types.RegType.{RegType}
use Rattle.verifier.specs.declared.types.RegType.TheVariants.{Unset, Num, Const, Ctx, Stk}
use Rattle.verifier.specs.declared.types.Fact.{Fact}
use Rattle.verifier.specs.Effects.{Effect}
use Rattle.verifier.specs.declared.types.Flaw.{Flaw}
use Rattle.verifier.specs.declared.types.Flaw.TheVariants.{FallsOff, WriteR10, NotANumber, NotAPointer, OutOfRange, UnsetBytes, StoreToContext, StorePointer}
use Rattle.verifier.specs.declared.types.Flaw.TheVariants.{PointerArithmetic, NoSuchHelper, BadArgument, UndeclaredCounter}
use Rattle.verifier.specs.Rules.{type_at, is_unset, is_pointer, is_numeric, is_zero_offset, one_number, two_numbers, ctx_at, sum_type, copied_type, alu_type}
use Rattle.verifier.specs.Rules.{operand_type, put_type, all_in, lowest, number_at, number_set, load_type, reload_type, loaded_type, marks, store_type}
use Rattle.verifier.specs.Rules.{stores_if_pointer, fits_kind, is_declared, call_with, call_type, kind_at, unmarked, marks_record, record_at, after_call, effect}
use Rattle.verifier.specs.Rules.{falls_off, checked_effect}
use Rattle.verifier.specs.RefusedPrograms.{FallsOffEnd, IsOperand, NoHelper, HasArgument, UsesCounter, MayHave}

abbrev Typed : Type 0
Typed = Result RegType Flaw

abbrev Effects : Type 0
Effects = Result Effect Flaw

abbrev bad : Flaw → Typed
bad f = Err f

abbrev wrong : Flaw → Effects
wrong f = Err f

is_wrong : (P : Flaw → Type 0) (f g : Flaw) → wrong f ≡ wrong g → P f → P g
is_wrong P f g e h = let same : f ≡ g = cc in subst P same h

module _ (P : Flaw → Type 0) (flaw : Flaw) where
  this : (f : Flaw) → bad f ≡ bad flaw → P f → P flaw
  this f e h = let same : f ≡ flaw = cc in subst P same h

  this_effect : (f : Flaw) → wrong f ≡ wrong flaw → P f → P flaw
  this_effect f e h = let same : f ≡ flaw = cc in subst P same h

  no_flaw : (t : RegType) → Ok t ≡ bad flaw → P flaw
  no_flaw t e = absurd (cc)

  no_effect : (x : Effect) → Ok x ≡ wrong flaw → P flaw
  no_effect x e = absurd (cc)

  one_shown : (r : ℕ) (a b : Bool) → P (NotANumber r) → P PointerArithmetic → cond a (bad (NotANumber r)) (cond b (bad PointerArithmetic) (Ok Num)) ≡ bad flaw
      → P flaw
  one_shown r true b p q e = this (NotANumber r) e p
  one_shown r false true p q e = this PointerArithmetic e q
  one_shown r false false p q e = no_flaw Num e

  two_shown : (dst src : ℕ) (a b c : Bool) → P (NotANumber dst) → (b ≡ true → P (NotANumber src)) → P PointerArithmetic
      → cond a (bad (NotANumber dst)) (cond b (bad (NotANumber src)) (cond c (bad PointerArithmetic) (Ok Num))) ≡ bad flaw → P flaw
  two_shown dst src true b c p q r e = this (NotANumber dst) e p
  two_shown dst src false true c p q r e = this (NotANumber src) e (q refl)
  two_shown dst src false false true p q r e = this PointerArithmetic e r
  two_shown dst src false false false p q r e = no_flaw Num e

  ctx_shown : (o : Option ℕ) → P OutOfRange → ctx_at o ≡ bad flaw → P flaw
  ctx_shown None p e = this OutOfRange e p
  ctx_shown (Some k) p e = no_flaw (Ctx k) e

  stk_shown : (b : Bool) (k : ℤ) → P OutOfRange → cond b (Ok (Stk k)) (bad OutOfRange) ≡ bad flaw → P flaw
  stk_shown true k p e = no_flaw (Stk k) e
  stk_shown false k p e = this OutOfRange e p

  copied_shown : (src : ℕ) (b : Bool) (t : RegType) → P (NotANumber src) → cond b (bad (NotANumber src)) (Ok t) ≡ bad flaw → P flaw
  copied_shown src true t p e = this (NotANumber src) e p
  copied_shown src false t p e = no_flaw t e

  put_shown : (types : List RegType) (dst : ℕ) (r : Typed) → ((f : Flaw) → r ≡ bad f → P f) → put_type types dst r ≡ wrong flaw → P flaw
  put_shown types dst (Err f) all e = this_effect f e (all f refl)
  put_shown types dst (Ok t) all e = no_effect (unmarked _) e

  set_shown : (b : Bool) (types : List RegType) (dst : ℕ) (r : Typed) → (b ≡ true → P WriteR10) → ((f : Flaw) → r ≡ bad f → P f)
      → cond b (wrong WriteR10) (put_type types dst r) ≡ wrong flaw → P flaw
  set_shown true types dst r p all e = this_effect WriteR10 e (p refl)
  set_shown false types dst r p all e = put_shown types dst r all e

  place_shown : (o : Option ℕ) → P OutOfRange → number_at o ≡ bad flaw → P flaw
  place_shown None p e = this OutOfRange e p
  place_shown (Some at) p e = no_flaw Num e

  bytes_shown : (b : Bool) → P UnsetBytes → cond b (Ok Num) (bad UnsetBytes) ≡ bad flaw → P flaw
  bytes_shown true p e = no_flaw Num e
  bytes_shown false p e = this UnsetBytes e p

  set_place_shown : (set : List Bool) (size : ℕ) (o : Option ℕ) → P OutOfRange → P UnsetBytes → number_set set size o ≡ bad flaw → P flaw
  set_place_shown set size None p q e = this OutOfRange e p
  set_place_shown set size (Some at) p q e = bytes_shown (all_in set at size) q e

  load_shown : (layout : Layout) (set : List Bool) (base : RegType) (i : Inst) (size : ℕ) → P NotAPointer → P OutOfRange → P UnsetBytes
      → load_type layout set base i size ≡ bad flaw → P flaw
  load_shown layout set Unset i size p q r e = this NotAPointer e p
  load_shown layout set Num i size p q r e = this NotAPointer e p
  load_shown layout set (Const c) i size p q r e = this NotAPointer e p
  load_shown layout set (Ctx k) i size p q r e = place_shown (shifted k i.offset (context_len layout - size)) q e
  load_shown layout set (Stk k) i size p q r e = set_place_shown set size (shifted (lowest k) i.offset (512 - size)) q r e

  kept_shown : (b : Bool) (t : RegType) (r : Typed) → (r ≡ bad flaw → P flaw) → cond b r (Ok t) ≡ bad flaw → P flaw
  kept_shown true t r all e = all e
  kept_shown false t r all e = no_flaw t e

  loaded_shown : (layout : Layout) (set : List Bool) (spills : List ℕ) (base : RegType) (i : Inst) (size : ℕ) → P NotAPointer → P OutOfRange → P UnsetBytes
      → loaded_type layout set spills base i size ≡ bad flaw → P flaw
  loaded_shown layout set spills base i size p q r e =
      kept_shown (is_unset (reload_type spills base i size)) (reload_type spills base i size) (load_type layout set base i size)
      (λ h. load_shown layout set base i size p q r h) e

  marks_shown : (types : List RegType) (size : ℕ) (o : Option ℕ) → P OutOfRange → marks types size o ≡ wrong flaw → P flaw
  marks_shown types size None p e = this_effect OutOfRange e p
  marks_shown types size (Some at) p e = no_effect _ e

  store_shown : (types : List RegType) (base : RegType) (i : Inst) (size : ℕ) → P NotAPointer → P OutOfRange → P StoreToContext
      → store_type types base i size ≡ wrong flaw → P flaw
  store_shown types Unset i size p q r e = this_effect NotAPointer e p
  store_shown types Num i size p q r e = this_effect NotAPointer e p
  store_shown types (Const c) i size p q r e = this_effect NotAPointer e p
  store_shown types (Ctx k) i size p q r e = this_effect StoreToContext e r
  store_shown types (Stk k) i size p q r e = marks_shown types size (shifted (lowest k) i.offset (512 - size)) q e

  keeps_shown : (b whole : Bool) (x y : Effect) → P StorePointer → cond b (cond whole (Ok y) (wrong StorePointer)) (Ok x) ≡ wrong flaw → P flaw
  keeps_shown true true x y p e = no_effect y e
  keeps_shown true false x y p e = this_effect StorePointer e p
  keeps_shown false whole x y p e = no_effect x e

  pointer_shown : (value : RegType) (r : Effects) → P StorePointer → (r ≡ wrong flaw → P flaw) → stores_if_pointer value r ≡ wrong flaw → P flaw
  pointer_shown value (Err f) p all e = all e
  pointer_shown value (Ok x) p all e = keeps_shown (is_pointer value) (is_aligned x.len x.at) x (record x { spilled = value }) p e

  unset_shown : (b : Bool) (src : ℕ) (r : Effects) → P (NotANumber src) → (r ≡ wrong flaw → P flaw) → cond b (wrong (NotANumber src)) r ≡ wrong flaw → P flaw
  unset_shown true src r p all e = this_effect (NotANumber src) e p
  unset_shown false src r p all e = all e

  compared_shown : (dst src : ℕ) (a b : Bool) (x : Effect) → P (NotANumber dst) → (b ≡ false → P (NotANumber src))
      → cond a (cond b (Ok x) (wrong (NotANumber src))) (wrong (NotANumber dst)) ≡ wrong flaw → P flaw
  compared_shown dst src true true x p q e = no_effect x e
  compared_shown dst src true false x p q e = this_effect (NotANumber src) e (q refl)
  compared_shown dst src false b x p q e = this_effect (NotANumber dst) e p

  exited_shown : (a : Bool) (x : Effect) → P (NotANumber 0) → cond a (Ok x) (wrong (NotANumber 0)) ≡ wrong flaw → P flaw
  exited_shown true x p e = no_effect x e
  exited_shown false x p e = this_effect (NotANumber 0) e p

  call_shown : (p q d : Bool) (x : Effect) → (p ≡ false → P (BadArgument 1)) → (q ≡ false → P (BadArgument 2)) → (d ≡ false → P UndeclaredCounter)
      → cond p (cond q (cond d (Ok x) (wrong UndeclaredCounter)) (wrong (BadArgument 2))) (wrong (BadArgument 1)) ≡ wrong flaw → P flaw
  call_shown true true true x a b c e = no_effect x e
  call_shown true true false x a b c e = this_effect UndeclaredCounter e (c refl)
  call_shown true false d x a b c e = this_effect (BadArgument 2) e (b refl)
  call_shown false q d x a b c e = this_effect (BadArgument 1) e (a refl)

never : {A : Type 0} (b : Bool) → b ≡ true → b ≡ false → A
never true p q = absurd (cc)
never false p q = absurd (cc)

not_plain : (o : ℤ) → is_zero_offset o ≡ false → ¬ (o ≡ pos 0)
not_plain o h e = let t : is_zero_offset o ≡ true = ap is_zero_offset e in never (is_zero_offset o) t h

plain_or : (b : Bool) (x y : Typed) (flaw : Flaw) (P : Flaw → Type 0) → cond b x y ≡ bad flaw → (x ≡ bad flaw → P flaw)
    → (b ≡ false → y ≡ bad flaw → P flaw) → P flaw
plain_or true x y flaw P e p q = p e
plain_or false x y flaw P e p q = q refl e

ten : (dst : ℕ) → (dst == 10) ≡ true → dst ≡ 10
ten dst e = eqb-true dst 10 e

le_from : (m n : ℕ) → nat_le m n ≡ true → m ≤ n
le_from m n e = grind (arith, nat_tests)

-- a second operand whose type is unset is the source register
second_by : (s : Source) (w : Width) (i : Inst) (types : List RegType) → is_unset (operand_type s w i types) ≡ true → IsOperand i s i.src
second_by Register w i types e = inr refl
second_by Immediate w i types e = absurd (cc)

second_counted : (s : Source) (w : Width) (i : Inst) (types : List RegType) → is_numeric (operand_type s w i types) ≡ false → IsOperand i s i.src
second_counted Register w i types e = inr refl
second_counted Immediate w i types e = absurd (cc)

first_by : (s : Source) (i : Inst) → IsOperand i s i.dst
first_by Register i = inl refl
first_by Immediate i = refl

module _ (count pc : ℕ) (i : Inst) (types : List RegType) (flaw : Flaw) where
  numbers_shows : (form : Form) (s : Source) (w : Width) (a : RegType) → MayHave count pc i form (NotANumber i.dst)
      → (IsOperand i s i.src → MayHave count pc i form (NotANumber i.src)) → MayHave count pc i form PointerArithmetic
      → two_numbers i.dst i.src a (operand_type s w i types) ≡ bad flaw → MayHave count pc i form flaw
  numbers_shows form s w a p q r e =
      two_shown (MayHave count pc i form) flaw i.dst i.src (is_unset a) (is_unset (operand_type s w i types))
      (is_pointer a || is_pointer (operand_type s w i types)) p (λ u. q (second_by s w i types u)) r e

  -- if `sum_type` finds a flaw in a 64-bit ADD or SUB with an immediate, then the flaw is one that `MayHave` allows for
  -- this instruction
  moved_shows : (layout : Layout) (op : Operator) → MayHave count pc i (Arithmetic op Bits64 Immediate) OutOfRange
      → MayHave count pc i (Arithmetic op Bits64 Immediate) (NotANumber i.dst) → (z : ℤ) (a : RegType)
      → sum_type layout Bits64 Immediate i z a (operand_type Immediate Bits64 i types) ≡ bad flaw → MayHave count pc i (Arithmetic op Bits64 Immediate) flaw
  moved_shows layout op p q z (Ctx k) e = ctx_shown (MayHave count pc i (Arithmetic op Bits64 Immediate)) flaw (shifted k z (context_len layout)) p e
  moved_shows layout op p q z (Stk k) e =
      stk_shown (MayHave count pc i (Arithmetic op Bits64 Immediate)) flaw (int_le (negsuc 511) (k +ℤ z) && int_le (k +ℤ z) (pos 0)) (k +ℤ z) p e
  moved_shows layout op p q z Unset e = this (MayHave count pc i (Arithmetic op Bits64 Immediate)) flaw (NotANumber i.dst) e q
  moved_shows layout op p q z Num e = no_flaw (MayHave count pc i (Arithmetic op Bits64 Immediate)) flaw Num e
  moved_shows layout op p q z (Const c) e = no_flaw (MayHave count pc i (Arithmetic op Bits64 Immediate)) flaw Num e

  alu_shows : (layout : Layout) (op : Operator) (w : Width) (s : Source) (a : RegType) → alu_type layout op w s i a (operand_type s w i types) ≡ bad flaw
      → MayHave count pc i (Arithmetic op w s) flaw
  alu_shows layout Add Bits64 Immediate a e = moved_shows layout Add (inr tt) refl i.imm a e
  alu_shows layout Add Bits64 Register a e = numbers_shows (Arithmetic Add Bits64 Register) Register Bits64 a (inl refl) (λ h. h) tt e
  alu_shows layout Add Bits32 s a e = numbers_shows (Arithmetic Add Bits32 s) s Bits32 a (first_by s i) (λ h. h) tt e
  alu_shows layout Sub Bits64 Immediate a e = moved_shows layout Sub (inr tt) refl (neg_ℤ i.imm) a e
  alu_shows layout Sub Bits64 Register a e = numbers_shows (Arithmetic Sub Bits64 Register) Register Bits64 a (inl refl) (λ h. h) tt e
  alu_shows layout Sub Bits32 s a e = numbers_shows (Arithmetic Sub Bits32 s) s Bits32 a (first_by s i) (λ h. h) tt e
  alu_shows layout Mov w Immediate a e = no_flaw (MayHave count pc i (Arithmetic Mov w Immediate)) flaw _ e
  alu_shows layout Mov Bits32 Register a e =
      one_shown (MayHave count pc i (Arithmetic Mov Bits32 Register)) flaw i.src (is_unset (type_at types i.src)) (is_pointer (type_at types i.src)) refl tt e
  alu_shows layout Mov Bits64 Register a e =
      plain_or (is_zero_offset i.offset) (copied_type i.src (type_at types i.src)) (one_number i.src (type_at types i.src)) flaw
      (MayHave count pc i (Arithmetic Mov Bits64 Register)) e
      (λ g. copied_shown (MayHave count pc i (Arithmetic Mov Bits64 Register)) flaw i.src (is_unset (type_at types i.src)) (type_at types i.src) refl g)
      (λ no g. one_shown (MayHave count pc i (Arithmetic Mov Bits64 Register)) flaw i.src (is_unset (type_at types i.src)) (is_pointer (type_at types i.src))
      refl (not_plain i.offset no) g)
  alu_shows layout Neg w s a e = one_shown (MayHave count pc i (Arithmetic Neg w s)) flaw i.dst (is_unset a) (is_pointer a) refl tt e
  alu_shows layout SwapBytes w s a e = one_shown (MayHave count pc i (Arithmetic SwapBytes w s)) flaw i.dst (is_unset a) (is_pointer a) refl tt e
  alu_shows layout op w s a e = numbers_shows (Arithmetic op w s) s w a (first_by s i) (λ h. h) tt e

  -- ---- a call's flaw shows that its helper doesn't exist, or has the argument at fault, or uses a counter

  abbrev CallShown : Option Helper → Flaw → Type 0
  CallShown o NoSuchHelper = NoHelper o
  CallShown o (BadArgument n) = HasArgument n o
  CallShown o UndeclaredCounter = UsesCounter o
  CallShown o f = ⊥

  call_by : (h : Helper) (declared : ℕ) (a b : RegType) → call_with declared types (kind_at (kinds h) 0) (kind_at (kinds h) 1) a b ≡ wrong flaw
      → CallShown (Some h) flaw
  call_by CounterGet declared a b e = call_shown (CallShown (Some CounterGet)) flaw (fits_kind Counter a) true (is_declared declared Counter a)
      (marks_record (after_call types) (record_at Nothing b)) (λ h. refl) (λ h. absurd (cc)) (λ h. tt) e
  call_by CounterAdd declared a b e = call_shown (CallShown (Some CounterAdd)) flaw (fits_kind Counter a) (fits_kind Number b) (is_declared declared Counter a)
      (marks_record (after_call types) (record_at Number b)) (λ h. inl refl) (λ h. inr refl) (λ h. tt) e
  call_by CounterTake declared a b e = call_shown (CallShown (Some CounterTake)) flaw (fits_kind Counter a) (fits_kind Number b)
      (is_declared declared Counter a) (marks_record (after_call types) (record_at Number b)) (λ h. inl refl) (λ h. inr refl) (λ h. tt) e
  call_by PointState declared a b e = call_shown (CallShown (Some PointState)) flaw (fits_kind Number a) true true (marks_record (after_call types)
      (record_at Nothing b)) (λ h. refl) (λ h. absurd (cc)) (λ h. absurd (cc)) e
  call_by PointRecord declared a b e = call_shown (CallShown (Some PointRecord)) flaw (fits_kind Number a) (fits_kind Place b) true
      (marks_record (after_call types) (record_at Place b)) (λ h. inl refl) (λ h. inr refl) (λ h. absurd (cc)) e
  call_by PriceOf declared a b e = call_shown (CallShown (Some PriceOf)) flaw (fits_kind Number a) true true (marks_record (after_call types)
      (record_at Nothing b)) (λ h. refl) (λ h. absurd (cc)) (λ h. absurd (cc)) e

  calls : (o : Option Helper) (declared : ℕ) → call_type declared types (map_option kinds o) ≡ wrong flaw → CallShown o flaw
  calls None declared e = this_effect (CallShown None) flaw NoSuchHelper e tt
  calls (Some h) declared e = call_by h declared (type_at types 1) (type_at types 2) e

call_shows : (count pc : ℕ) (i : Inst) (types : List RegType) (flaw : Flaw) → CallShown count pc i types flaw (helper_of i.imm) flaw
    → MayHave count pc i Call flaw
call_shows count pc i types NoSuchHelper h = h
call_shows count pc i types (BadArgument n) h = h
call_shows count pc i types UndeclaredCounter h = h
call_shows count pc i types FallsOff h = absurd h
call_shows count pc i types WriteR10 h = absurd h
call_shows count pc i types (NotANumber r) h = absurd h
call_shows count pc i types NotAPointer h = absurd h
call_shows count pc i types OutOfRange h = absurd h
call_shows count pc i types UnsetBytes h = absurd h
call_shows count pc i types StoreToContext h = absurd h
call_shows count pc i types StorePointer h = absurd h
call_shows count pc i types PointerArithmetic h = absurd h

-- ---- a flaw that the typing rules find in an instruction is one that it may have by its form (`MayHave`)

effect_shows : (count pc : ℕ) (options : LoadOptions) (fact : Fact) (i : Inst) (upper : ℤ) (form : Form) (flaw : Flaw) → effect options fact i upper form ≡ wrong flaw
    → MayHave count pc i form flaw
effect_shows count pc options fact i upper (Arithmetic op w s) flaw e =
    set_shown (MayHave count pc i (Arithmetic op w s)) flaw (i.dst == 10) fact.types i.dst
    (alu_type options.layout op w s i (type_at fact.types i.dst) (operand_type s w i fact.types)) (ten i.dst)
    (λ f h. alu_shows count pc i fact.types f options.layout op w s (type_at fact.types i.dst) h) e
effect_shows count pc options fact i upper Wide flaw e =
    set_shown (MayHave count pc i Wide) flaw (i.dst == 10) fact.types i.dst (Ok (Const _)) (ten i.dst) (λ f h. no_flaw (MayHave count pc i Wide) f _ h) e
effect_shows count pc options fact i upper (Load size) flaw e =
    set_shown (MayHave count pc i (Load size)) flaw (i.dst == 10) fact.types i.dst
    (loaded_type options.layout fact.stack fact.spills (type_at fact.types i.src) i (bytes_in size)) (ten i.dst)
    (λ f h. loaded_shown (MayHave count pc i (Load size)) f options.layout fact.stack fact.spills (type_at fact.types i.src) i (bytes_in size)
    (inl tt) (inl (inl tt)) tt h) e
effect_shows count pc options fact i upper (LoadSigned size) flaw e =
    set_shown (MayHave count pc i (LoadSigned size)) flaw (i.dst == 10) fact.types i.dst
    (load_type options.layout fact.stack (type_at fact.types i.src) i (bytes_in size)) (ten i.dst)
    (λ f h. load_shown (MayHave count pc i (LoadSigned size)) f options.layout fact.stack (type_at fact.types i.src) i (bytes_in size)
    (inl tt) (inl (inl tt)) tt h) e
effect_shows count pc options fact i upper (StoreImmediate size) flaw e =
    store_shown (MayHave count pc i (StoreImmediate size)) flaw fact.types (type_at fact.types i.dst) i (bytes_in size) (inr tt) (inl (inr tt)) tt e
effect_shows count pc options fact i upper (StoreRegister size) flaw e =
    let stored = store_type fact.types (type_at fact.types i.dst) i (bytes_in size) in
    unset_shown (MayHave count pc i (StoreRegister size)) flaw (is_unset (type_at fact.types i.src)) i.src (stores_if_pointer (type_at fact.types i.src) stored)
    refl
    (λ g. pointer_shown (MayHave count pc i (StoreRegister size)) flaw (type_at fact.types i.src) stored tt
    (λ h. store_shown (MayHave count pc i (StoreRegister size)) flaw fact.types (type_at fact.types i.dst) i (bytes_in size) (inr tt) (inl (inr tt)) tt h) g) e
effect_shows count pc options fact i upper Ja flaw e = no_effect (MayHave count pc i Ja) flaw _ e
effect_shows count pc options fact i upper Ja32 flaw e = no_effect (MayHave count pc i Ja32) flaw _ e
effect_shows count pc options fact i upper (Branch c w s) flaw e =
    compared_shown (MayHave count pc i (Branch c w s)) flaw i.dst i.src (is_numeric (type_at fact.types i.dst)) (is_numeric (operand_type s w i fact.types))
    (unmarked fact.types) (first_by s i) (second_counted s w i fact.types) e
effect_shows count pc options fact i upper Exit flaw e =
    exited_shown (MayHave count pc i Exit) flaw (is_numeric (type_at fact.types 0)) (unmarked fact.types) refl e
effect_shows count pc options fact i upper Call flaw e = call_shows count pc i fact.types flaw (calls count pc i fact.types flaw (helper_of i.imm) options.mask e)

falls_shows : (count pc : ℕ) (form : Form) → falls_off count pc form ≡ true → FallsOffEnd count pc form
falls_shows count pc Exit e = absurd (cc)
falls_shows count pc Ja e = absurd (cc)
falls_shows count pc Ja32 e = absurd (cc)
falls_shows count pc Wide e = le_from count (pc + 2) e
falls_shows count pc form e = le_from count (pc + 1) e

judged_shown : (P : Flaw → Type 0) (b : Bool) (r : Effects) (flaw : Flaw) → (b ≡ true → P FallsOff) → (r ≡ wrong flaw → P flaw)
    → cond b (wrong FallsOff) r ≡ wrong flaw → P flaw
judged_shown P true r flaw p q e = is_wrong P FallsOff flaw e (p refl)
judged_shown P false r flaw p q e = q e

-- if the typing rules find a flaw in an instruction, then the flaw is one that `MayHave` allows for the instruction's
-- form, fields and unit
pub checked_effect_shows : (count pc : ℕ) (options : LoadOptions) (fact : Fact) (i : Inst) (upper : ℤ) (form : Form) (flaw : Flaw)
    → checked_effect count pc options fact i upper form ≡ wrong flaw → MayHave count pc i form flaw
checked_effect_shows count pc options fact i upper form flaw e =
    judged_shown (MayHave count pc i form) (falls_off count pc form) (effect options fact i upper form) flaw (falls_shows count pc form)
    (effect_shows count pc options fact i upper form flaw) e

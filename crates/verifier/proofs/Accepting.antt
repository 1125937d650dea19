-- The typing rules accept every plain program (one that works on R0 and the context only).
use Rattle.std.proofs.Common.{◌≡◌, ℕ, zero, suc, ◌+◌, ◌-◌, ◌*◌, ◌^◌, ◌<◌, ◌≤◌, List, [], ◌∷◌, Option, Some, None, Bool, true, false, refl, sym, ap, ◌∙◌, subst}
use Rattle.std.proofs.Common.{inl, inr, arith, length}
use Rattle.std.specs.Prelude.{Result, Ok, Err, IsSome, ℤ, nat_le, slice_get, slice_set, ◌==◌, cond, ⊤}
use Rattle.std.specs.Int.{cast_unsigned, w32}
use Rattle.std.proofs.lemmas.Bool.{cond_both, eqb-true}
use Rattle.std.proofs.lemmas.Bool.Decides.{nat_tests}
use Rattle.std.proofs.lemmas.Option.{slice_get_within}
use Rattle.std.proofs.lemmas.List.{get_or-set_other, get_or-set_same, length-set}
use Rattle.bpf_model.specs.declared.instruction.Inst.{Inst}
use Rattle.bpf_model.specs.declared.instruction.Unit.{Unit as ProgramUnit}
use Rattle.bpf_model.specs.declared.instruction.Unit.TheVariants.{First, Second}
use Rattle.bpf_model.specs.declared.instruction.Width.{Width}
use Rattle.bpf_model.specs.declared.instruction.Width.TheVariants.{Bits32, Bits64}
use Rattle.bpf_model.specs.declared.instruction.Source.TheVariants.{Immediate, Register}
use Rattle.bpf_model.specs.declared.instruction.Operator.{Operator}
use Rattle.bpf_model.specs.declared.instruction.Operator.TheVariants.{Add, Sub, Neg, Mov, SwapBytes}
use Rattle.bpf_model.specs.declared.instruction.Size.{Size}
use Rattle.bpf_model.specs.declared.instruction.Form.{Form}
use Rattle.bpf_model.specs.declared.instruction.Form.TheVariants.{Arithmetic, Wide, Load, LoadSigned, StoreImmediate, StoreRegister, Ja, Ja32, Branch}
use Rattle.bpf_model.specs.declared.instruction.Form.TheVariants.{Call, Exit}
use Rattle.bpf_model.specs.Reading.{bytes_in, form_of, units}
use Rattle.bpf_model.specs.Arithmetic.{low}
use Rattle.bpf_model.specs.Machine.{shifted, immediate}
use Rattle.bpf_model.proofs.Reading.{wide_at}
use Rattle.verifier.specs.declared.types.LoadOptions.{LoadOptions}
use Rattle.bpf_model.specs.declared.context.Layout.{Layout}
use Rattle.bpf_model.specs.Layouts.{context_len}
use Rattle.verifier.specs.declared.types.RegType.{RegType}
use Rattle.verifier.specs.declared.types.RegType.TheVariants.{Unset, Num, Const, Ctx, Stk}
use Rattle.verifier.specs.declared.types.Flaw.{Flaw}
use Rattle.verifier.specs.declared.types.Flaw.TheVariants.{FallsOff, NotANumber}
use Rattle.verifier.specs.declared.types.Fact.{Fact}
use Rattle.verifier.specs.Effects.{Effect}
use Rattle.verifier.specs.Rules.{type_at, is_numeric, is_zero_offset, one_number, two_numbers, alu_type, unmarked, set_type, load_type, loaded_type, number_at}
use Rattle.verifier.specs.Rules.{compared, exited, effect, falls_off, checked_effect, join_type}
use Rattle.verifier.specs.Inference.{successor_units, join_types, entry_fact, fact_after, instruction_at, ruled, flaw_in, flaw_of, flaw_under, taken_in, arrived}
use Rattle.verifier.specs.Inference.{arrived_all, passed_by, passed_from, passed, known, inferred, or_else, first_flaw_below}
use Rattle.verifier.specs.Operations.{upper_of}
use Rattle.verifier.specs.Plain.{IsPlainForm, SetsFirst, LoadsArgument, ArePlainUnits}
use Rattle.verifier.specs.Accepting.{ArePlain, PlainOption, PlainTypesAt, AcceptsAll}
use Rattle.verifier.proofs.Inference.{type_at-joined}
use Rattle.verifier.proofs.Accepted.{instruction_is}

abbrev ok_of : Effect → Result Effect Flaw
ok_of e = Ok e

abbrev Typed : Type 0
Typed = Result RegType Flaw

-- the result of the typing rules is the type of a number, and not a flaw
abbrev GivesNumber : Typed → Type 0
GivesNumber (Ok t) = is_numeric t ≡ true
GivesNumber (Err e) = ⊥

one_ok : (r : ℕ) (a : RegType) → is_numeric a ≡ true → one_number r a ≡ Ok Num
one_ok r Num h = refl
one_ok r (Const c) h = refl
one_ok r Unset h = absurd (cc)
one_ok r (Ctx k) h = absurd (cc)
one_ok r (Stk k) h = absurd (cc)

two_ok : (r q n : ℕ) (a : RegType) → is_numeric a ≡ true → two_numbers r q a (Const n) ≡ Ok Num
two_ok r q n Num h = refl
two_ok r q n (Const c) h = refl
two_ok r q n Unset h = absurd (cc)
two_ok r q n (Ctx k) h = absurd (cc)
two_ok r q n (Stk k) h = absurd (cc)

plain_move : (b : Bool) (n : ℕ) → is_numeric (cond b (Const n) Num) ≡ true
plain_move true n = refl
plain_move false n = refl

gives : (o : Typed) → o ≡ Ok Num → GivesNumber o
gives o e = subst GivesNumber (sym e) refl

numbers_ok : (layout : Layout) (op : Operator) (w : Width) (i : Inst) (a : RegType) (n : ℕ) → is_numeric a ≡ true
    → GivesNumber (alu_type layout op w Immediate i a (Const n))
numbers_ok layout Add Bits64 i Num n h = refl
numbers_ok layout Add Bits32 i Num n h = refl
numbers_ok layout Add Bits64 i (Const c) n h = refl
numbers_ok layout Add Bits32 i (Const c) n h = refl
numbers_ok layout Sub Bits64 i Num n h = refl
numbers_ok layout Sub Bits32 i Num n h = refl
numbers_ok layout Sub Bits64 i (Const c) n h = refl
numbers_ok layout Sub Bits32 i (Const c) n h = refl
numbers_ok layout Add w i Unset n h = absurd (cc)
numbers_ok layout Add w i (Ctx k) n h = absurd (cc)
numbers_ok layout Add w i (Stk k) n h = absurd (cc)
numbers_ok layout Sub w i Unset n h = absurd (cc)
numbers_ok layout Sub w i (Ctx k) n h = absurd (cc)
numbers_ok layout Sub w i (Stk k) n h = absurd (cc)
numbers_ok layout Mov w i a n h = plain_move (is_zero_offset i.offset) (low w (immediate w i.imm))
numbers_ok layout Neg w i a n h = gives (one_number i.dst a) (one_ok i.dst a h)
numbers_ok layout SwapBytes w i a n h = gives (one_number i.dst a) (one_ok i.dst a h)
numbers_ok layout op w i a n h = gives (two_numbers i.dst i.src a (Const n)) (two_ok i.dst i.src n a h)

-- the instruction is accepted, and after it R1 points to the context and R0 holds a number
abbrev Accepted : Result Effect Flaw → Type 0
Accepted r = (e : Effect) × (r ≡ ok_of e) × ArePlain e.types

-- if R1 points to the context, then an instruction that writes a number to R0 is accepted; after it R1 still points to
-- the context, and R0 holds a number
set_first : (types : List RegType) (o : Typed) → 2 ≤ length types → type_at types 1 ≡ Ctx 0 → GivesNumber o → Accepted (set_type types 0 o)
set_first types (Err e) l b g = absurd g
set_first types (Ok t) l b g = (
  unmarked (slice_set types 0 t),
  refl,
  record {
    long = let e = length-set types 0 t in omega (arith, e);
    base = get_or-set_other types 0 1 t Unset (omega arith) ∙ b;
    number = ap is_numeric (get_or-set_same types 0 t Unset (omega arith)) ∙ g;
  },
)

set_dst : (types : List RegType) (dst : ℕ) (o : Typed) → dst ≡ 0 → 2 ≤ length types → type_at types 1 ≡ Ctx 0 → GivesNumber o → Accepted (set_type types dst o)
set_dst types dst o z l b g = subst (λ d. Accepted (set_type types d o)) (sym z) (set_first types o l b g)

load_ok : (o : Option ℕ) → IsSome o → GivesNumber (number_at o)
load_ok None h = absurd (cc)
load_ok (Some at) h = refl

-- If R1 points to the context, then a load through R1 into R0 whose bytes are inside the context is accepted. It gives
-- a number, since no pointer is spilled in the context.
loaded_first : (layout : Layout) (fact : Fact) (i : Inst) (size : Size) → LoadsArgument layout i size → 2 ≤ length fact.types → type_at fact.types 1 ≡ Ctx 0
    → Accepted (set_type fact.types i.dst (loaded_type layout fact.stack fact.spills (type_at fact.types i.src) i (bytes_in size)))
loaded_first layout fact i size f l b =
    let o = loaded_type layout fact.stack fact.spills (type_at fact.types i.src) i (bytes_in size) in
    let same : loaded_type layout fact.stack fact.spills (Ctx 0) i (bytes_in size) ≡ o =
    ap (λ t. loaded_type layout fact.stack fact.spills t i (bytes_in size)) (sym (ap (type_at fact.types) f.1 ∙ b)) in
    set_dst fact.types i.dst o f.0 l b (subst GivesNumber same (load_ok (shifted 0 i.offset (context_len layout - bytes_in size)) f.2))

load_first : (layout : Layout) (fact : Fact) (i : Inst) (size : Size) → LoadsArgument layout i size → 2 ≤ length fact.types → type_at fact.types 1 ≡ Ctx 0
    → Accepted (set_type fact.types i.dst (load_type layout fact.stack (type_at fact.types i.src) i (bytes_in size)))
load_first layout fact i size f l b =
    let o = load_type layout fact.stack (type_at fact.types i.src) i (bytes_in size) in
    let same : load_type layout fact.stack (Ctx 0) i (bytes_in size) ≡ o =
    ap (λ t. load_type layout fact.stack t i (bytes_in size)) (sym (ap (type_at fact.types) f.1 ∙ b)) in
    set_dst fact.types i.dst o f.0 l b (subst GivesNumber same (load_ok (shifted 0 i.offset (context_len layout - bytes_in size)) f.2))

compare_ok : (types : List RegType) (dst src n : ℕ) (a : RegType) → is_numeric a ≡ true → ArePlain types → Accepted (compared types dst src a (Const n))
compare_ok types dst src n a h p =
    (unmarked types, ap (λ b. cond b (ok_of (unmarked types)) (Err (NotANumber dst))) h, p)

exit_ok : (types : List RegType) → ArePlain types → Accepted (exited types (type_at types 0))
exit_ok types p = (unmarked types, ap (λ b. cond b (ok_of (unmarked types)) (Err (NotANumber 0))) p.number, p)

-- An instruction of a plain form is accepted if R1 points to the context and R0 holds a number. A form is plain if it
-- is EXIT or a jump without condition, works on R0 alone, or loads into R0 from the context (`IsPlainForm`).
plain_effect : (options : LoadOptions) (fact : Fact) (i : Inst) (upper : ℤ) (form : Form) → ArePlain fact.types → IsPlainForm options.layout i form
    → Accepted (effect options fact i upper form)
plain_effect options fact i upper Ja p f = (unmarked fact.types, refl, p)
plain_effect options fact i upper Ja32 p f = (unmarked fact.types, refl, p)
plain_effect options fact i upper Exit p f = exit_ok fact.types p
plain_effect options fact i upper Wide p f =
    let o : Typed = Ok (Const (cast_unsigned w32 upper * 2 ^ 32 + cast_unsigned w32 i.imm)) in
    set_dst fact.types i.dst o f p.long p.base refl
plain_effect options fact i upper (Branch c w Immediate) p f =
    compare_ok fact.types i.dst i.src (immediate w i.imm) (type_at fact.types i.dst) (ap (λ d. is_numeric (type_at fact.types d)) f ∙ p.number) p
plain_effect options fact i upper (Arithmetic SwapBytes w s) p f =
    let h = ap (λ d. is_numeric (type_at fact.types d)) f ∙ p.number in
    set_dst fact.types i.dst (one_number i.dst (type_at fact.types i.dst)) f p.long p.base
    (gives (one_number i.dst (type_at fact.types i.dst)) (one_ok i.dst (type_at fact.types i.dst) h))
plain_effect options fact i upper (Arithmetic op w Immediate) p f =
    let h = ap (λ d. is_numeric (type_at fact.types d)) f ∙ p.number in
    set_dst fact.types i.dst (alu_type options.layout op w Immediate i (type_at fact.types i.dst) (Const (immediate w i.imm))) f p.long p.base
    (numbers_ok options.layout op w i (type_at fact.types i.dst) (immediate w i.imm) h)
plain_effect options fact i upper (Load size) p f = loaded_first options.layout fact i size f p.long p.base
plain_effect options fact i upper (LoadSigned size) p f = load_first options.layout fact i size f p.long p.base
plain_effect options fact i upper (Arithmetic op w Register) p f = absurd f
plain_effect options fact i upper (Branch c w Register) p f = absurd f
plain_effect options fact i upper (StoreImmediate size) p f = absurd f
plain_effect options fact i upper (StoreRegister size) p f = absurd f
plain_effect options fact i upper Call p f = absurd f

-- If R1 points to the context, then an instruction of a plain form that sets R0 without reading R0 is accepted: a load,
-- a wide load or a move of an immediate. The first instruction of a plain program is one of these.
first_effect : (options : LoadOptions) (fact : Fact) (i : Inst) (upper : ℤ) (form : Form) → 2 ≤ length fact.types → type_at fact.types 1 ≡ Ctx 0
    → IsPlainForm options.layout i form → SetsFirst form → Accepted (effect options fact i upper form)
first_effect options fact i upper Wide l b f s =
    let o : Typed = Ok (Const (cast_unsigned w32 upper * 2 ^ 32 + cast_unsigned w32 i.imm)) in set_dst fact.types i.dst o f l b refl
first_effect options fact i upper (Load size) l b f s = loaded_first options.layout fact i size f l b
first_effect options fact i upper (LoadSigned size) l b f s = load_first options.layout fact i size f l b
first_effect options fact i upper (Arithmetic Mov w Immediate) l b f s =
    set_dst fact.types i.dst (alu_type options.layout Mov w Immediate i (type_at fact.types i.dst) (Const (immediate w i.imm))) f l b
    (plain_move (is_zero_offset i.offset) (low w (immediate w i.imm)))
first_effect options fact i upper (Arithmetic Mov w Register) l b f s = absurd s
first_effect options fact i upper (Arithmetic op w source) l b f s = absurd s
first_effect options fact i upper Ja l b f s = absurd s
first_effect options fact i upper Ja32 l b f s = absurd s
first_effect options fact i upper Exit l b f s = absurd s
first_effect options fact i upper (Branch c w source) l b f s = absurd s
first_effect options fact i upper (StoreImmediate size) l b f s = absurd s
first_effect options fact i upper (StoreRegister size) l b f s = absurd s
first_effect options fact i upper Call l b f s = absurd s

-- the join of two types of numbers is the type of a number
join_numeric : (a b : RegType) → is_numeric a ≡ true → is_numeric b ≡ true → is_numeric (join_type a b) ≡ true
join_numeric Num Num h g = refl
join_numeric Num (Const d) h g = refl
join_numeric (Const c) Num h g = refl
join_numeric (Const c) (Const d) h g = plain_move (c == d) c
join_numeric Num Unset h g = absurd (cc)
join_numeric Num (Ctx k) h g = absurd (cc)
join_numeric Num (Stk k) h g = absurd (cc)
join_numeric (Const c) Unset h g = absurd (cc)
join_numeric (Const c) (Ctx k) h g = absurd (cc)
join_numeric (Const c) (Stk k) h g = absurd (cc)
join_numeric Unset b h g = absurd (cc)
join_numeric (Ctx k) b h g = absurd (cc)
join_numeric (Stk k) b h g = absurd (cc)

pub plain_join : (a b j : List RegType) → 2 ≤ length j → ((r : ℕ) → type_at j r ≡ join_type (type_at a r) (type_at b r)) → ArePlain a → ArePlain b → ArePlain j
plain_join a b j l e p q =
    record {
      long = l;
      base = e 1 ∙ ap (λ t. join_type t (type_at b 1)) p.base ∙ ap (join_type (Ctx 0)) q.base;
      number = ap is_numeric (e 0) ∙ join_numeric (type_at a 0) (type_at b 0) p.number q.number;
    }

-- ---- no instruction of a plain program (one that works on R0 and the context only) runs past the last unit

forms_same : (f g : Form) (o : Option Form) → o ≡ Some f → o ≡ Some g → f ≡ g
forms_same f g o a b = cc

module _ (bytes : List ℕ) (us : List ProgramUnit) (options : LoadOptions) (reads : units bytes ≡ Some us) (plain : ArePlainUnits options.layout us) (pc : ℕ) (i : Inst)
    (at : slice_get us pc ≡ Some (First i)) where
  -- an instruction in the last unit of a plain program is an exit
  exits_last : (form : Form) → form_of i.opcode ≡ Some form → length us ≤ pc + 1 → Exit ≡ form
  exits_last form is l =
      let inside = slice_get_within us pc (First i) at in
      let last : length us - 1 ≡ pc = omega arith in
      let here : slice_get us pc ≡ Some (First plain.last) = subst (λ k. slice_get us k ≡ Some (First plain.last)) last plain.last_is in
      let same : Some (First plain.last) ≡ Some (First i) = sym here ∙ at in
      let unit : plain.last ≡ i = cc in
      forms_same Exit form (form_of i.opcode) (subst (λ u. form_of u.opcode ≡ Some Exit) unit plain.exits) is

  le_of : (m n : ℕ) → nat_le m n ≡ true → m ≤ n
  le_of m n e = grind (arith, nat_tests)

  stays_by : (b : Bool) (n : ℕ) → nat_le (length us) n ≡ b → (length us ≤ n → ⊥) → b ≡ false
  stays_by true n e h = absurd (h (le_of (length us) n e))
  stays_by false n e h = refl

  no_exit : (form : Form) → form_of i.opcode ≡ Some form → (Exit ≡ form → ⊥) → nat_le (length us) (pc + 1) ≡ false
  no_exit form is other = stays_by (nat_le (length us) (pc + 1)) (pc + 1) refl (λ l. other (exits_last form is l))

  no_last_wide : form_of i.opcode ≡ Some Wide → length us ≤ pc + 2 → ⊥
  no_last_wide is l =
      let second = wide_at bytes us pc i reads at is in
      let inside = slice_get_within us (pc + 1) (Second _) second in
      let last : length us - 1 ≡ pc + 1 = omega arith in
      let here = subst (λ k. slice_get us k ≡ Some (First plain.last)) last plain.last_is in
      let same : Some (First plain.last) ≡ Some (Second _) = sym here ∙ second in
      cc

  stays_on : (form : Form) → form_of i.opcode ≡ Some form → falls_off (length us) pc form ≡ false
  stays_on Exit is = refl
  stays_on Ja is = refl
  stays_on Ja32 is = refl
  stays_on Wide is = stays_by (nat_le (length us) (pc + 2)) (pc + 2) refl (no_last_wide is)
  stays_on (Arithmetic op w s) is = no_exit (Arithmetic op w s) is (λ e. cc)
  stays_on (Load size) is = no_exit (Load size) is (λ e. cc)
  stays_on (LoadSigned size) is = no_exit (LoadSigned size) is (λ e. cc)
  stays_on (StoreImmediate size) is = no_exit (StoreImmediate size) is (λ e. cc)
  stays_on (StoreRegister size) is = no_exit (StoreRegister size) is (λ e. cc)
  stays_on (Branch c w s) is = no_exit (Branch c w s) is (λ e. cc)
  stays_on Call is = no_exit Call is (λ e. cc)

  accepted : (fact : Fact) (upper : ℤ) (form : Form) → form_of i.opcode ≡ Some form → Accepted (effect options fact i upper form)
      → Accepted (checked_effect (length us) pc options fact i upper form)
  accepted fact upper form is x =
      (x.0, ap (λ b. cond b (Err FallsOff) (effect options fact i upper form)) (stays_on form is) ∙ x.1, x.2)

  plain_here : (fact : Fact) (upper : ℤ) (form : Form) → form_of i.opcode ≡ Some form → PlainTypesAt pc fact.types
      → Accepted (checked_effect (length us) pc options fact i upper form)
  plain_here fact upper form is (inr p) =
      accepted fact upper form is (plain_effect options fact i upper form p (plain.each pc i form at is))
  plain_here fact upper form is (inl z) =
      let two : 2 ≤ length fact.types = let e = ap (λ l. length l) z.1 in omega (arith, e) in
      let base : type_at fact.types 1 ≡ Ctx 0 = ap (λ l. type_at l 1) z.1 in
      let sets = plain.sets i form (subst (λ k. slice_get us k ≡ Some (First i)) z.0 at) is in
      accepted fact upper form is (first_effect options fact i upper form two base (plain.each pc i form at is) sets)

pub plain_accepts : (bytes : List ℕ) (us : List ProgramUnit) (options : LoadOptions) → units bytes ≡ Some us → ArePlainUnits options.layout us → AcceptsAll us options
plain_accepts bytes us options reads plain =
    record { each = λ pc i fact at types upper form is. plain_here bytes us options reads plain pc i at fact upper form is types }

-- ---- if each instruction is accepted with all types that a plain program can have there, no reached unit has a flaw

long_joined : (a b : List RegType) → 2 ≤ length a → 2 ≤ length b → 2 ≤ length (join_types a b)
long_joined [] b la lb = absurd (omega arith)
long_joined (x ∷ []) b la lb = absurd (omega arith)
long_joined (x ∷ y ∷ a) [] la lb = absurd (omega arith)
long_joined (x ∷ y ∷ a) (z ∷ []) la lb = absurd (omega arith)
long_joined (x ∷ y ∷ a) (z ∷ w ∷ b) la lb = omega arith

plain_taken : (o : Option Fact) (fact : Fact) → PlainOption o → ArePlain fact.types → ArePlain (taken_in o fact).types
plain_taken None fact p q = q
plain_taken (Some old) fact p q =
    plain_join old.types fact.types (join_types old.types fact.types) (long_joined old.types fact.types p.long q.long) (type_at-joined old.types fact.types) p q

plain_arrived : (q to : ℕ) (fact : Fact) (o : Option Fact) → ArePlain fact.types → PlainOption o → PlainOption (arrived q fact to o)
plain_arrived q to fact o plain p = cond_both (q == to) (Some (taken_in o fact)) o PlainOption (λ e. plain_taken o fact p plain) (λ e. p)

plain_all : (q : ℕ) (fact : Fact) (tos : List ℕ) (o : Option Fact) → ArePlain fact.types → PlainOption o → PlainOption (arrived_all q fact tos o)
plain_all q fact [] o plain p = p
plain_all q fact (to ∷ tos) o plain p = plain_all q fact tos (arrived q fact to o) plain (plain_arrived q to fact o plain p)

plain_by : (q : ℕ) (fact : Fact) (e : Effect) (tos : Option (List ℕ)) (o : Option Fact) → ArePlain e.types → PlainOption o
    → PlainOption (passed_by q fact (Ok e) tos o)
plain_by q fact e None o plain p = p
plain_by q fact e (Some tos) o plain p = plain_all q (fact_after fact e) tos o plain p

above_of : (pc q : ℕ) (types : List RegType) → pc < q → PlainTypesAt q types → ArePlain types
above_of pc q types l (inl z) = absurd (omega (arith, z.0))
above_of pc q types l (inr p) = p

-- If unit q has a fact, one of two things is true: by this fact R1 points to the context and R0 holds a number; or q is
-- 0, and the fact has the register types with which a run begins.
abbrev PlainKnown : ℕ → Option Fact → Type 0
PlainKnown q None = ⊤
PlainKnown q (Some fact) = PlainTypesAt q fact.types

plain_option : (pc q : ℕ) (o : Option Fact) → pc < q → PlainKnown q o → PlainOption o
plain_option pc q None l p = tt
plain_option pc q (Some fact) l p = above_of pc q fact.types l p

known_option : (q : ℕ) (o : Option Fact) → PlainOption o → PlainKnown q o
known_option q None p = tt
known_option q (Some fact) p = inr p

module _ (us : List ProgramUnit) (options : LoadOptions) (all : AcceptsAll us options) where
  ruled_plain : (pc : ℕ) (fact : Fact) (x : Inst × Form) → PlainTypesAt pc fact.types → instruction_at us pc ≡ Some x → Accepted (ruled us options pc fact x)
  ruled_plain pc fact x p at =
      let is = instruction_is (slice_get us pc) x at in
      all.each pc x.0 fact is.0 p (upper_of us pc) x.1 is.1

  passed_plain : (pc q : ℕ) (fact : Fact) (o : Option (Inst × Form)) (old : Option Fact) → PlainTypesAt pc fact.types → instruction_at us pc ≡ o
      → PlainOption old → PlainOption (passed_from us options pc fact o q old)
  passed_plain pc q fact None old p at before = before
  passed_plain pc q fact (Some x) old p at before =
      let r = ruled_plain pc fact x p at in
      subst (λ e. PlainOption (passed_by q fact e (successor_units pc x.0 x.1) old)) (sym r.1) (plain_by q fact r.0 (successor_units pc x.0 x.1) old r.2 before)

  plain_past : (pc q : ℕ) (here old : Option Fact) → PlainKnown pc here → PlainOption old → PlainOption (passed us options pc here q old)
  plain_past pc q None old p before = before
  plain_past pc q (Some fact) old p before = passed_plain pc q fact (instruction_at us pc) old p refl before

  plain_start : (q : ℕ) → PlainKnown q (known us options 0 q)
  unfolding known
  plain_start q = cond_both (q == 0) (Some entry_fact) None (PlainKnown q) (λ e. inl (eqb-true q 0 e, refl)) (λ e. tt)

  plain_known : (n q : ℕ) → n ≤ q → PlainKnown q (known us options n q)
  unfolding known
  plain_known zero q l = plain_start q
  plain_known (suc n) q l =
      known_option q (known us options (suc n) q)
      (plain_past n q (known us options n n) (known us options n q) (plain_known n n (omega arith))
      (plain_option n q (known us options n q) (omega arith) (plain_known n q (omega arith))))

  no_flaw_of : (pc : ℕ) (fact : Fact) (o : Option (Inst × Form)) → PlainTypesAt pc fact.types → instruction_at us pc ≡ o → flaw_of us options pc fact o ≡ None
  no_flaw_of pc fact None p at = refl
  no_flaw_of pc fact (Some x) p at = ap (flaw_in pc) (ruled_plain pc fact x p at).1

  no_flaw_under : (pc : ℕ) (o : Option Fact) → PlainKnown pc o → flaw_under us options pc o ≡ None
  no_flaw_under pc None p = refl
  no_flaw_under pc (Some fact) p = no_flaw_of pc fact (instruction_at us pc) p refl

  pub plain_flawless : (n : ℕ) → first_flaw_below us options n ≡ None
  unfolding first_flaw_below
  plain_flawless zero = refl
  plain_flawless (suc n) =
      ap (λ o. or_else o (flaw_under us options n (inferred us options n))) (plain_flawless n)
      ∙ no_flaw_under n (inferred us options n) (plain_known n n (omega arith))

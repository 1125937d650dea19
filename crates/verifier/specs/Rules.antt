-- Definitions: the typing rules, as functions (this profile, type rules). No run of a program that they accept gets
-- stuck.
use Rattle.std.specs.Prelude.{ℕ, zero, suc, ◌+◌, ◌*◌, ◌/◌, ◌%◌, ◌-◌, ◌^◌, ◌==◌, nat_le, Bool, true, false, ◌&&◌, ◌||◌, if◌then◌else◌, ℤ, pos, negsuc, neg_ℤ}
use Rattle.std.specs.Prelude.{◌+ℤ◌, int_le, List, ◌∷◌, drop, slice_set, slice_index, slice_index_or, Option, Some, None, is_some, Result, Ok, Err}
use Rattle.std.specs.Ordering.{int_eq}
use Rattle.std.specs.Int.{cast_unsigned, w32}
use Rattle.bpf_model.specs.declared.instruction.Inst.{Inst}
use Rattle.bpf_model.specs.declared.instruction.Width.{Width}
use Rattle.bpf_model.specs.declared.instruction.Width.TheVariants.{Bits32, Bits64}
use Rattle.bpf_model.specs.declared.instruction.Source.{Source}
use Rattle.bpf_model.specs.declared.instruction.Source.TheVariants.{Immediate, Register}
use Rattle.bpf_model.specs.declared.instruction.Operator.{Operator}
use Rattle.bpf_model.specs.declared.instruction.Operator.TheVariants.{Add, Sub, Neg, Mov, SwapBytes}
use Rattle.bpf_model.specs.declared.instruction.Form.{Form}
use Rattle.bpf_model.specs.declared.instruction.Form.TheVariants.{Arithmetic, Wide, Load, LoadSigned, StoreImmediate, StoreRegister, Ja, Ja32, Branch}
use Rattle.bpf_model.specs.declared.instruction.Form.TheVariants.{Call, Exit}
use Rattle.bpf_model.specs.Reading.{bytes_in}
use Rattle.bpf_model.specs.Arithmetic.{low}
use Rattle.bpf_model.specs.Machine.{shifted, immediate, is_aligned}
use Rattle.verifier.specs.declared.helpers.Kind.{Kind}
use Rattle.verifier.specs.declared.helpers.Kind.TheVariants.{Nothing, Number, Counter, Place}
use Rattle.verifier.specs.HelperCalls.{signature}
use Rattle.bpf_model.specs.declared.context.Layout.{Layout}
use Rattle.bpf_model.specs.Layouts.{context_len}
use Rattle.verifier.specs.declared.types.LoadOptions.{LoadOptions}
use Rattle.verifier.specs.declared.types.RegType.{RegType}
use Rattle.verifier.specs.declared.types.RegType.TheVariants.{Unset, Num, Const, Ctx, Stk}
use Rattle.verifier.specs.declared.types.Fact.{Fact}
use Rattle.verifier.specs.Effects.{Effect}
use Rattle.verifier.specs.declared.types.Flaw.{Flaw}
use Rattle.verifier.specs.declared.types.Flaw.TheVariants.{FallsOff, WriteR10, NotANumber, NotAPointer, OutOfRange, UnsetBytes, StoreToContext, StorePointer}
use Rattle.verifier.specs.declared.types.Flaw.TheVariants.{PointerArithmetic, NoSuchHelper, BadArgument, UndeclaredCounter}

abbrev pub type_at : List RegType → ℕ → RegType
type_at types r = slice_index_or types r Unset

abbrev pub is_unset : RegType → Bool
is_unset Unset = true
is_unset Num = false
is_unset (Const c) = false
is_unset (Ctx k) = false
is_unset (Stk k) = false

abbrev pub is_pointer : RegType → Bool
is_pointer Unset = false
is_pointer Num = false
is_pointer (Const c) = false
is_pointer (Ctx k) = true
is_pointer (Stk k) = true

abbrev pub is_numeric : RegType → Bool
is_numeric Num = true
is_numeric (Const c) = true
is_numeric Unset = false
is_numeric (Ctx k) = false
is_numeric (Stk k) = false

-- the join of two types: the most exact type that includes both
abbrev pub join_type : RegType → RegType → RegType
join_type Num Num = Num
join_type Num (Const d) = Num
join_type (Const c) Num = Num
join_type (Const c) (Const d) = if c == d then Const c else Num
join_type (Ctx k) (Ctx m) = if k == m then Ctx k else Unset
join_type (Stk k) (Stk m) = if int_eq k m then Stk k else Unset
join_type a b = Unset

-- ---- arithmetic

abbrev pub one_number : ℕ → RegType → Result RegType Flaw
one_number r a =
    if is_unset a then Err (NotANumber r) else (if is_pointer a then Err PointerArithmetic else Ok Num)

abbrev pub two_numbers : ℕ → ℕ → RegType → RegType → Result RegType Flaw
two_numbers dst src a b =
    if is_unset a then Err (NotANumber dst)
    else (if is_unset b then Err (NotANumber src)
    else (if is_pointer a || is_pointer b then Err PointerArithmetic else Ok Num))

abbrev pub ctx_at : Option ℕ → Result RegType Flaw
ctx_at None = Err OutOfRange
ctx_at (Some k) = Ok (Ctx k)

abbrev pub stk_at : ℤ → Result RegType Flaw
stk_at k = if int_le (negsuc 511) k && int_le k (pos 0) then Ok (Stk k) else Err OutOfRange

-- The type of the result of ADD or SUB, or the flaw. With 64 bits and an immediate, a pointer moves by z bytes.
-- Otherwise both operands must be numbers.
abbrev pub sum_type : Layout → Width → Source → Inst → ℤ → RegType → RegType → Result RegType Flaw
sum_type layout Bits64 Immediate i z (Ctx k) b = ctx_at (shifted k z (context_len layout))
sum_type layout Bits64 Immediate i z (Stk k) b = stk_at (k +ℤ z)
sum_type layout w s i z a b = two_numbers i.dst i.src a b

abbrev pub copied_type : ℕ → RegType → Result RegType Flaw
copied_type src b = if is_unset b then Err (NotANumber src) else Ok b

abbrev pub is_zero_offset : ℤ → Bool
is_zero_offset (pos zero) = true
is_zero_offset (pos (suc n)) = false
is_zero_offset (negsuc n) = false

abbrev pub move_type : Width → Source → Inst → RegType → Result RegType Flaw
move_type w Immediate i b = Ok (if is_zero_offset i.offset then Const (low w (immediate w i.imm)) else Num)
move_type Bits64 Register i b = if is_zero_offset i.offset then copied_type i.src b else one_number i.src b
move_type Bits32 Register i b = one_number i.src b

abbrev pub alu_type : Layout → Operator → Width → Source → Inst → RegType → RegType → Result RegType Flaw
alu_type layout Add w s i a b = sum_type layout w s i i.imm a b
alu_type layout Sub w s i a b = sum_type layout w s i (neg_ℤ i.imm) a b
alu_type layout Mov w s i a b = move_type w s i b
alu_type layout Neg w s i a b = one_number i.dst a
alu_type layout SwapBytes w s i a b = one_number i.dst a
alu_type layout op w s i a b = two_numbers i.dst i.src a b

abbrev pub operand_type : Source → Width → Inst → List RegType → RegType
operand_type Immediate w i types = Const (immediate w i.imm)
operand_type Register w i types = type_at types i.src

-- ---- the effect of writing a register

abbrev pub unmarked : List RegType → Effect
unmarked types = record { types = types; at = 0; len = 0; spilled = Unset }

abbrev pub put_type : List RegType → ℕ → Result RegType Flaw → Result Effect Flaw
put_type types dst (Err e) = Err e
put_type types dst (Ok t) = Ok (unmarked (slice_set types dst t))

-- The effect or the flaw of an instruction that writes a result of this type to register dst. If dst is R10, which
-- can't be written, the flaw is `WriteR10`. If dst is another register, and a flaw is given instead of a type, the
-- result is the given flaw.
abbrev pub set_type : List RegType → ℕ → Result RegType Flaw → Result Effect Flaw
set_type types dst r = if dst == 10 then Err WriteR10 else put_type types dst r

-- ---- loads and stores

-- `natural` gives an integer as a natural number, or 0 if the integer is negative. `lowest` is where the stack pointer
-- Stk k points, in bytes from the stack's lowest byte, or 0 for a pointer below that byte.
abbrev pub natural : ℤ → ℕ
natural (pos n) = n
natural (negsuc n) = 0

abbrev pub lowest : ℤ → ℕ
lowest k = natural (k +ℤ pos 512)

-- whether the n bytes of the stack that begin at byte `at` are all in `set`, a set of stack bytes
abbrev pub all_in : List Bool → ℕ → ℕ → Bool
all_in set at zero = true
all_in set at (suc n) = slice_index_or set at false && all_in set (suc at) n

abbrev pub number_at : Option ℕ → Result RegType Flaw
number_at None = Err OutOfRange
number_at (Some at) = Ok Num

abbrev pub number_set : List Bool → ℕ → Option ℕ → Result RegType Flaw
number_set set size None = Err OutOfRange
number_set set size (Some at) = if all_in set at size then Ok Num else Err UnsetBytes

abbrev pub load_type : Layout → List Bool → RegType → Inst → ℕ → Result RegType Flaw
load_type layout set Unset i size = Err NotAPointer
load_type layout set Num i size = Err NotAPointer
load_type layout set (Const c) i size = Err NotAPointer
load_type layout set (Ctx k) i size = number_at (shifted k i.offset (context_len layout - size))
load_type layout set (Stk k) i size = number_set set size (shifted (lowest k) i.offset (512 - size))

-- A spill is the type of a pointer that is stored in the stack, as a number: 0 for no pointer, 1 to 81 for Ctx 0 to 80,
-- and 82 to 594 for Stk -512 to 0. These are all the types that pointers have.
abbrev pub spill_of : RegType → ℕ
spill_of (Ctx k) = if nat_le k 80 then k + 1 else 0
spill_of (Stk k) = if nat_le (lowest k) 512 then 82 + lowest k else 0
spill_of Unset = 0
spill_of Num = 0
spill_of (Const c) = 0

abbrev pub spilled_type : ℕ → RegType
spilled_type n = if n == 0 then Unset else (if nat_le n 81 then Ctx (n - 1) else Stk (pos (n - 82) +ℤ negsuc 511))

-- the type of the pointer that is spilled in the `size` bytes at the place; Unset if none is spilled there
abbrev pub spill_in : List ℕ → ℕ → Option ℕ → RegType
spill_in spills size None = Unset
spill_in spills size (Some at) = if is_aligned size at then spilled_type (slice_index spills (at / 8)) else Unset

abbrev pub reload_type : List ℕ → RegType → Inst → ℕ → RegType
reload_type spills (Stk k) i size = spill_in spills size (shifted (lowest k) i.offset (512 - size))
reload_type spills (Ctx k) i size = Unset
reload_type spills (Const c) i size = Unset
reload_type spills Num i size = Unset
reload_type spills Unset i size = Unset

abbrev pub reload_or : RegType → Result RegType Flaw → Result RegType Flaw
reload_or t r = if is_unset t then r else Ok t

-- the type that a load gives: the type of a spilled pointer if the load reads one, or else `Num`; or the load's flaw
abbrev pub loaded_type : Layout → List Bool → List ℕ → RegType → Inst → ℕ → Result RegType Flaw
loaded_type layout set spills base i size = reload_or (reload_type spills base i size) (load_type layout set base i size)

abbrev pub marks : List RegType → ℕ → Option ℕ → Result Effect Flaw
marks types size None = Err OutOfRange
marks types size (Some at) = Ok (record { types = types; at = at; len = size; spilled = Unset })

abbrev pub store_type : List RegType → RegType → Inst → ℕ → Result Effect Flaw
store_type types Unset i size = Err NotAPointer
store_type types Num i size = Err NotAPointer
store_type types (Const c) i size = Err NotAPointer
store_type types (Ctx k) i size = Err StoreToContext
store_type types (Stk k) i size = marks types size (shifted (lowest k) i.offset (512 - size))

-- The effect of a store of a pointer of type `value`. `e` is the effect that the store of a number to the same place
-- would have. The result is the flaw `StorePointer` if the place isn't eight bytes at a multiple of eight.
abbrev pub stores_pointer : RegType → Effect → Result Effect Flaw
stores_pointer value e = if is_aligned e.len e.at then Ok (record e { spilled = value }) else Err StorePointer

-- The effect or the flaw of a store of a value of type `value`, which must not be `Unset`. The second argument is the
-- effect or the flaw that the store of a number to the same place would have. It is also the result if it is a flaw, or
-- if the value is a number. If it is an effect and the value is a pointer, the result is what `stores_pointer` gives
-- for this effect.
abbrev pub stores_if_pointer : RegType → Result Effect Flaw → Result Effect Flaw
stores_if_pointer value (Err e) = Err e
stores_if_pointer value (Ok e) = if is_pointer value then stores_pointer value e else Ok e

abbrev pub store_register : List RegType → RegType → RegType → Inst → ℕ → Result Effect Flaw
store_register types base value i size =
    if is_unset value then Err (NotANumber i.src) else stores_if_pointer value (store_type types base i size)

-- ---- comparisons and exits

abbrev pub compared : List RegType → ℕ → ℕ → RegType → RegType → Result Effect Flaw
compared types dst src a b =
    if is_numeric a then (if is_numeric b then Ok (unmarked types) else Err (NotANumber src)) else Err (NotANumber dst)

abbrev pub exited : List RegType → RegType → Result Effect Flaw
exited types a = if is_numeric a then Ok (unmarked types) else Err (NotANumber 0)

-- ---- calls

-- The place, counted from the stack's lowest byte, where a helper writes a record of 16 bytes if its argument has this
-- type. It is None unless this is the type of a stack pointer at least 16 bytes below the stack's end.
abbrev pub place_by : RegType → Option ℕ
place_by (Stk k) = shifted (lowest k) (pos 0) 496
place_by Unset = None
place_by Num = None
place_by (Const c) = None
place_by (Ctx k) = None

abbrev pub fits_counter : RegType → Bool
fits_counter (Const c) = nat_le c 31
fits_counter Unset = false
fits_counter Num = false
fits_counter (Ctx k) = false
fits_counter (Stk k) = false

abbrev pub fits_kind : Kind → RegType → Bool
fits_kind Nothing t = true
fits_kind Number t = is_numeric t
fits_kind Counter t = fits_counter t
fits_kind Place t = is_some (place_by t)

-- whether the program declares counter c, if the type is `Const c`; true for all other types
abbrev pub declares : ℕ → RegType → Bool
declares declared (Const c) = declared / 2 ^ c % 2 == 1
declares declared Unset = true
declares declared Num = true
declares declared (Ctx k) = true
declares declared (Stk k) = true

abbrev pub is_declared : ℕ → Kind → RegType → Bool
is_declared declared Counter t = declares declared t
is_declared declared Nothing t = true
is_declared declared Number t = true
is_declared declared Place t = true

abbrev pub after_call : List RegType → List RegType
after_call types = Num ∷ Unset ∷ Unset ∷ Unset ∷ Unset ∷ Unset ∷ drop 6 types

abbrev pub marks_record : List RegType → Option ℕ → Effect
marks_record types None = unmarked types
marks_record types (Some at) = record { types = types; at = at; len = 16; spilled = Unset }

abbrev pub record_at : Kind → RegType → Option ℕ
record_at Place t = place_by t
record_at Nothing t = None
record_at Number t = None
record_at Counter t = None

abbrev pub call_with : ℕ → List RegType → Kind → Kind → RegType → RegType → Result Effect Flaw
call_with declared types first second a b =
    if fits_kind first a
    then (if fits_kind second b
    then (if is_declared declared first a then Ok (marks_record (after_call types) (record_at second b)) else Err UndeclaredCounter)
    else Err (BadArgument 2))
    else Err (BadArgument 1)

abbrev pub kind_at : List Kind → ℕ → Kind
kind_at kinds n = slice_index_or kinds n Nothing

abbrev pub call_type : ℕ → List RegType → Option (List Kind) → Result Effect Flaw
call_type declared types None = Err NoSuchHelper
call_type declared types (Some kinds) =
    call_with declared types (kind_at kinds 0) (kind_at kinds 1) (type_at types 1) (type_at types 2)

-- ---- the typing rules give each instruction an effect or a flaw

-- the effect of an instruction, or its flaw; `upper` is the upper half of a wide load's number
abbrev pub effect : LoadOptions → Fact → Inst → ℤ → Form → Result Effect Flaw
effect options f i upper (Arithmetic op w s) =
    set_type f.types i.dst (alu_type options.layout op w s i (type_at f.types i.dst) (operand_type s w i f.types))
effect options f i upper Wide = set_type f.types i.dst (Ok (Const (cast_unsigned w32 upper * 2 ^ 32 + cast_unsigned w32 i.imm)))
effect options f i upper (Load size) = set_type f.types i.dst (loaded_type options.layout f.stack f.spills (type_at f.types i.src) i (bytes_in size))
effect options f i upper (LoadSigned size) = set_type f.types i.dst (load_type options.layout f.stack (type_at f.types i.src) i (bytes_in size))
effect options f i upper (StoreImmediate size) = store_type f.types (type_at f.types i.dst) i (bytes_in size)
effect options f i upper (StoreRegister size) =
    store_register f.types (type_at f.types i.dst) (type_at f.types i.src) i (bytes_in size)
effect options f i upper Ja = Ok (unmarked f.types)
effect options f i upper Ja32 = Ok (unmarked f.types)
effect options f i upper (Branch c w s) =
    compared f.types i.dst i.src (type_at f.types i.dst) (operand_type s w i f.types)
effect options f i upper Call = call_type options.mask f.types (signature i.imm)
effect options f i upper Exit = exited f.types (type_at f.types 0)

-- whether a run can continue with the unit after this instruction, but the program has no such unit
abbrev pub falls_off : ℕ → ℕ → Form → Bool
falls_off count pc Exit = false
falls_off count pc Ja = false
falls_off count pc Ja32 = false
falls_off count pc Wide = nat_le count (pc + 2)
falls_off count pc form = nat_le count (pc + 1)

-- the effect of the instruction at unit pc of a program of `count` units, or its first flaw
abbrev pub checked_effect : ℕ → ℕ → LoadOptions → Fact → Inst → ℤ → Form → Result Effect Flaw
checked_effect count pc options f i upper form =
    if falls_off count pc form then Err FallsOff else effect options f i upper form

-- Definitions: what is true of a program that the verifier refuses (this profile, faults V1 to V20).
use Rattle.std.specs.Prelude.{◌≡◌, ◌≢◌, ℕ, ◌+◌, ◌/◌, ◌≤◌, ◌⊎◌, if◌then◌else◌, pos, List, length, Option, Some, None, slice_get, ⊤, Result, Ok, Err}
use Rattle.bpf_model.specs.declared.instruction.Inst.{Inst}
use Rattle.bpf_model.specs.declared.instruction.Width.TheVariants.{Bits64}
use Rattle.bpf_model.specs.declared.instruction.Source.{Source}
use Rattle.bpf_model.specs.declared.instruction.Source.TheVariants.{Immediate, Register}
use Rattle.bpf_model.specs.declared.instruction.Operator.TheVariants.{Add, Sub, Mov, Neg, SwapBytes}
use Rattle.bpf_model.specs.declared.instruction.Form.{Form}
use Rattle.bpf_model.specs.declared.instruction.Form.TheVariants.{Arithmetic, Wide, Load, LoadSigned, StoreImmediate, StoreRegister, Ja, Ja32, Branch}
use Rattle.bpf_model.specs.declared.instruction.Form.TheVariants.{Call, Exit}
use Rattle.bpf_model.specs.declared.instruction.Unit.{Unit as ProgramUnit}
use Rattle.bpf_model.specs.declared.instruction.Unit.TheVariants.{First}
use Rattle.bpf_model.specs.declared.machine.Helper.{Helper}
use Rattle.bpf_model.specs.declared.machine.Helper.TheVariants.{CounterGet, CounterAdd, CounterTake, PointState, PointRecord, PriceOf}
use Rattle.bpf_model.specs.Reading.{form_of, units, has_valid_length, fault_below}
use Rattle.bpf_model.specs.Machine.{helper_of}
use Rattle.bpf_model.specs.Program.{ProgramText}
use Rattle.bpf_model.specs.Flow.{flow_fault}
use Rattle.bpf_model.specs.declared.instruction.UnitFault.{UnitFault}
use Rattle.bpf_model.specs.declared.instruction.JumpFault.{JumpFault}
use Rattle.bpf_model.specs.declared.decode.DecodeFault.{DecodeFault}
use Rattle.bpf_model.specs.declared.decode.DecodeFault.TheVariants.{Length, OutOfMemory as NoMemoryToDecode}
use Rattle.bpf_model.specs.DecodeFaults.{HasValidFirstUnit, IsRefusedFor, numbered as decode_numbered}
use Rattle.verifier.specs.declared.flow.FlowFault.{FlowFault}
use Rattle.verifier.specs.FlowFaults.{IsFirstFlowFault as IsFlowFaultOf, numbered as flow_numbered}
use Rattle.verifier.specs.declared.types.LoadOptions.{LoadOptions}
use Rattle.verifier.specs.declared.types.Flaw.{Flaw}
use Rattle.verifier.specs.declared.types.Flaw.TheVariants.{FallsOff, WriteR10, NotANumber, NotAPointer, OutOfRange, UnsetBytes, StoreToContext, StorePointer}
use Rattle.verifier.specs.declared.types.Flaw.TheVariants.{PointerArithmetic, NoSuchHelper, BadArgument, UndeclaredCounter}
use Rattle.verifier.specs.declared.refusal.TypeFault.{TypeFault}
use Rattle.verifier.specs.declared.refusal.Refusal.{Refusal}
use Rattle.verifier.specs.declared.refusal.Refusal.TheVariants.{Decode, Flow, «Type» as TypeRefusal, OutOfMemory}
use Rattle.verifier.specs.Refusals.{located}
use Rattle.verifier.specs.LoadOptions.{options_of}
use Rattle.verifier.specs.Inference.{first_flaw}

-- a run can continue with the unit after this instruction, but the program has no such unit
abbrev pub FallsOffEnd : ℕ → ℕ → Form → Type 0
FallsOffEnd count pc Exit = ⊥
FallsOffEnd count pc Ja = ⊥
FallsOffEnd count pc Ja32 = ⊥
FallsOffEnd count pc Wide = count ≤ pc + 2
FallsOffEnd count pc form = count ≤ pc + 1

-- the instruction writes R10: it is arithmetic, a load or a wide load with R10 as its destination
abbrev pub WritesR10 : Inst → Form → Type 0
WritesR10 i (Arithmetic op w s) = i.dst ≡ 10
WritesR10 i Wide = i.dst ≡ 10
WritesR10 i (Load size) = i.dst ≡ 10
WritesR10 i (LoadSigned size) = i.dst ≡ 10
WritesR10 i form = ⊥

-- register r is the first operand (dst), or the second operand (src) if that is a register
abbrev pub IsOperand : Inst → Source → ℕ → Type 0
IsOperand i Register r = (r ≡ i.dst) ⊎ (r ≡ i.src)
IsOperand i Immediate r = r ≡ i.dst

abbrev pub IsSecond : Inst → Source → ℕ → Type 0
IsSecond i Register r = r ≡ i.src
IsSecond i Immediate r = ⊥

-- the instruction reads register r as an operand of arithmetic or a comparison, as the value to store, or as the answer
-- of an exit
abbrev pub Reads : Inst → Form → ℕ → Type 0
Reads i (Arithmetic Mov w s) r = IsSecond i s r
Reads i (Arithmetic Neg w s) r = r ≡ i.dst
Reads i (Arithmetic SwapBytes w s) r = r ≡ i.dst
Reads i (Arithmetic op w s) r = IsOperand i s r
Reads i (Branch c w s) r = IsOperand i s r
Reads i (StoreRegister size) r = r ≡ i.src
Reads i Exit r = r ≡ 0
Reads i form r = ⊥

abbrev pub IsLoad : Form → Type 0
IsLoad (Load size) = ⊤
IsLoad (LoadSigned size) = ⊤
IsLoad form = ⊥

abbrev pub IsStore : Form → Type 0
IsStore (StoreImmediate size) = ⊤
IsStore (StoreRegister size) = ⊤
IsStore form = ⊥

abbrev pub StoresRegister : Form → Type 0
StoresRegister (StoreRegister size) = ⊤
StoresRegister form = ⊥

-- the form can move a pointer: it is ADD or SUB of 64 bits with an immediate
abbrev pub MovesPointer : Form → Type 0
MovesPointer (Arithmetic Add Bits64 Immediate) = ⊤
MovesPointer (Arithmetic Sub Bits64 Immediate) = ⊤
MovesPointer form = ⊥

-- The instruction is arithmetic that takes only numbers. This is all arithmetic except a MOV of an immediate, a MOV of
-- 64 bits from a register with offset 0, and ADD and SUB of 64 bits with an immediate.
abbrev pub TakesNumbers : Inst → Form → Type 0
TakesNumbers i (Arithmetic Add Bits64 Immediate) = ⊥
TakesNumbers i (Arithmetic Sub Bits64 Immediate) = ⊥
TakesNumbers i (Arithmetic Mov w Immediate) = ⊥
TakesNumbers i (Arithmetic Mov Bits64 Register) = ¬ (i.offset ≡ pos 0)
TakesNumbers i (Arithmetic op w s) = ⊤
TakesNumbers i form = ⊥

-- the instruction is a call, and P holds of the helper whose number is the immediate, or of None if there is no such
-- helper
abbrev pub CallsBy : Inst → Form → (Option Helper → Type 0) → Type 0
CallsBy i Call P = P (helper_of i.imm)
CallsBy i form P = ⊥

abbrev pub NoHelper : Option Helper → Type 0
NoHelper None = ⊤
NoHelper (Some h) = ⊥

-- the helper takes an argument in R1 (n is 1) or in R2 (n is 2)
abbrev pub HasArgument : ℕ → Option Helper → Type 0
HasArgument n None = ⊥
HasArgument n (Some CounterGet) = n ≡ 1
HasArgument n (Some PointState) = n ≡ 1
HasArgument n (Some PriceOf) = n ≡ 1
HasArgument n (Some CounterAdd) = (n ≡ 1) ⊎ (n ≡ 2)
HasArgument n (Some CounterTake) = (n ≡ 1) ⊎ (n ≡ 2)
HasArgument n (Some PointRecord) = (n ≡ 1) ⊎ (n ≡ 2)

abbrev pub UsesCounter : Option Helper → Type 0
UsesCounter (Some CounterGet) = ⊤
UsesCounter (Some CounterAdd) = ⊤
UsesCounter (Some CounterTake) = ⊤
UsesCounter (Some PointState) = ⊥
UsesCounter (Some PointRecord) = ⊥
UsesCounter (Some PriceOf) = ⊥
UsesCounter None = ⊥

-- the instruction at unit pc, which has this form, can have this flaw
abbrev pub MayHave : ℕ → ℕ → Inst → Form → Flaw → Type 0
MayHave count pc i form FallsOff = FallsOffEnd count pc form
MayHave count pc i form WriteR10 = WritesR10 i form
MayHave count pc i form (NotANumber r) = Reads i form r
MayHave count pc i form NotAPointer = IsLoad form ⊎ IsStore form
MayHave count pc i form OutOfRange = (IsLoad form ⊎ IsStore form) ⊎ MovesPointer form
MayHave count pc i form UnsetBytes = IsLoad form
MayHave count pc i form StoreToContext = IsStore form
MayHave count pc i form StorePointer = StoresRegister form
MayHave count pc i form PointerArithmetic = TakesNumbers i form
MayHave count pc i form NoSuchHelper = CallsBy i form NoHelper
MayHave count pc i form (BadArgument n) = CallsBy i form (HasArgument n)
MayHave count pc i form UndeclaredCounter = CallsBy i form UsesCounter

-- The bytes can be decoded as units, and no jump has a fault. The type fault names a unit at which an instruction
-- begins, and this instruction can have that fault.
pub record IsPossibleTypeFault (bytes : List ℕ) (fault : TypeFault) : Type 0 where
  pub code : List ProgramUnit
  pub reads : units bytes ≡ Some code
  pub flows : flow_fault code ≡ None
  pub pc : ℕ
  pub unit : Inst
  pub begins : slice_get code pc ≡ Some (First unit)
  pub form : Form
  pub form_is : form_of unit.opcode ≡ Some form
  pub flaw : Flaw
  pub shows : MayHave (length code) pc unit form flaw
  pub fault_is : fault ≡ located pc flaw

-- What is true of bytes that are refused for this fault of decoding. The fault is never that memory ran out, since that
-- is the refusal `OutOfMemory`.
abbrev pub IsDecodeRefused : List ℕ → DecodeFault → Type 0
IsDecodeRefused bytes NoMemoryToDecode = ⊥
IsDecodeRefused bytes fault = IsRefusedFor bytes fault

-- the bytes can be decoded as units, and `fault` is that of their first wrong jump
abbrev pub IsFlowRefused : List ℕ → FlowFault → Type 0
IsFlowRefused bytes fault = (code : List ProgramUnit) × (units bytes ≡ Some code) × IsFlowFaultOf code fault

-- what is true of a program that is refused for this reason; nothing is stated if the reason is that memory ran out
abbrev pub IsRefused : ProgramText → Refusal → Type 0
IsRefused p (Decode fault) = IsDecodeRefused p.bytes fault
IsRefused p (Flow fault) = IsFlowRefused p.bytes fault
IsRefused p (TypeRefusal fault) = IsPossibleTypeFault p.bytes fault
IsRefused p OutOfMemory = ⊤

-- What is true of a program for which memory can run out: its bytes are 1 to 512 whole units, and the first unit has no
-- fault of decoding.
abbrev pub MayRunOutOfMemory : ProgramText → Type 0
MayRunOutOfMemory p = HasValidFirstUnit p.bytes

-- ---- which refusal is returned

-- the first refusal; if it is None, the second
abbrev pub or_refused : Option Refusal → Option Refusal → Option Refusal
or_refused None b = b
or_refused (Some refusal) b = Some refusal

abbrev pub unit_refusal : Option (ℕ × UnitFault) → Option Refusal
unit_refusal None = None
unit_refusal (Some x) = Some (Decode (decode_numbered x.1 x.0))

abbrev pub decode_refusal : List ℕ → Option Refusal
decode_refusal bytes = if has_valid_length bytes then unit_refusal (fault_below bytes (length bytes / 8)) else Some (Decode Length)

abbrev pub flow_refusal : Option (ℕ × JumpFault) → Option Refusal
flow_refusal None = None
flow_refusal (Some x) = Some (Flow (flow_numbered x.1 x.0))

abbrev pub type_refusal : Option TypeFault → Option Refusal
type_refusal None = None
type_refusal (Some fault) = Some (TypeRefusal fault)

abbrev pub code_refusal : LoadOptions → Option (List ProgramUnit) → Option Refusal
code_refusal options None = None
code_refusal options (Some us) = or_refused (flow_refusal (flow_fault us)) (type_refusal (first_flaw us options))

-- The refusal of a program: its first fault of decoding. If it has none, the refusal is its first fault of a jump, and
-- if it has none of these either, its first type fault. None if nothing is wrong with the program.
unfoldable pub refusal_of : ProgramText → Option Refusal
refusal_of p = or_refused (decode_refusal p.bytes) (code_refusal (options_of p) (units p.bytes))

-- the refusal is `wanted`, or that memory ran out
abbrev pub IsRefusal : Option Refusal → Refusal → Type 0
IsRefusal wanted OutOfMemory = ⊤
IsRefusal wanted (Decode fault) = wanted ≡ Some (Decode fault)
IsRefusal wanted (Flow fault) = wanted ≡ Some (Flow fault)
IsRefusal wanted (TypeRefusal fault) = wanted ≡ Some (TypeRefusal fault)

-- The result of `verify` for the program `asked` is right. If the result is a program, it is `asked`, and nothing is
-- wrong with `asked`. If the result is an error, it is the refusal of `asked`, or that memory ran out.
abbrev pub IsVerdict : ProgramText → Result ProgramText Refusal → Type 0
IsVerdict asked (Ok p) = (p ≡ asked) × (refusal_of asked ≡ None)
IsVerdict asked (Err refusal) = IsRefusal (refusal_of asked) refusal

-- two results of `verify` for the same bytes, mask and layout are equal, unless memory ran out for one of them
abbrev pub OneAnswer : Type 0
OneAnswer = (asked : ProgramText) (a b : Result ProgramText Refusal) → IsVerdict asked a → IsVerdict asked b → a ≢ Err OutOfMemory → b ≢ Err OutOfMemory → a ≡ b

-- Definitions: the numbers of a refusal: its fault number (V1 to V20), its unit, and its register or argument (this
-- profile).
use Rattle.std.specs.Prelude.{ℕ, Option, Some, None}
use Rattle.bpf_model.specs.declared.decode.DecodeFault.{DecodeFault}
use Rattle.bpf_model.specs.declared.decode.DecodeFault.TheVariants.{Length, BadOpcode, BadField, BadRegister, HalfWide, OutOfMemory as NoMemoryToDecode}
use Rattle.verifier.specs.declared.flow.FlowFault.{FlowFault}
use Rattle.verifier.specs.declared.flow.FlowFault.TheVariants.{BackwardJump, JumpOut, JumpIntoWide, OutOfMemory as NoMemoryForFlow}
use Rattle.verifier.specs.declared.types.Flaw.{Flaw}
use Rattle.verifier.specs.declared.types.Flaw.TheVariants as flaw
use Rattle.verifier.specs.declared.refusal.TypeFault.{TypeFault}
use Rattle.verifier.specs.declared.refusal.TypeFault.TheVariants.{FallsOff, WriteR10, NotANumber, NotAPointer, OutOfRange, UnsetBytes, StoreToContext}
use Rattle.verifier.specs.declared.refusal.TypeFault.TheVariants.{StorePointer, PointerArithmetic, NoSuchHelper, BadArgument, UndeclaredCounter}
use Rattle.verifier.specs.declared.refusal.Refusal.{Refusal}
use Rattle.verifier.specs.declared.refusal.Refusal.TheVariants.{Decode, Flow, «Type» as TypeRefusal, OutOfMemory}

-- the numbers of a refusal: its fault number (1 for V1, to 20 for V20), its unit, and its register or argument; None
-- where it has none
abbrev pub Numbers : Type 0
Numbers = ℕ × (Option ℕ) × (Option ℕ)

abbrev pub at_unit : ℕ → ℕ → Numbers
at_unit v pc = (v, Some pc, None)

abbrev pub decode_numbers : DecodeFault → Option Numbers
decode_numbers Length = Some (1, None, None)
decode_numbers (BadOpcode pc) = Some (at_unit 2 pc)
decode_numbers (BadField pc) = Some (at_unit 3 pc)
decode_numbers (BadRegister pc) = Some (at_unit 4 pc)
decode_numbers (HalfWide pc) = Some (at_unit 5 pc)
decode_numbers NoMemoryToDecode = None

abbrev pub flow_numbers : FlowFault → Option Numbers
flow_numbers (BackwardJump pc) = Some (at_unit 6 pc)
flow_numbers (JumpOut pc) = Some (at_unit 7 pc)
flow_numbers (JumpIntoWide pc) = Some (at_unit 8 pc)
flow_numbers NoMemoryForFlow = None

abbrev pub type_numbers : TypeFault → Numbers
type_numbers (FallsOff pc) = at_unit 9 pc
type_numbers (WriteR10 pc) = at_unit 10 pc
type_numbers (NotANumber pc r) = (11, Some pc, Some r)
type_numbers (NotAPointer pc) = at_unit 12 pc
type_numbers (OutOfRange pc) = at_unit 13 pc
type_numbers (UnsetBytes pc) = at_unit 14 pc
type_numbers (StoreToContext pc) = at_unit 15 pc
type_numbers (StorePointer pc) = at_unit 16 pc
type_numbers (PointerArithmetic pc) = at_unit 17 pc
type_numbers (NoSuchHelper pc) = at_unit 18 pc
type_numbers (BadArgument pc n) = (19, Some pc, Some n)
type_numbers (UndeclaredCounter pc) = at_unit 20 pc

abbrev pub refusal_numbers : Refusal → Option Numbers
refusal_numbers (Decode fault) = decode_numbers fault
refusal_numbers (Flow fault) = flow_numbers fault
refusal_numbers (TypeRefusal fault) = Some (type_numbers fault)
refusal_numbers OutOfMemory = None

-- the refusal of bytes that aren't 1 to 512 whole units
abbrev pub wrong_length : Refusal
wrong_length = Decode Length

-- the fault of the instruction at unit pc that has this flaw
abbrev pub located : ℕ → Flaw → TypeFault
located pc flaw.FallsOff = FallsOff pc
located pc flaw.WriteR10 = WriteR10 pc
located pc (flaw.NotANumber r) = NotANumber pc r
located pc flaw.NotAPointer = NotAPointer pc
located pc flaw.OutOfRange = OutOfRange pc
located pc flaw.UnsetBytes = UnsetBytes pc
located pc flaw.StoreToContext = StoreToContext pc
located pc flaw.StorePointer = StorePointer pc
located pc flaw.PointerArithmetic = PointerArithmetic pc
located pc flaw.NoSuchHelper = NoSuchHelper pc
located pc (flaw.BadArgument n) = BadArgument pc n
located pc flaw.UndeclaredCounter = UndeclaredCounter pc

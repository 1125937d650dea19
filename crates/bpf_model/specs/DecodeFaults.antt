-- Promises: which units are a program, and what is true of bytes that the decoder refuses.
use Rattle.std.specs.Prelude.{◌≡◌, ℕ, ◌/◌, ◌<◌, List, slice_index, length, Some, None, false, true}
use Rattle.bpf_model.specs.declared.instruction.Unit.{Unit as ProgramUnit}
use Rattle.bpf_model.specs.declared.instruction.UnitFault.{UnitFault}
use Rattle.bpf_model.specs.declared.instruction.UnitFault.TheVariants.{Opcode, Field, Register, HalfWide as HalfWideUnit}
use Rattle.bpf_model.specs.Reading.{has_valid_length, fault_below, unit_fault, units}
use Rattle.bpf_model.specs.declared.decode.DecodeFault.{DecodeFault}
use Rattle.bpf_model.specs.declared.decode.DecodeFault.TheVariants.{Length, BadOpcode, BadField, BadRegister, HalfWide, OutOfMemory}

-- the bytes are 1 to 512 whole units, the first one with a fault is unit pc, and `fault` is its fault
pub record IsFirstFault (bytes : List ℕ) (pc : ℕ) (fault : UnitFault) : Type 0 where
  pub right_length : has_valid_length bytes ≡ true
  pub first : fault_below bytes (length bytes / 8) ≡ Some (pc, fault)

-- the bytes are 1 to 512 whole units, and the first of them has no fault
pub record HasValidFirstUnit (bytes : List ℕ) : Type 0 where
  pub right_length : has_valid_length bytes ≡ true
  pub first : unit_fault bytes 0 ≡ None

-- What is true of the bytes if `decode` returns this fault:
-- - `Length`: their length is wrong.
-- - `OutOfMemory`: their length is right, and their first unit has no fault.
-- - any other fault: their length is right, and the fault names their first wrong unit and what is wrong with it.
abbrev pub IsRefusedFor : List ℕ → DecodeFault → Type 0
IsRefusedFor bytes Length = has_valid_length bytes ≡ false
IsRefusedFor bytes (BadOpcode pc) = IsFirstFault bytes pc Opcode
IsRefusedFor bytes (BadField pc) = IsFirstFault bytes pc Field
IsRefusedFor bytes (BadRegister pc) = IsFirstFault bytes pc Register
IsRefusedFor bytes (HalfWide pc) = IsFirstFault bytes pc HalfWideUnit
IsRefusedFor bytes OutOfMemory = HasValidFirstUnit bytes

abbrev pub AreBytes : List ℕ → Type 0
AreBytes bytes = (i : ℕ) → slice_index bytes i < 256

-- the units are a program: some bytes are decoded as these units
abbrev pub IsProgram : List ProgramUnit → Type 0
IsProgram code = (bytes : List ℕ) × (units bytes ≡ Some code) × AreBytes bytes

-- two lists of bytes that are decoded as the same units are equal
abbrev pub IsDecodingInjective : Type 0
IsDecodingInjective = (a b : List ℕ) (code : List ProgramUnit) → AreBytes a → AreBytes b → units a ≡ Some code → units b ≡ Some code → a ≡ b

abbrev pub numbered : UnitFault → ℕ → DecodeFault
numbered Opcode pc = BadOpcode pc
numbered Field pc = BadField pc
numbered Register pc = BadRegister pc
numbered HalfWideUnit pc = HalfWide pc

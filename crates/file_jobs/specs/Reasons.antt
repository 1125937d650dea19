-- Definitions: why a program is refused (source: this project).
use Rattle.std.specs.Prelude.{◌≡◌, ◌≢◌, ◌==◌, ◌+◌, ◌-◌, ◌*◌, ◌^◌, nat_le, nat_lt, ℕ, ℤ, pos, negsuc, ◌+ℤ◌, int_le, int_lt, List, length}
use Rattle.std.specs.Prelude.{Bool, not, ◌&&◌, ◌||◌, Option, Some, None, slice_get, if◌then◌else◌, option_map, string_bytes}
use Rattle.bpf_model.specs.declared.instruction.Inst.{Inst}
use Rattle.bpf_model.specs.declared.instruction.Form.{Form}
use Rattle.bpf_model.specs.declared.instruction.Form.TheVariants.{Load, LoadSigned}
use Rattle.bpf_model.specs.declared.instruction.Unit.{Unit as ProgramUnit}
use Rattle.bpf_model.specs.declared.instruction.Unit.TheVariants.{First}
use Rattle.bpf_model.specs.Program.{ProgramText}
use Rattle.bpf_model.specs.Reading.{bytes_in, form_of, units}
use Rattle.bpf_asm.specs.Numbered.{line_of_unit}
use Rattle.verifier.specs.declared.helpers.Kind.{Kind}
use Rattle.verifier.specs.HelperCalls.{signature}
use Rattle.verifier.specs.declared.refusal.Refusal.{Refusal}
use Rattle.verifier.specs.declared.refusal.Refusal.TheVariants.{«Type» as OfType}
use Rattle.verifier.specs.declared.refusal.TypeFault.TheVariants.{BadArgument, OutOfRange, UndeclaredCounter}
use Rattle.verifier.specs.Refusals.{refusal_numbers}
use Rattle.verifier.specs.RefusedPrograms.{IsRefused, refusal_of}
use Rattle.bpf_asm.specs.ProgramFile.{unit_line}
use Rattle.file_jobs.specs.declared.reasons.Hint.{Hint}
use Rattle.file_jobs.specs.declared.reasons.Hint.TheVariants.{Counter, SecondLayout, Wanted}
use Rattle.file_jobs.specs.declared.reasons.RefusedProgram.{RefusedProgram}

-- the number of the fault (1 for V1, to 20 for V20) among the numbers of a refusal; 0 if the refusal has no numbers
abbrev pub number_in : Option (ℕ × (Option ℕ) × (Option ℕ)) → ℕ
number_in None = 0
number_in (Some p) = p.0

-- the unit among the numbers of a refusal; None if it names no unit
abbrev pub unit_in : Option (ℕ × (Option ℕ) × (Option ℕ)) → Option ℕ
unit_in None = None
unit_in (Some p) = p.1

-- The kind of value that a helper takes as argument 1 or 2, given the list of the kinds of its arguments. This list is
-- None if there is no such helper. The result is None if the list is None or has no such argument, and for any argument
-- but 1 and 2.
abbrev pub kind_among : Option (List Kind) → ℕ → Option Kind
kind_among None argument = None
kind_among (Some kinds) argument =
    if argument == 1 then slice_get kinds 0 else (if argument == 2 then slice_get kinds 1 else None)

abbrev pub wanted_at : ℤ → ℕ → Option Kind
wanted_at helper argument = kind_among (signature helper) argument

abbrev pub wanted_by : Option ProgramUnit → ℕ → Option Kind
wanted_by (Some (First i)) argument = wanted_at i.imm argument
wanted_by unit argument = None

-- how many bytes an instruction of this form loads; 0 for any other form
abbrev pub load_size : Option Form → ℕ
load_size (Some (Load size)) = bytes_in size
load_size (Some (LoadSigned size)) = bytes_in size
load_size form = 0

-- whether bytes with this size and end, of a context, are in the second layout alone
abbrev pub in_second_alone : ℕ → ℤ → Bool
in_second_alone size end = nat_lt 0 size && (int_lt (pos 64) end && int_le end (pos 80))

-- The instruction is a load whose last byte is one of 64 to 79 behind its base register, which isn't r10, the stack's.
-- A context has these bytes in the second layout alone.
abbrev pub reads_second_layout : Inst → Bool
reads_second_layout i =
    not (i.src == 10) && in_second_alone (load_size (form_of i.opcode)) (i.offset +ℤ pos (load_size (form_of i.opcode)))

abbrev pub layout_hint : Option ProgramUnit → Option Hint
layout_hint (Some (First i)) = if reads_second_layout i then Some SecondLayout else None
layout_hint unit = None

-- the counter with this number, from 0 to 31, and its bit of a mask; None for another number
abbrev pub counter_numbered : ℤ → Option Hint
counter_numbered (pos n) = if nat_lt n 32 then Some (Counter n (2 ^ n)) else None
counter_numbered (negsuc n) = None

-- whether an instruction sets r1 to a number: `r1 = C` (opcode 0xb7) or `w1 = C` (opcode 0xb4)
abbrev pub sets_r1 : Inst → Bool
sets_r1 i = (i.opcode == 0xb7 || i.opcode == 0xb4) && i.dst == 1

-- the counter whose number an instruction sets r1 to
abbrev pub counter_hint : Option ProgramUnit → Option Hint
counter_hint (Some (First i)) = if sets_r1 i then counter_numbered i.imm else None
counter_hint unit = None

-- What the message of a refusal says more, given the units of the program:
-- - of an argument at fault: the kind of value that the helper takes there. The helper's number is the immediate of the
--   instruction at the refusal's unit.
-- - of a load outside the context and the stack: that it reads what only contexts of the second layout have
-- - of a counter that isn't declared: which one, if the unit before the call sets r1 to its number
-- The result is None for any other refusal, and if no such instruction begins at that unit, or there is no such helper or
-- argument.
abbrev pub hint_for : List ProgramUnit → Refusal → Option Hint
hint_for code (OfType (BadArgument unit argument)) = option_map Wanted (wanted_by (slice_get code unit) argument)
hint_for code (OfType (OutOfRange unit)) = layout_hint (slice_get code unit)
hint_for code (OfType (UndeclaredCounter unit)) = counter_hint (slice_get code (unit - 1))
hint_for code refusal = None

-- the same, and None if the units are None, since the program's bytes can't be decoded
abbrev pub hint_in : Option (List ProgramUnit) → Refusal → Option Hint
hint_in None refusal = None
hint_in (Some code) refusal = hint_for code refusal

-- the 16 hexadecimal digits of a unit and an LF; None if the bytes end before the unit does
abbrev pub digits_line : List ℕ → ℕ → Option (List ℕ)
digits_line bytes unit = if nat_le (8 * unit + 8) (length bytes) then Some (unit_line bytes unit) else None

-- The line of a unit:
-- - If the bytes can be decoded as units, it is the line of the instruction that begins at the unit, or None if none
--   begins there.
-- - If they can't be decoded as units, it is the line of the unit's digits, or None if the bytes end before the unit
--   does.
abbrev pub line_by : Option (List ProgramUnit) → List ℕ → ℕ → Option (List ℕ)
line_by None bytes unit = digits_line bytes unit
line_by (Some code) bytes unit = line_of_unit code unit

-- the line of the unit that a refusal names; None if it names no unit, or if this unit has no line
abbrev pub line_named : List ℕ → Option ℕ → Option (List ℕ)
line_named bytes None = None
line_named bytes (Some unit) = line_by (units bytes) bytes unit

-- `reported.line` is the line of the unit at fault (`line_named`), and `reported.hint` is what the message says more
-- (`hint_in`). Each is None if the refusal and these bytes give none.
pub record Names (bytes : List ℕ) (reported : RefusedProgram) : Type 0 where
  pub line_is : option_map string_bytes reported.line ≡ line_named bytes (unit_in (refusal_numbers reported.refusal))
  pub hint_is : reported.hint ≡ hint_in (units bytes) reported.refusal

-- `reported` is why the program is refused, with the line of the unit at fault and what the message says more, if the
-- refusal names a unit.
pub record IsReason (p : ProgramText) (reported : RefusedProgram) : Type 0 where
  pub refused : refusal_of p ≡ Some reported.refusal
  pub names : Names p.bytes reported

-- `reported` is why the program is refused. What its refusal claims about the program is true, and the refusal has a
-- fault number (V1 to V20).
pub record IsExplained (p : ProgramText) (reported : RefusedProgram) : Type 0 where
  pub reason : IsReason p reported
  pub shows : IsRefused p reported.refusal
  pub numbered : refusal_numbers reported.refusal ≢ None

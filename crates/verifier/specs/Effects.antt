-- Definitions: the effect of an instruction on a fact (this profile, type rules).
use Rattle.std.specs.Prelude.{ℕ, List, Result, Ok, Err}
use Rattle.verifier.specs.declared.types.RegType.{RegType}
use Rattle.verifier.specs.declared.types.StackWrite.{StackWrite}
use Rattle.verifier.specs.declared.types.Flaw.{Flaw}

-- The types after an instruction, and the bytes of the stack that it writes: `len` of them from byte `at` on, counted
-- from the stack's lowest byte. `spilled` is the type of the pointer that the instruction spills there, or `Unset` if
-- it spills none: then the bytes are those of a number.
pub record Effect : Type 0 where
  pub types : List RegType
  pub at : ℕ
  pub len : ℕ
  pub spilled : RegType

-- the effect with these types and this write to the stack
abbrev pub effect_of : List RegType → StackWrite → Effect
effect_of types m = record { types = types; at = m.at; len = m.len; spilled = m.spilled }

abbrev pub effect_with : List RegType → Result StackWrite Flaw → Result Effect Flaw
effect_with types (Ok m) = Ok (effect_of types m)
effect_with types (Err e) = Err e

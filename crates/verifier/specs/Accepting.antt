-- Promises: the verifier accepts each instruction of a plain program (one that works on R0 and the context only).
use Rattle.std.specs.Prelude.{◌≡◌, ℕ, ◌≤◌, ◌⊎◌, true, ℤ, List, length, Option, Some, None, Ok, slice_get, ⊤}
use Rattle.bpf_model.specs.declared.instruction.Inst.{Inst}
use Rattle.bpf_model.specs.declared.instruction.Form.{Form}
use Rattle.bpf_model.specs.declared.instruction.Unit.{Unit as ProgramUnit}
use Rattle.bpf_model.specs.declared.instruction.Unit.TheVariants.{First}
use Rattle.bpf_model.specs.Reading.{form_of}
use Rattle.verifier.specs.declared.types.LoadOptions.{LoadOptions}
use Rattle.verifier.specs.declared.types.RegType.{RegType}
use Rattle.verifier.specs.declared.types.RegType.TheVariants.{Ctx}
use Rattle.verifier.specs.declared.types.Fact.{Fact}
use Rattle.verifier.specs.Effects.{Effect}
use Rattle.verifier.specs.Rules.{type_at, is_numeric, checked_effect}
use Rattle.verifier.specs.Inference.{entry_types}

-- R1 points to the context, and R0 holds a number
pub record ArePlain (types : List RegType) : Type 0 where
  pub long : 2 ≤ length types
  pub base : type_at types 1 ≡ Ctx 0
  pub number : is_numeric (type_at types 0) ≡ true

abbrev pub PlainOption : Option Fact → Type 0
PlainOption None = ⊤
PlainOption (Some fact) = ArePlain fact.types

-- if `fact` is known before instruction i at unit pc, then the typing rules accept i, and after it R1 points to the
-- context and R0 holds a number
abbrev pub PlainAt : List ProgramUnit → ℕ → LoadOptions → Inst → Fact → Type 0
PlainAt us pc options i fact =
    (upper : ℤ) (form : Form) → form_of i.opcode ≡ Some form → (e : Effect) × (checked_effect (length us) pc options fact i upper form ≡ Ok e) × ArePlain e.types

-- the register types that a plain program (one that works on R0 and the context only) can have at unit pc: those with
-- which a run begins, if pc is 0, or types by which R1 points to the context and R0 holds a number
abbrev pub PlainTypesAt : ℕ → List RegType → Type 0
PlainTypesAt pc types = ((pc ≡ 0) × (types ≡ entry_types)) ⊎ ArePlain types

-- the typing rules accept each instruction if the register types before it are ones that a plain program (one that
-- works on R0 and the context only) can have at the instruction's unit
pub record AcceptsAll (us : List ProgramUnit) (options : LoadOptions) : Type 0 where
  pub each : (pc : ℕ) (i : Inst) (fact : Fact) → slice_get us pc ≡ Some (First i) → PlainTypesAt pc fact.types → PlainAt us pc options i fact

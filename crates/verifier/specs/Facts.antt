-- Promises: when a state fits a fact (what is known before a unit), and when facts cover a program. Facts cover a
-- program if the fact of unit 0 holds when a run begins, and each instruction whose unit has a fact is well typed. Then
-- no run of the program gets stuck.
use Rattle.std.specs.Prelude.{◌≡◌, ◌≢◌, ℕ, suc, ◌≤◌, slice_index, ◌+◌, ◌*◌, ◌<◌, ◌==◌, if◌then◌else◌, ◌/◌, ◌%◌, ◌^◌, ◌⊎◌, ◌↔◌, Bool, true, false, pos, ◌+ℤ◌}
use Rattle.std.specs.Prelude.{List, [], ◌∷◌, length, Option, Some, None, Ok, slice_get, slice_index_or, ⊤}
use Rattle.std.specs.List.{AllByRecursion}
use Rattle.bpf_model.specs.declared.instruction.Inst.{Inst}
use Rattle.bpf_model.specs.declared.instruction.Unit.{Unit as ProgramUnit}
use Rattle.bpf_model.specs.declared.instruction.Unit.TheVariants.{First}
use Rattle.bpf_model.specs.declared.instruction.Form.{Form}
use Rattle.bpf_model.specs.declared.instruction.Form.TheVariants.{Wide}
use Rattle.bpf_model.specs.declared.machine.Value.{Value}
use Rattle.bpf_model.specs.declared.machine.Value.TheVariants.{Number, Context, Stack}
use Rattle.bpf_model.specs.declared.machine.Cell.{Cell}
use Rattle.bpf_model.specs.declared.machine.Cell.TheVariants.{Byte}
use Rattle.bpf_model.specs.declared.machine.State.{State}
use Rattle.bpf_model.specs.Reading.{form_of, units}
use Rattle.bpf_model.specs.Flow.{IsAhead, GoesForward}
use Rattle.bpf_model.specs.Machine.{Counters, counter, register, cell_at, pointer_at}
use Rattle.bpf_model.specs.Runs.{AreCounters}
use Rattle.verifier.specs.Places.{Has, Within}
use Rattle.verifier.specs.declared.types.LoadOptions.{LoadOptions}
use Rattle.verifier.specs.declared.types.RegType.{RegType}
use Rattle.verifier.specs.declared.types.RegType.TheVariants.{Unset as Anything, Num, Const, Ctx, Stk}
use Rattle.verifier.specs.declared.types.Fact.{Fact}
use Rattle.verifier.specs.declared.types.StoredFact.{StoredFact}
use Rattle.verifier.specs.declared.types.CarriedFact.{CarriedFact}
use Rattle.verifier.specs.Effects.{Effect}
use Rattle.verifier.specs.declared.types.Successors.{Successors}
use Rattle.verifier.specs.declared.types.Successors.TheVariants.{End, Next, Jump, Either}
use Rattle.verifier.specs.Rules.{type_at, is_unset, spill_of, spilled_type, checked_effect}
use Rattle.verifier.specs.Inference.{successor_units, entry_types, no_spills, respilled}
use Rattle.verifier.specs.Operations.{upper_of}

-- ---- states that fit a fact

-- The value is one that the type allows. A stack pointer's type counts from the stack's end, and its value from the
-- stack's lowest byte, which is 512 bytes below.
abbrev pub FitsType : RegType → Value → Type 0
FitsType Anything v = ⊤
FitsType Num (Number n) = ⊤
FitsType (Const c) (Number n) = n ≡ c
FitsType (Ctx k) (Context n) = n ≡ k
FitsType (Stk k) (Stack n) = pos n ≡ (k +ℤ pos 512)
FitsType t v = ⊥

abbrev pub HasByte : Cell → Type 0
HasByte c = (b : ℕ) × (c ≡ Byte b)

-- each cell of the stack whose place is in the set holds a byte
pub record Covered (set : List Bool) (stack : List Cell) : Type 0 where
  pub bytes : (p : ℕ) → Has set p → HasByte (cell_at stack p)

-- if the type isn't Unset, the eight cells of the stack from `at` on hold a pointer that fits the type
abbrev pub FitsSpill : RegType → List Cell → ℕ → Type 0
FitsSpill t stack at = is_unset t ≡ false → (v : Value) × FitsType t v × (pointer_at stack at ≡ Some v)

pub record Fits (fact : Fact) (s : State) : Type 0 where
  pub registers : (r : ℕ) → FitsType (type_at fact.types r) (register s.registers r)
  pub many : length s.registers ≡ 11
  pub stack : Covered fact.stack s.stack
  pub long : length s.stack ≡ 512
  pub spills : (k : ℕ) → FitsSpill (spilled_type (slice_index fact.spills k)) s.stack (8 * k)

-- every state that fits `fact` also fits `wider`
pub record IsBelow (fact wider : Fact) : Type 0 where
  pub weakens : (s : State) → Fits fact s → Fits wider s

-- from `old` to `new` only declared counters change; no bound changes, and no value rises above its bound
pub record Changes (declared : ℕ) (old new : Counters) : Type 0 where
  pub right : AreCounters old → AreCounters new
  pub undeclared : (c : ℕ) → declared / 2 ^ c % 2 ≡ 0 → counter new c ≡ counter old c
  pub bounds : (c : ℕ) → (counter new c).1 ≡ (counter old c).1

-- ---- where instructions lead

-- the units at which a run can continue after the instruction: none, one or two
abbrev pub list_of : Successors → List ℕ
list_of End = []
list_of (Next to) = to ∷ []
list_of (Jump to) = to ∷ []
list_of (Either to next) = to ∷ next ∷ []

-- the units at which a run can continue by a jump of the instruction: none or one
abbrev pub jumps_of : Successors → List ℕ
jumps_of End = []
jumps_of (Next to) = []
jumps_of (Jump to) = to ∷ []
jumps_of (Either to next) = to ∷ []

-- the unit that the instruction's jump goes to; None if it isn't a jump
abbrev pub jump_of : Successors → Option ℕ
jump_of End = None
jump_of (Next to) = None
jump_of (Jump to) = Some to
jump_of (Either to next) = Some to

-- the unit of the next instruction; None if a run can't continue there
abbrev pub next_of : Successors → Option ℕ
next_of End = None
next_of (Next to) = Some to
next_of (Jump to) = None
next_of (Either to next) = Some next

-- the fact after an instruction, with the unit of the next instruction; None if a run can't continue there
abbrev pub carried_of : Fact → Successors → Option StoredFact
carried_of fact End = None
carried_of fact (Next to) = Some (record { at = to; fact = fact })
carried_of fact (Jump to) = None
carried_of fact (Either to next) = Some (record { at = next; fact = fact })

-- if a run can continue at the next instruction, that instruction begins at unit pc + 1 or, only after a wide load, at
-- unit pc + 2
abbrev pub IsNext : ℕ → Form → Successors → Type 0
IsNext pc form End = ⊤
IsNext pc form (Next to) = (to ≡ pc + 1) ⊎ ((to ≡ pc + 2) × (form ≡ Wide))
IsNext pc form (Jump to) = ⊤
IsNext pc form (Either to next) = next ≡ pc + 1

-- ---- tables of facts

-- a table of facts: for each unit what is known before it, or None
abbrev pub Facts : Type 0
Facts = ℕ → Option Fact

-- the fact that the list has for unit q: the first one whose unit is q; None if there is none
abbrev pub stored : List StoredFact → Facts
stored [] q = None
stored (s ∷ rest) q = if q == s.at then Some s.fact else stored rest q

-- k is the first index in the list at which a fact of unit `at` is stored
pub record IsPlace (facts : List StoredFact) (at k : ℕ) : Type 0 where
  pub inside : k < length facts
  pub earlier : (j : ℕ) (d : StoredFact) → j < k → (slice_index_or facts j d).at ≢ at
  pub here : (d : StoredFact) → (slice_index_or facts k d).at ≡ at

-- no unit has two facts
unfoldable pub AreDistinct : List StoredFact → Type 0
AreDistinct [] = ⊤
AreDistinct (s ∷ rest) = (stored rest s.at ≡ None) × AreDistinct rest

-- `places` has for each of the units 0 to 512 one more than the index of its fact, or 0 if it has none; no unit has two
-- facts
pub record IsIndexed (facts : List StoredFact) (places : List ℕ) : Type 0 where
  pub many : length places ≡ 513
  pub none : (q : ℕ) → q ≤ 512 → slice_index places q ≡ 0 → stored facts q ≡ None
  pub some : (q k : ℕ) → slice_index places q ≡ suc k → IsPlace facts q k
  pub distinct : AreDistinct facts

-- the fact after an instruction, with `at`, the unit of the next instruction; None if there is no such unit, because a
-- run can't continue at the next instruction
abbrev pub carried_to : Option ℕ → Fact → Option StoredFact
carried_to None fact = None
carried_to (Some at) fact = Some (record { at = at; fact = fact })

abbrev pub carried_in : CarriedFact → Option StoredFact
carried_in carried_fact = carried_to carried_fact.at carried_fact.fact

-- Byte p is in a set of stack bytes after a write of `len` bytes from byte `at` on; `set` is the set before the write.
-- A number's bytes (true) are added to the set, and a pointer's bytes (false) are removed from it.
abbrev pub HasAfter : Bool → List Bool → ℕ → ℕ → ℕ → Type 0
HasAfter true set at len p = Has set p ⊎ Within at len p
HasAfter false set at len p = Has set p × ¬ (Within at len p)

-- If `fact` is known before an instruction with this effect, then `after` is the fact after it. Its types are those of
-- the effect. Its set of stack bytes gains those of a written number, or loses those of a written pointer. Each aligned
-- place that is written to gets the spill of the written pointer, or 0 for a number; all others keep their spills.
pub record IsAfter (fact : Fact) (effect : Effect) (after : Fact) : Type 0 where
  pub types : after.types ≡ effect.types
  pub places : (p : ℕ) → Has after.stack p ↔ HasAfter (is_unset effect.spilled) fact.stack effect.at effect.len p
  pub spills : after.spills ≡ respilled (spill_of effect.spilled) effect.at effect.len 0 fact.spills

-- unit `to` has a fact, and every state that fits `fact` also fits the fact of `to`
pub record Enters (facts : Facts) (fact : Fact) (to : ℕ) : Type 0 where
  pub wider : Fact
  pub is : facts to ≡ Some wider
  pub below : IsBelow fact wider

-- The instruction is well typed: the typing rules give it an effect. It leads only to later units at which instructions
-- begin. Each state that fits the fact after it also fits the facts of these units.
pub record IsTyped (us : List ProgramUnit) (options : LoadOptions) (facts : Facts) (pc : ℕ) (i : Inst) (fact : Fact) : Type 0 where
  pub form : Form
  pub form_is : form_of i.opcode ≡ Some form
  pub effect : Effect
  pub typed : checked_effect (length us) pc options fact i (upper_of us pc) form ≡ Ok effect
  pub after : Fact
  pub after_is : IsAfter fact effect after
  pub tos : List ℕ
  pub leads_to : successor_units pc i form ≡ Some tos
  pub ahead : AllByRecursion (IsAhead us pc) tos
  pub enters : AllByRecursion (Enters facts after) tos

-- `fact` is known when a run begins: R1 and R10 have the types of pointers, and nothing is known of the other registers
-- and of the stack
pub record IsEntry (fact : Fact) : Type 0 where
  pub types : fact.types ≡ entry_types
  pub places : (p : ℕ) → Has fact.stack p → ⊥
  pub spills : fact.spills ≡ no_spills

-- The facts cover the units: each state that fits the fact with which a run begins also fits the fact of unit 0, and
-- the instruction of each unit with a fact is well typed.
pub record Covers (us : List ProgramUnit) (options : LoadOptions) (facts : Facts) : Type 0 where
  pub unit : Inst
  pub begins : slice_get us 0 ≡ Some (First unit)
  pub start : Fact
  pub start_is : IsEntry start
  pub entered : Enters facts start 0
  pub each : (pc : ℕ) (i : Inst) (fact : Fact) → slice_get us pc ≡ Some (First i) → facts pc ≡ Some fact → IsTyped us options facts pc i fact

-- the state is before an instruction whose unit has a fact, and it fits this fact
pub record IsAt (us : List ProgramUnit) (facts : Facts) (s : State) : Type 0 where
  pub unit : Inst
  pub begins : slice_get us s.pc ≡ Some (First unit)
  pub fact : Fact
  pub is : facts s.pc ≡ Some fact
  pub fits : Fits fact s

-- The bytes are decoded as the units `us`, and some facts cover these units (`Covers`): the fact of unit 0 is true when
-- a run begins, and each instruction whose unit has a fact is well typed.
pub record IsCovered (bytes : List ℕ) (options : LoadOptions) (us : List ProgramUnit) : Type 0 where
  pub reads : units bytes ≡ Some us
  pub facts : Facts
  pub covers : Covers us options facts

-- the units are those of a program whose jumps all go forward to instructions
pub record IsSound (us : List ProgramUnit) : Type 0 where
  pub bytes : List ℕ
  pub reads : units bytes ≡ Some us
  pub forward : GoesForward us

-- Promises: what the verifier's pass over the units does, which facts it stores, and which refusal it returns.
use Rattle.std.specs.Prelude.{◌≡◌, ◌≢◌, ℕ, ◌+◌, ◌<◌, ◌≤◌, ◌⊎◌, ◌↔◌, Bool, true, false, ◌&&◌, ◌||◌, is_some, ℤ, List, length, Option, Some, None, slice_get, ⊤}
use Rattle.bpf_model.specs.declared.instruction.Unit.{Unit as ProgramUnit}
use Rattle.bpf_model.specs.declared.instruction.Inst.{Inst}
use Rattle.bpf_model.specs.declared.instruction.Unit.TheVariants.{First, Second}
use Rattle.bpf_model.specs.declared.instruction.Form.{Form}
use Rattle.bpf_model.specs.declared.instruction.Form.TheVariants.{Wide}
use Rattle.verifier.specs.declared.types.LoadOptions.{LoadOptions}
use Rattle.verifier.specs.declared.types.StoredFact.{StoredFact}
use Rattle.bpf_model.specs.Reading.{units}
use Rattle.bpf_model.specs.Program.{ProgramText}
use Rattle.bpf_model.specs.Flow.{GoesForward, flow_fault, target}
use Rattle.verifier.specs.Places.{Has}
use Rattle.bpf_model.specs.declared.decode.DecodeFault.{DecodeFault}
use Rattle.bpf_model.specs.declared.decode.DecodeFault.TheVariants.{OutOfMemory as NoMemoryToDecode}
use Rattle.verifier.specs.declared.flow.FlowFault.TheVariants.{OutOfMemory as NoMemoryForFlow}
use Rattle.verifier.specs.declared.types.Fact.{Fact}
use Rattle.verifier.specs.declared.refusal.Refusal.{Refusal}
use Rattle.verifier.specs.declared.refusal.Refusal.TheVariants.{Decode, Flow, «Type» as TypeRefusal, OutOfMemory}
use Rattle.verifier.specs.LoadOptions.{options_of}
use Rattle.verifier.specs.Facts.{Facts, AreDistinct, IsCovered, stored}
use Rattle.verifier.specs.declared.operations.Operation.{Operation}
use Rattle.verifier.specs.Operations.{AreOperations}
use Rattle.verifier.specs.Inference.{flaw_under, arrived, passed, inferred, first_flaw, instruction_at, goes, is_entered, facts_in, targets_in}

-- ---- two facts are the same as each other if they have the same types, stack bytes and spills

-- the two facts have the same types, the same set of stack bytes and the same spills
pub record IsSame (a b : Fact) : Type 0 where
  pub types : a.types ≡ b.types
  pub places : (p : ℕ) → Has a.stack p ↔ Has b.stack p
  pub spills : a.spills ≡ b.spills

abbrev pub AreSame : Option Fact → Option Fact → Type 0
AreSame None None = ⊤
AreSame (Some a) (Some b) = IsSame a b
AreSame None (Some b) = ⊥
AreSame (Some a) None = ⊥

-- If a fact is stored for a unit (the first argument), then `fact` is a fact with the same types, stack bytes and
-- spills. If none is stored (None), nothing is claimed.
abbrev pub AreStored : Option Fact → Option Fact → Type 0
AreStored None fact = ⊤
AreStored (Some a) fact = AreSame (Some a) fact

-- ---- the stored facts, and the carried fact: the fact after an instruction, for the unit of the next instruction

-- The fact of unit q after a carried fact, if there is one, was joined into the fact of its unit; `old` is the fact
-- that q had before. A carried fact is the fact after an instruction, with the unit of the next instruction.
abbrev pub brought : ℕ → Option StoredFact → Option Fact → Option Fact
brought q None old = old
brought q (Some s) old = arrived q s.fact s.at old

-- What is known of each unit: its stored fact, or None if it has none. At the unit of the carried fact (the fact after
-- an instruction, for the unit of the next instruction), the carried fact is joined in too.
abbrev pub seen : Option StoredFact → Facts → Facts
seen carried facts q = brought q carried (facts q)

-- A carried fact is the fact after an instruction, with the unit of the next instruction. If there is a carried fact,
-- an instruction begins at its unit. This unit is pc, or pc + 1 if unit pc is the second unit of a wide load.
abbrev pub IsCarriedTo : List ProgramUnit → ℕ → Option StoredFact → Type 0
IsCarriedTo us pc None = ⊤
IsCarriedTo us pc (Some s) =
    ((i : Inst) × (slice_get us s.at ≡ Some (First i))) × ((s.at ≡ pc) ⊎ ((s.at ≡ pc + 1) × ((v : ℤ) × (slice_get us pc ≡ Some (Second v)))))

abbrev pub IsCarriedAt : ℕ → Option StoredFact → Type 0
IsCarriedAt pc None = ⊤
IsCarriedAt pc (Some s) = s.at ≡ pc

-- the fact, if the Bool is true; None if the Bool is false
abbrev pub fact_if : Bool → Fact → Option Fact
fact_if false fact = None
fact_if true fact = Some fact

-- `fact` was joined into the stored fact of unit `at`; no other fact changed
pub record IsJoined (at : ℕ) (fact : Fact) (old new : Facts) : Type 0 where
  pub each : (q : ℕ) → AreSame (new q) (arrived q fact at (old q))
  pub occupied : (q : ℕ) → is_some (new q) ≡ is_some (old q)

-- `fact` is what is known before unit pc: the stored fact of the unit, the fact that was carried to it from the
-- instruction before (`carried`), or the join of both. It is None if there is neither. If a fact was stored for unit
-- pc, then `fact` is stored for it now. The facts stored for other units haven't changed.
pub record IsMerged (pc : ℕ) (carried : Option StoredFact) (fact : Option Fact) (old new : Facts) : Type 0 where
  pub is : AreSame fact (seen carried old pc)
  pub others : (q : ℕ) → q ≢ pc → AreSame (new q) (old q)
  pub here : AreStored (new pc) fact
  pub occupied : (q : ℕ) → is_some (new q) ≡ is_some (old q)

-- If `fact` is known before the instruction at unit pc, then the instruction has no flaw, and the verifier's pass has
-- done two things with the fact after it. If the instruction is a jump, this fact was joined into what is known of the
-- jump's target. If a run can continue at the next instruction, this fact is carried to it (`next`).
pub record IsVisited (us : List ProgramUnit) (options : LoadOptions) (pc : ℕ) (fact : Fact) (next : Option StoredFact) (old new : Facts) : Type 0 where
  pub flawless : flaw_under us options pc (Some fact) ≡ None
  pub ahead : (q : ℕ) → pc < q → AreSame (seen next new q) (passed us options pc (Some fact) q (old q))
  pub behind : (q : ℕ) → q ≤ pc → AreSame (new q) (old q)
  pub goes_on : IsCarriedTo us (pc + 1) next
  pub occupied : (q : ℕ) → is_some (new q) ≡ (is_some (old q) || goes (target us pc) q)

-- If an instruction begins at unit pc and is reached, it has no flaw, and the verifier's pass has joined the fact after
-- it into what is known of each unit that it leads to.
pub record IsPassed (us : List ProgramUnit) (options : LoadOptions) (pc : ℕ) (carried next : Option StoredFact) (old new : Facts) : Type 0 where
  pub flawless : flaw_under us options pc (seen carried old pc) ≡ None
  pub ahead : (q : ℕ) → pc < q → AreSame (seen next new q) (passed us options pc (seen carried old pc) q (seen carried old q))
  pub behind : (q : ℕ) → q < pc → AreSame (new q) (old q)
  pub here : AreStored (new pc) (seen carried old pc)
  pub goes_on : IsCarriedTo us (pc + 1) next
  pub occupied : (q : ℕ) → is_some (new q) ≡ (is_some (old q) || (is_some (seen carried old pc) && goes (target us pc) q))

-- facts are stored for the first unit and for the targets of reached jumps; each is the fact that is inferred for its
-- unit
pub record AreInferred (us : List ProgramUnit) (options : LoadOptions) (facts : Facts) : Type 0 where
  pub each : (q : ℕ) → q < length us → AreStored (facts q) (inferred us options q)
  pub occupied : (q : ℕ) → is_some (facts q) ≡ is_entered us options (length us) q

-- the unit where the next instruction begins
abbrev pub following : ℕ → Form → ℕ
following pc Wide = pc + 2
following pc form = pc + 1

-- the only thing known of unit q is the fact after the instruction that comes just before q
pub record IsBrought (us : List ProgramUnit) (options : LoadOptions) (q : ℕ) : Type 0 where
  pub before : ℕ
  pub instruction : Inst × Form
  pub stands : instruction_at us before ≡ Some instruction
  pub next : q ≡ following before instruction.1
  pub is : inferred us options q ≡ passed us options before (inferred us options before) q None

-- a unit without a stored fact isn't reached, or the only thing known of it is the fact after the instruction that
-- comes just before it
abbrev pub AreWalked : List ProgramUnit → LoadOptions → Type 0
AreWalked us options =
    (q : ℕ) → is_entered us options (length us) q ≡ false → q < length us → (inferred us options q ≡ None) ⊎ IsBrought us options q

-- The bytes are decoded as the units `us`. No jump among them has a fault, and no reached unit has a flaw. `facts` are
-- the stored facts, and the facts of all other units follow from them.
pub record IsAccepted (bytes : List ℕ) (options : LoadOptions) (us : List ProgramUnit) (facts : List StoredFact) : Type 0 where
  pub reads : units bytes ≡ Some us
  pub forward : GoesForward us
  pub flows : flow_fault us ≡ None
  pub flawless : first_flaw us options ≡ None
  pub inferred_are : AreInferred us options (stored facts)
  pub distinct : AreDistinct facts
  pub walked : AreWalked us options

-- the bytes are accepted, `facts` are the facts stored for them, and `ops` are the operations that their units are
-- decoded to
pub record IsVerified (bytes : List ℕ) (options : LoadOptions) (facts : List StoredFact) (ops : List Operation) : Type 0 where
  pub us : List ProgramUnit
  pub accepted : IsAccepted bytes options us facts
  pub decoded : AreOperations us ops

-- Some facts cover the program's units: the fact of unit 0 is true when a run begins, and each instruction whose unit
-- has a fact is well typed. `ops` are the operations that the units are decoded to.
pub record IsDecoded (p : ProgramText) (ops : List Operation) : Type 0 where
  pub us : List ProgramUnit
  pub covered : IsCovered p.bytes (options_of p) us
  pub operations : AreOperations us ops

-- n is the number of stored facts: one for the first unit, and one for each unit that a reached jump goes to
abbrev pub IsFactCount : ProgramText → ℕ → Type 0
IsFactCount p n = (us : List ProgramUnit) → units p.bytes ≡ Some us → n ≡ facts_in us (options_of p)

-- n is at most one more than the number of different targets of jumps
abbrev pub IsBoundedByTargets : List ℕ → ℕ → Type 0
IsBoundedByTargets bytes n = (us : List ProgramUnit) → units bytes ≡ Some us → n ≤ 1 + targets_in us

-- ---- these say which refusal a fault becomes, and which refusals the verifier's pass can return

-- the refusal for a fault of decoding; if the fault is that memory ran out, the refusal is `OutOfMemory`
abbrev pub decode_fault_refusal : DecodeFault → Refusal
decode_fault_refusal NoMemoryToDecode = OutOfMemory
decode_fault_refusal fault = Decode fault

-- The verifier's pass over the units can return this refusal at unit pc if `fact` is known before pc. The refusal is
-- the flaw of the unit, or that memory ran out. Memory is taken only if the unit has no flaw and its instruction is a
-- jump: then the fact after the jump is stored for the jump's target.
abbrev pub IsUnitRefused : List ProgramUnit → LoadOptions → ℕ → Option Fact → Refusal → Type 0
IsUnitRefused us options pc fact (Decode fault) = ⊥
IsUnitRefused us options pc fact (Flow fault) = ⊥
IsUnitRefused us options pc fact (TypeRefusal fault) = flaw_under us options pc fact ≡ Some fault
IsUnitRefused us options pc fact OutOfMemory = (flaw_under us options pc fact ≡ None) × (target us pc ≢ None)

-- the verifier's pass over the units can return this refusal: the program's first flaw, or that memory ran out
abbrev pub IsPassRefused : List ProgramUnit → LoadOptions → Refusal → Type 0
IsPassRefused us options (Decode fault) = ⊥
IsPassRefused us options (Flow fault) = ⊥
IsPassRefused us options (TypeRefusal fault) = first_flaw us options ≡ Some fault
IsPassRefused us options OutOfMemory = ⊤

-- the refusal isn't a `Decode` with the fault `NoMemoryToDecode`, nor a `Flow` with the fault `NoMemoryForFlow`: a
-- refusal that says that memory ran out is `OutOfMemory` itself
abbrev pub WrapsNoOutOfMemory : Refusal → Type 0
WrapsNoOutOfMemory refusal = (refusal ≢ Decode NoMemoryToDecode) × (refusal ≢ Flow NoMemoryForFlow)

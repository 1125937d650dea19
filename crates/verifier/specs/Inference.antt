-- Definitions: what is known before each unit of a program, and the first unit that the typing rules refuse (this
-- profile, type rules).
use Rattle.std.specs.Prelude.{ℕ, zero, suc, ◌+◌, pos, ◌==◌, ◌&&◌, ◌||◌, is_some, if◌then◌else◌, Bool, true, false, List, [], ◌∷◌, length, drop, replicate}
use Rattle.std.specs.Prelude.{slice_get, slice_index_or, nat_lt, ◌*◌, Option, Some, None, Result, Ok, Err}
use Rattle.bpf_model.specs.declared.instruction.Inst.{Inst}
use Rattle.bpf_model.specs.declared.instruction.Form.{Form}
use Rattle.bpf_model.specs.declared.instruction.Form.TheVariants.{Wide, Ja, Ja32, Branch, Exit}
use Rattle.bpf_model.specs.declared.instruction.Unit.{Unit as ProgramUnit}
use Rattle.bpf_model.specs.declared.instruction.Unit.TheVariants.{First, Second}
use Rattle.bpf_model.specs.Reading.{form_of}
use Rattle.bpf_model.specs.Machine.{shifted}
use Rattle.bpf_model.specs.Flow.{target}
use Rattle.verifier.specs.Operations.{upper_of}
use Rattle.verifier.specs.declared.types.LoadOptions.{LoadOptions}
use Rattle.verifier.specs.declared.types.RegType.{RegType}
use Rattle.verifier.specs.declared.types.RegType.TheVariants.{Unset as Anything, Ctx, Stk}
use Rattle.verifier.specs.declared.types.Fact.{Fact}
use Rattle.verifier.specs.Effects.{Effect}
use Rattle.verifier.specs.declared.types.Flaw.{Flaw}
use Rattle.verifier.specs.declared.refusal.TypeFault.{TypeFault}
use Rattle.verifier.specs.Refusals.{located}
use Rattle.verifier.specs.Rules.{join_type, is_unset, spill_of, checked_effect}

-- ---- sets of stack bytes: a list of truth values, the lowest byte's first; bytes beyond its end aren't in the set

-- the set of the stack bytes that are in both of two sets; a set is a list of truth values, the lowest byte's first,
-- and bytes beyond its end aren't in it
abbrev pub common : List Bool → List Bool → List Bool
common [] bs = []
common (a ∷ rest) [] = []
common (a ∷ rest) (b ∷ bs) = (a && b) ∷ common rest bs

-- the set of stack bytes after the `len` bytes that begin at byte `at` were added to it
abbrev pub marked : ℕ → ℕ → List Bool → List Bool
marked zero zero set = set
marked zero (suc len) set = true ∷ marked zero len (drop 1 set)
marked (suc at) len set = slice_index_or set 0 false ∷ marked at len (drop 1 set)

-- the set of stack bytes after the `len` bytes that begin at byte `at` were removed from it
abbrev pub cleared : ℕ → ℕ → List Bool → List Bool
cleared zero zero set = set
cleared zero (suc len) set = false ∷ cleared zero len (drop 1 set)
cleared (suc at) len set = slice_index_or set 0 false ∷ cleared at len (drop 1 set)

-- ---- spills of the 64 aligned places, from the lowest on

-- the join of two lists of spills, one spill for each aligned place: where both lists have the same spill, it stays;
-- elsewhere the result has 0 (no pointer)
abbrev pub join_spills : List ℕ → List ℕ → List ℕ
join_spills [] bs = []
join_spills (a ∷ rest) [] = []
join_spills (a ∷ rest) (b ∷ bs) = (if a == b then a else 0) ∷ join_spills rest bs

-- whether a store of the `len` bytes (at least one) that begin at byte `at` writes a byte of aligned place k (the eight
-- bytes from byte 8 k on)
abbrev pub touches : ℕ → ℕ → ℕ → Bool
touches at len k = nat_lt at (8 * k + 8) && nat_lt (8 * k) (at + len)

-- the spills of the aligned places k, k + 1 and so on, after a store of the `len` bytes that begin at byte `at`: n for
-- each place that the store touches, and for the others the spill as before
abbrev pub respilled : ℕ → ℕ → ℕ → ℕ → List ℕ → List ℕ
respilled n at len k [] = []
respilled n at len k (m ∷ rest) = (if touches at len k then n else m) ∷ respilled n at len (suc k) rest

-- ---- the join of two facts, the fact when a run begins, and the fact after an instruction

abbrev pub join_types : List RegType → List RegType → List RegType
join_types [] bs = []
join_types (a ∷ rest) [] = []
join_types (a ∷ rest) (b ∷ bs) = join_type a b ∷ join_types rest bs

-- the join of two facts: what the two facts agree on
abbrev pub join_fact : Fact → Fact → Fact
join_fact a b =
    record { types = join_types a.types b.types; stack = common a.stack b.stack; spills = join_spills a.spills b.spills }

-- the types of the registers when a run begins: R1 and R10 are pointers, and nothing is known of the others
abbrev pub entry_types : List RegType
entry_types =
    Anything ∷ Ctx 0 ∷ Anything ∷ Anything ∷ Anything ∷ Anything ∷ Anything ∷ Anything ∷ Anything ∷ Anything ∷ Stk (pos 0) ∷ []

abbrev pub no_spills : List ℕ
no_spills = replicate 64 0

-- the fact when a run begins: it has the types on entry, no byte of the stack is set, and no pointer is spilled
abbrev pub entry_fact : Fact
entry_fact = record { types = entry_types; stack = []; spills = no_spills }

-- the set of stack bytes after an instruction with this effect: the bytes of a number that it writes are in the set,
-- and those of a pointer aren't
abbrev pub set_after : Effect → List Bool → List Bool
set_after effect set = if is_unset effect.spilled then marked effect.at effect.len set else cleared effect.at effect.len set

-- what is known after an instruction with this effect
abbrev pub fact_after : Fact → Effect → Fact
fact_after fact effect =
    record {
      types = effect.types;
      stack = set_after effect fact.stack;
      spills = respilled (spill_of effect.spilled) effect.at effect.len 0 fact.spills;
    }

-- ---- the instruction at a unit, the units that it leads to, and its effect or its flaw

abbrev pub option_cons : Option ℕ → List ℕ → Option (List ℕ)
option_cons None tos = None
option_cons (Some to) tos = Some (to ∷ tos)

-- the units at which a run can continue after the instruction at unit pc; None if its jump goes outside the units 0 to
-- 512
abbrev pub successor_units : ℕ → Inst → Form → Option (List ℕ)
successor_units pc i Wide = Some ((pc + 2) ∷ [])
successor_units pc i Ja = option_cons (shifted (pc + 1) i.offset 512) []
successor_units pc i Ja32 = option_cons (shifted (pc + 1) i.imm 512) []
successor_units pc i (Branch c w s) = option_cons (shifted (pc + 1) i.offset 512) ((pc + 1) ∷ [])
successor_units pc i Exit = Some []
successor_units pc i form = Some ((pc + 1) ∷ [])

-- an instruction with its form; None if its opcode has no form
abbrev pub form_with : Inst → Option Form → Option (Inst × Form)
form_with i None = None
form_with i (Some form) = Some (i, form)

abbrev pub instruction_of : Option ProgramUnit → Option (Inst × Form)
instruction_of None = None
instruction_of (Some (Second v)) = None
instruction_of (Some (First i)) = form_with i (form_of i.opcode)

abbrev pub instruction_at : List ProgramUnit → ℕ → Option (Inst × Form)
instruction_at us pc = instruction_of (slice_get us pc)

-- the effect or the flaw that the typing rules give the instruction at unit pc if `fact` is known before it
abbrev pub ruled : List ProgramUnit → LoadOptions → ℕ → Fact → Inst × Form → Result Effect Flaw
ruled us options pc fact x = checked_effect (length us) pc options fact x.0 (upper_of us pc) x.1

-- the flaw of the instruction at unit pc, as a fault that names the unit; None if the instruction has an effect
abbrev pub flaw_in : ℕ → Result Effect Flaw → Option TypeFault
flaw_in pc (Ok effect) = None
flaw_in pc (Err flaw) = Some (located pc flaw)

abbrev pub flaw_of : List ProgramUnit → LoadOptions → ℕ → Fact → Option (Inst × Form) → Option TypeFault
flaw_of us options pc fact None = None
flaw_of us options pc fact (Some x) = flaw_in pc (ruled us options pc fact x)

abbrev pub flaw_under : List ProgramUnit → LoadOptions → ℕ → Option Fact → Option TypeFault
flaw_under us options pc None = None
flaw_under us options pc (Some fact) = flaw_of us options pc fact (instruction_at us pc)

-- ---- facts that an instruction passes on to the units that it leads to

-- the fact of a unit after `fact` was joined into it: the join of the unit's old fact and `fact`, or `fact` itself if
-- the unit had no fact before (None)
abbrev pub taken_in : Option Fact → Fact → Fact
taken_in None fact = fact
taken_in (Some old) fact = join_fact old fact

-- The fact of unit q after `fact` was joined into the fact of unit `to`. `old` is the fact that q had before, or None
-- if it had none. If q isn't `to`, the fact of q is still `old`.
abbrev pub arrived : ℕ → Fact → ℕ → Option Fact → Option Fact
arrived q fact to old = if q == to then Some (taken_in old fact) else old

abbrev pub arrived_all : ℕ → Fact → List ℕ → Option Fact → Option Fact
arrived_all q fact [] old = old
arrived_all q fact (to ∷ tos) old = arrived_all q fact tos (arrived q fact to old)

-- The fact of unit q after an instruction was checked. `fact` is the fact before the instruction, and `old` is the fact
-- of q before the check, or None if q had none. If the instruction has an effect, the fact after it is joined into the
-- fact of each unit that it leads to. If it has a flaw, or if it jumps outside the units 0 to 512, nothing changes.
abbrev pub passed_by : ℕ → Fact → Result Effect Flaw → Option (List ℕ) → Option Fact → Option Fact
passed_by q fact (Err flaw) tos old = old
passed_by q fact (Ok effect) None old = old
passed_by q fact (Ok effect) (Some tos) old = arrived_all q (fact_after fact effect) tos old

abbrev pub passed_from : List ProgramUnit → LoadOptions → ℕ → Fact → Option (Inst × Form) → ℕ → Option Fact → Option Fact
passed_from us options pc fact None q old = old
passed_from us options pc fact (Some x) q old = passed_by q fact (ruled us options pc fact x) (successor_units pc x.0 x.1) old

-- The fact of unit q after the verifier's pass over the units has visited unit pc; `old` is the fact of q before that.
-- The fourth argument is the fact of unit pc. If it is None, pc isn't reached, and nothing changes.
abbrev pub passed : List ProgramUnit → LoadOptions → ℕ → Option Fact → ℕ → Option Fact → Option Fact
passed us options pc None q old = old
passed us options pc (Some fact) q old = passed_from us options pc fact (instruction_at us pc) q old

-- ---- what is known before each unit of a program, and the program's first flaw

-- What is known of unit q from the units below n: the join of the fact on entry, if q is unit 0, and of the facts after
-- those instructions at these units that are reached, aren't refused and lead to q. None if there is no such fact.
unfoldable pub known : List ProgramUnit → LoadOptions → ℕ → ℕ → Option Fact
known us options zero q = if q == 0 then Some entry_fact else None
known us options (suc n) q = passed us options n (known us options n n) q (known us options n q)

-- What is known before unit q. At unit 0 this is the fact on entry. At each other unit it is the join of the facts
-- after all earlier instructions that are reached, aren't refused and lead to q, or None if there are none: then q
-- isn't reached.
abbrev pub inferred : List ProgramUnit → LoadOptions → ℕ → Option Fact
inferred us options q = known us options q q

abbrev pub or_else : Option TypeFault → Option TypeFault → Option TypeFault
or_else None b = b
or_else (Some fault) b = Some fault

-- The fault of the lowest of the first n units that is reached and refused. If this unit has several faults, it is the
-- one with the lowest fault number (V1 to V20). None if none of the first n units is reached and refused.
unfoldable pub first_flaw_below : List ProgramUnit → LoadOptions → ℕ → Option TypeFault
first_flaw_below us options zero = None
first_flaw_below us options (suc n) = or_else (first_flaw_below us options n) (flaw_under us options n (inferred us options n))

abbrev pub first_flaw : List ProgramUnit → LoadOptions → Option TypeFault
first_flaw us options = first_flaw_below us options (length us)

-- ---- where facts are stored: at the first unit, and where the jumps of reached units go

-- whether a jump with this target goes to unit q; the target is None for an instruction that isn't a jump
abbrev pub goes : Option ℕ → ℕ → Bool
goes None q = false
goes (Some to) q = q == to

-- whether q is the first unit, or the jump of a reached unit below n goes to it
unfoldable pub is_entered : List ProgramUnit → LoadOptions → ℕ → ℕ → Bool
is_entered us options zero q = q == 0
is_entered us options (suc n) q = is_entered us options n q || (is_some (inferred us options n) && goes (target us n) q)

-- whether the jump of a unit below n, reached or not, goes to q
unfoldable pub is_target : List ProgramUnit → ℕ → ℕ → Bool
is_target us zero q = false
is_target us (suc n) q = is_target us n q || goes (target us n) q

-- how many numbers below n pass the test
unfoldable pub count_below : ℕ → (ℕ → Bool) → ℕ
count_below zero is = 0
count_below (suc n) is = if is n then suc (count_below n is) else count_below n is

-- the number of units whose facts are stored
abbrev pub facts_in : List ProgramUnit → LoadOptions → ℕ
facts_in us options = count_below (length us) (is_entered us options (length us))

-- the number of different targets of jumps
abbrev pub targets_in : List ProgramUnit → ℕ
targets_in us = count_below (length us) (is_target us (length us))

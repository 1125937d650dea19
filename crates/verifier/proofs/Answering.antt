-- If `verify` refuses a program, the refusal is the program's first fault, as `refusal_of` defines it, or it is that
-- memory ran out. What the refusal says is then true of the program (`IsRefused`).
use Rattle.std.proofs.Common.{◌≡◌, ◌≢◌, ℕ, zero, suc, ◌⊎◌, List, Option, Some, None, Bool, true, false, refl, sym, ap, ◌∙◌, inl, inr, length}
use Rattle.std.specs.Prelude.{Result, Ok, Err, ◌/◌, ◌&&◌, cond, is_none, slice_get}
use Rattle.bpf_model.specs.declared.instruction.Inst.{Inst}
use Rattle.bpf_model.specs.declared.instruction.Form.{Form}
use Rattle.bpf_model.specs.declared.instruction.Unit.{Unit as ProgramUnit}
use Rattle.bpf_model.specs.declared.instruction.UnitFault.{UnitFault}
use Rattle.bpf_model.specs.declared.instruction.JumpFault.{JumpFault}
use Rattle.bpf_model.specs.Reading.{units, units_below, has_valid_length, fault_below}
use Rattle.bpf_model.specs.Flow.{flow_fault}
use Rattle.bpf_model.specs.declared.decode.DecodeFault.{DecodeFault}
use Rattle.bpf_model.specs.declared.decode.DecodeFault.TheVariants.{Length, BadOpcode, BadField, BadRegister, HalfWide, OutOfMemory as NoMemoryToDecode}
use Rattle.bpf_model.specs.DecodeFaults.{HasValidFirstUnit, IsRefusedFor}
use Rattle.verifier.specs.declared.flow.FlowFault.{FlowFault}
use Rattle.verifier.specs.declared.flow.FlowFault.TheVariants.{BackwardJump, JumpOut, JumpIntoWide, OutOfMemory as NoMemoryForFlow}
use Rattle.verifier.specs.FlowFaults.{IsFirstFlowFault as IsFlowFaultOf}
use Rattle.verifier.specs.declared.types.LoadOptions.{LoadOptions}
use Rattle.verifier.specs.LoadOptions.{loaded_on}
use Rattle.verifier.specs.declared.types.Fact.{Fact}
use Rattle.verifier.specs.Effects.{Effect}
use Rattle.verifier.specs.declared.types.Flaw.{Flaw}
use Rattle.verifier.specs.declared.refusal.TypeFault.{TypeFault}
use Rattle.verifier.specs.declared.refusal.Refusal.{Refusal}
use Rattle.verifier.specs.declared.refusal.Refusal.TheVariants.{Decode, Flow, «Type» as TypeRefusal, OutOfMemory}
use Rattle.verifier.specs.Refusals.{located, refusal_numbers}
use Rattle.verifier.specs.Inference.{instruction_at, ruled, flaw_in, flaw_of, flaw_under, inferred, or_else, first_flaw_below, first_flaw}
use Rattle.verifier.specs.Operations.{upper_of}
use Rattle.verifier.specs.Passing.{IsPassRefused, WrapsNoOutOfMemory, decode_fault_refusal}
use Rattle.verifier.specs.RefusedPrograms.{IsPossibleTypeFault, IsRefused, IsRefusal, unit_refusal, decode_refusal, flow_refusal, type_refusal, code_refusal, or_refused}
use Rattle.verifier.specs.RefusedPrograms.{refusal_of, OneAnswer}
use Rattle.verifier.specs.Plain.{IsPlain}
use Rattle.verifier.proofs.Accepting.{plain_accepts, plain_flawless}
use Rattle.verifier.proofs.Accepted.{instruction_is}
use Rattle.verifier.proofs.Showing.{checked_effect_shows}

-- ---- the first flaw is that of an instruction of the program, and one that this instruction can have (`MayHave`)

one_of_two : (a b : Option TypeFault) (fault : TypeFault) → or_else a b ≡ Some fault → (a ≡ Some fault) ⊎ (b ≡ Some fault)
one_of_two None b fault e = inr e
one_of_two (Some f) b fault e = inl e

flaw_at : (us : List ProgramUnit) (options : LoadOptions) (n : ℕ) (fault : TypeFault) → first_flaw_below us options n ≡ Some fault
    → (k : ℕ) × (flaw_under us options k (inferred us options k) ≡ Some fault)
unfolding first_flaw_below
flaw_at us options zero fault e = absurd (cc)
flaw_at us options (suc n) fault e =
    elim (one_of_two (first_flaw_below us options n) (flaw_under us options n (inferred us options n)) fault e) [
      | inl below ↦ flaw_at us options n fault below
      | inr here ↦ (n, here)
    ]

flaw_from : (pc : ℕ) (r : Result Effect Flaw) (fault : TypeFault) → flaw_in pc r ≡ Some fault → (flaw : Flaw) × (r ≡ Err flaw) × (fault ≡ located pc flaw)
flaw_from pc (Ok e) fault h = absurd (cc)
flaw_from pc (Err flaw) fault h = (flaw, refl, cc)

decoded_by : (us : List ProgramUnit) (right : Bool) (o : Option (ℕ × UnitFault)) (below : List ProgramUnit)
    → cond (right && is_none o) (Some below) None ≡ Some us → cond right (unit_refusal o) (Some (Decode Length)) ≡ None
decoded_by us true None below e = refl
decoded_by us true (Some x) below e = absurd (cc)
decoded_by us false o below e = absurd (cc)

module _ (bytes : List ℕ) (us : List ProgramUnit) (options : LoadOptions) (reads : units bytes ≡ Some us) (flows : flow_fault us ≡ None) where
  shown_of : (pc : ℕ) (fact : Fact) (o : Option (Inst × Form)) (fault : TypeFault) → instruction_at us pc ≡ o → flaw_of us options pc fact o ≡ Some fault
      → IsPossibleTypeFault bytes fault
  shown_of pc fact None fault at e = absurd (cc)
  shown_of pc fact (Some x) fault at e =
      let is = instruction_is (slice_get us pc) x at in
      let f = flaw_from pc (ruled us options pc fact x) fault e in
      record {
        code = us;
        reads = reads;
        flows = flows;
        pc = pc;
        unit = x.0;
        begins = is.0;
        form = x.1;
        form_is = is.1;
        flaw = f.0;
        shows = checked_effect_shows (length us) pc options fact x.0 (upper_of us pc) x.1 f.0 f.1;
        fault_is = f.2;
      }

  shown_under : (pc : ℕ) (o : Option Fact) (fault : TypeFault) → flaw_under us options pc o ≡ Some fault → IsPossibleTypeFault bytes fault
  shown_under pc None fault e = absurd (cc)
  shown_under pc (Some fact) fault e = shown_of pc fact (instruction_at us pc) fault refl e

  type_numbers : (fault : TypeFault) → first_flaw us options ≡ Some fault → IsPossibleTypeFault bytes fault
  type_numbers fault e = let k = flaw_at us options (length us) fault e in shown_under k.0 (inferred us options k.0) fault k.1

  -- ---- the refusal that is returned is the one that `refusal_of` defines, or that memory ran out

  decoded : decode_refusal bytes ≡ None
  decoded = decoded_by us (has_valid_length bytes) (fault_below bytes (length bytes / 8)) (units_below bytes (length bytes / 8)) reads

  flawed_is : (o : Option TypeFault) → first_flaw us options ≡ o → refusal_of (loaded_on bytes options) ≡ type_refusal o
  unfolding refusal_of
  flawed_is o e =
      ap (λ r. or_refused r (code_refusal options (units bytes))) decoded
      ∙ ap (code_refusal options) reads
      ∙ ap (λ f. or_refused (flow_refusal f) (type_refusal (first_flaw us options))) flows
      ∙ ap type_refusal e

  pub accepted : first_flaw us options ≡ None → refusal_of (loaded_on bytes options) ≡ None
  accepted e = flawed_is None e

  pub pass_shown : (refusal : Refusal) → IsPassRefused us options refusal → IsRefused (loaded_on bytes options) refusal
  pass_shown (Decode fault) h = absurd h
  pass_shown (Flow fault) h = absurd h
  pass_shown (TypeRefusal fault) h = type_numbers fault h
  pass_shown OutOfMemory h = tt

  pub pass_exact : (refusal : Refusal) → IsPassRefused us options refusal → IsRefusal (refusal_of (loaded_on bytes options)) refusal
  pass_exact (Decode fault) h = absurd h
  pass_exact (Flow fault) h = absurd h
  pass_exact (TypeRefusal fault) h = flawed_is (Some fault) h
  pass_exact OutOfMemory h = tt

pub pass_alone : (us : List ProgramUnit) (options : LoadOptions) (refusal : Refusal) → IsPassRefused us options refusal → WrapsNoOutOfMemory refusal
pass_alone us options (Decode fault) h = absurd h
pass_alone us options (Flow fault) h = absurd h
pass_alone us options (TypeRefusal fault) h = (λ e. absurd (cc), λ e. absurd (cc))
pass_alone us options OutOfMemory h = (λ e. absurd (cc), λ e. absurd (cc))

module _ (bytes : List ℕ) (options : LoadOptions) where
  first_refused : (refusal : Refusal) → decode_refusal bytes ≡ Some refusal → refusal_of (loaded_on bytes options) ≡ Some refusal
  unfolding refusal_of
  first_refused refusal e = ap (λ o. or_refused o (code_refusal options (units bytes))) e

  unit_refused : (o : Option (ℕ × UnitFault)) → has_valid_length bytes ≡ true → fault_below bytes (length bytes / 8) ≡ o → decode_refusal bytes ≡ unit_refusal o
  unit_refused o right e =
      ap (λ t. cond t (unit_refusal (fault_below bytes (length bytes / 8))) (Some (Decode Length))) right ∙ ap unit_refusal e

  pub decode_exact : (fault : DecodeFault) → IsRefusedFor bytes fault → IsRefusal (refusal_of (loaded_on bytes options)) (decode_fault_refusal fault)
  decode_exact Length h = first_refused (Decode Length) (ap (λ t. cond t (unit_refusal (fault_below bytes (length bytes / 8))) (Some (Decode Length))) h)
  decode_exact (BadOpcode pc) h = first_refused (Decode (BadOpcode pc)) (unit_refused _ h.right_length h.first)
  decode_exact (BadField pc) h = first_refused (Decode (BadField pc)) (unit_refused _ h.right_length h.first)
  decode_exact (BadRegister pc) h = first_refused (Decode (BadRegister pc)) (unit_refused _ h.right_length h.first)
  decode_exact (HalfWide pc) h = first_refused (Decode (HalfWide pc)) (unit_refused _ h.right_length h.first)
  decode_exact NoMemoryToDecode h = tt

  pub decode_numbers : (fault : DecodeFault) → IsRefusedFor bytes fault → IsRefused (loaded_on bytes options) (decode_fault_refusal fault)
  decode_numbers Length h = h
  decode_numbers (BadOpcode pc) h = h
  decode_numbers (BadField pc) h = h
  decode_numbers (BadRegister pc) h = h
  decode_numbers (HalfWide pc) h = h
  decode_numbers NoMemoryToDecode h = tt

  flow_is : (us : List ProgramUnit) (x : ℕ × JumpFault) → units bytes ≡ Some us → flow_fault us ≡ Some x
      → refusal_of (loaded_on bytes options) ≡ flow_refusal (Some x)
  unfolding refusal_of
  flow_is us x reads e =
      ap (λ r. or_refused r (code_refusal options (units bytes)))
      (decoded_by us (has_valid_length bytes) (fault_below bytes (length bytes / 8)) (units_below bytes (length bytes / 8)) reads)
      ∙ ap (code_refusal options) reads
      ∙ ap (λ f. or_refused (flow_refusal f) (type_refusal (first_flaw us options))) e

  pub flow_exact : (us : List ProgramUnit) (fault : FlowFault) → units bytes ≡ Some us → IsFlowFaultOf us fault
      → refusal_of (loaded_on bytes options) ≡ Some (Flow fault)
  flow_exact us (BackwardJump pc) reads h = flow_is us _ reads h
  flow_exact us (JumpOut pc) reads h = flow_is us _ reads h
  flow_exact us (JumpIntoWide pc) reads h = flow_is us _ reads h
  flow_exact us NoMemoryForFlow reads h = absurd h

  -- ---- plain programs are refused only if memory runs out

  plain_accepted : IsPlain (loaded_on bytes options) → refusal_of (loaded_on bytes options) ≡ None
  plain_accepted p =
      accepted bytes p.code options p.reads p.flows (plain_flawless p.code options (plain_accepts bytes p.code options p.reads p.plain) (length p.code))

  other_refusal : (refusal : Refusal) → refusal_of (loaded_on bytes options) ≡ Some refusal → IsPlain (loaded_on bytes options) → refusal ≡ OutOfMemory
  other_refusal refusal e p = let never : None ≡ Some refusal = sym (plain_accepted p) ∙ e in absurd (cc)

  pub exact_plain : (refusal : Refusal) → IsRefusal (refusal_of (loaded_on bytes options)) refusal → IsPlain (loaded_on bytes options) → refusal ≡ OutOfMemory
  exact_plain (Decode fault) h p = other_refusal (Decode fault) h p
  exact_plain (Flow fault) h p = other_refusal (Flow fault) h p
  exact_plain (TypeRefusal fault) h p = other_refusal (TypeRefusal fault) h p
  exact_plain OutOfMemory h p = refl

pub decode_alone : (fault : DecodeFault) → WrapsNoOutOfMemory (decode_fault_refusal fault)
decode_alone Length = (λ e. absurd (cc), λ e. absurd (cc))
decode_alone (BadOpcode pc) = (λ e. absurd (cc), λ e. absurd (cc))
decode_alone (BadField pc) = (λ e. absurd (cc), λ e. absurd (cc))
decode_alone (BadRegister pc) = (λ e. absurd (cc), λ e. absurd (cc))
decode_alone (HalfWide pc) = (λ e. absurd (cc), λ e. absurd (cc))
decode_alone NoMemoryToDecode = (λ e. absurd (cc), λ e. absurd (cc))

pub flow_alone : (us : List ProgramUnit) (fault : FlowFault) → IsFlowFaultOf us fault → WrapsNoOutOfMemory (Flow fault)
flow_alone us (BackwardJump pc) h = (λ e. absurd (cc), λ e. absurd (cc))
flow_alone us (JumpOut pc) h = (λ e. absurd (cc), λ e. absurd (cc))
flow_alone us (JumpIntoWide pc) h = (λ e. absurd (cc), λ e. absurd (cc))
flow_alone us NoMemoryForFlow h = absurd h

pub memory_alone : WrapsNoOutOfMemory OutOfMemory
memory_alone = (λ e. absurd (cc), λ e. absurd (cc))

pub begin_right : (bytes : List ℕ) (fault : DecodeFault) → IsRefusedFor bytes fault → refusal_numbers (decode_fault_refusal fault) ≡ None → HasValidFirstUnit bytes
begin_right bytes Length h e = absurd (cc)
begin_right bytes (BadOpcode pc) h e = absurd (cc)
begin_right bytes (BadField pc) h e = absurd (cc)
begin_right bytes (BadRegister pc) h e = absurd (cc)
begin_right bytes (HalfWide pc) h e = absurd (cc)
begin_right bytes NoMemoryToDecode h e = h

-- If the bytes are 1 to 512 whole units and the first has no fault (`HasValidFirstUnit`), then their length isn't
-- wrong: from a wrong length any P would follow.
pub never_wrong : (P : Type 0) (bytes : List ℕ) → HasValidFirstUnit bytes → has_valid_length bytes ≡ false → P
never_wrong P bytes right wrong = let never : true ≡ false = sym right.right_length ∙ wrong in absurd (cc)

pub fault_of_err : {T : Type 0} (a : DecodeFault) → (let told : Result T DecodeFault = Err a in told ≡ Err Length) → a ≡ Length
fault_of_err a e = cc

-- ---- results of `verify` for the same bytes, mask and layout are equal, unless memory ran out for one of them

told : (o : Option Refusal) (refusal : Refusal) → refusal ≢ OutOfMemory → IsRefusal o refusal → o ≡ Some refusal
told o (Decode fault) other h = h
told o (Flow fault) other h = h
told o (TypeRefusal fault) other h = h
told o OutOfMemory other h = absurd (other refl)

same_refusal : (o : Option Refusal) (a b : Refusal) → a ≢ OutOfMemory → b ≢ OutOfMemory → IsRefusal o a → IsRefusal o b → a ≡ b
same_refusal o a b other too h g =
    let x : o ≡ Some a = told o a other h in
    let y : o ≡ Some b = told o b too g in
    let both : Some a ≡ Some b = sym x ∙ y in
    cc

pub one_answer : OneAnswer
one_answer asked (Ok p) (Ok q) h g other too = ap Ok (h.0 ∙ sym g.0)
one_answer asked (Ok p) (Err b) h g other too =
    let never : None ≡ Some b = sym h.1 ∙ told (refusal_of asked) b (λ e. too (ap Err e)) g in
    absurd (cc)
one_answer asked (Err a) (Ok q) h g other too =
    let never : None ≡ Some a = sym g.1 ∙ told (refusal_of asked) a (λ e. other (ap Err e)) h in
    absurd (cc)
one_answer asked (Err a) (Err b) h g other too =
    ap Err (same_refusal (refusal_of asked) a b (λ e. other (ap Err e)) (λ e. too (ap Err e)) h g)

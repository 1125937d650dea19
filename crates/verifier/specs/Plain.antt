-- Definitions: plain programs, which work on R0 and the context only. They are always accepted unless memory runs out
-- (source: this project).
use Rattle.std.specs.Prelude.{◌≡◌, ℕ, ◌-◌, List, length, Some, None, IsSome, slice_get, ⊤}
use Rattle.bpf_model.specs.declared.instruction.Inst.{Inst}
use Rattle.bpf_model.specs.declared.instruction.Source.TheVariants.{Immediate, Register}
use Rattle.bpf_model.specs.declared.instruction.Operator.TheVariants.{Mov, SwapBytes}
use Rattle.bpf_model.specs.declared.instruction.Size.{Size}
use Rattle.bpf_model.specs.declared.instruction.Form.{Form}
use Rattle.bpf_model.specs.declared.instruction.Form.TheVariants.{Arithmetic, Wide, Load, LoadSigned, Ja, Ja32, Branch, Exit}
use Rattle.bpf_model.specs.declared.instruction.Unit.{Unit as ProgramUnit}
use Rattle.bpf_model.specs.declared.instruction.Unit.TheVariants.{First}
use Rattle.bpf_model.specs.Reading.{bytes_in, form_of, units}
use Rattle.bpf_model.specs.Flow.{flow_fault}
use Rattle.bpf_model.specs.Machine.{shifted}
use Rattle.bpf_model.specs.Program.{ProgramText}
use Rattle.bpf_model.specs.declared.context.Layout.{Layout}
use Rattle.bpf_model.specs.Layouts.{context_len}

-- the instruction loads into R0 through R1; if R1 points to the context's first byte, all bytes that it loads are
-- inside the context
abbrev pub LoadsArgument : Layout → Inst → Size → Type 0
LoadsArgument layout i size = (i.dst ≡ 0) × (i.src ≡ 1) × IsSome (shifted 0 i.offset (context_len layout - bytes_in size))

-- the form is plain: it is EXIT or a jump without condition, works on R0 alone, or loads into R0 from the context
abbrev pub IsPlainForm : Layout → Inst → Form → Type 0
IsPlainForm layout i Exit = ⊤
IsPlainForm layout i Ja = ⊤
IsPlainForm layout i Ja32 = ⊤
IsPlainForm layout i Wide = i.dst ≡ 0
IsPlainForm layout i (Arithmetic SwapBytes w s) = i.dst ≡ 0
IsPlainForm layout i (Arithmetic op w Immediate) = i.dst ≡ 0
IsPlainForm layout i (Arithmetic op w Register) = ⊥
IsPlainForm layout i (Branch c w Immediate) = i.dst ≡ 0
IsPlainForm layout i (Branch c w Register) = ⊥
IsPlainForm layout i (Load size) = LoadsArgument layout i size
IsPlainForm layout i (LoadSigned size) = LoadsArgument layout i size
IsPlainForm layout i form = ⊥

-- the form gives dst a new value, whatever dst held before: it is a MOV of an immediate, a wide load or a load
abbrev pub SetsFirst : Form → Type 0
SetsFirst Wide = ⊤
SetsFirst (Load size) = ⊤
SetsFirst (LoadSigned size) = ⊤
SetsFirst (Arithmetic Mov w Immediate) = ⊤
SetsFirst form = ⊥

-- the last unit is EXIT, each instruction is of a plain form (it uses R0 and the context only), and the first
-- instruction gives R0 a new value, whatever R0 held before
pub record ArePlainUnits (layout : Layout) (us : List ProgramUnit) : Type 0 where
  pub last : Inst
  pub last_is : slice_get us (length us - 1) ≡ Some (First last)
  pub exits : form_of last.opcode ≡ Some Exit
  pub each : (pc : ℕ) (i : Inst) (form : Form) → slice_get us pc ≡ Some (First i) → form_of i.opcode ≡ Some form → IsPlainForm layout i form
  pub sets : (i : Inst) (form : Form) → slice_get us 0 ≡ Some (First i) → form_of i.opcode ≡ Some form → SetsFirst form

-- the bytes can be decoded as units, no jump has a fault, and the units are plain: they work on R0 and the context
-- only, give R0 a value first, and end with EXIT
pub record IsPlain (p : ProgramText) : Type 0 where
  pub code : List ProgramUnit
  pub reads : units p.bytes ≡ Some code
  pub flows : flow_fault code ≡ None
  pub plain : ArePlainUnits p.layout code

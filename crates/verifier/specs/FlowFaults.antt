-- Promises: what is true of units whose jumps the flow check refuses.
use Rattle.std.specs.Prelude.{◌≡◌, ℕ, List, Some}
use Rattle.bpf_model.specs.declared.instruction.Unit.{Unit as ProgramUnit}
use Rattle.bpf_model.specs.declared.instruction.JumpFault.{JumpFault}
use Rattle.bpf_model.specs.declared.instruction.JumpFault.TheVariants.{Backward, Out, IntoWide}
use Rattle.bpf_model.specs.Flow.{flow_fault}
use Rattle.verifier.specs.declared.flow.FlowFault.{FlowFault}
use Rattle.verifier.specs.declared.flow.FlowFault.TheVariants.{BackwardJump, JumpOut, JumpIntoWide, OutOfMemory}

abbrev pub numbered : JumpFault → ℕ → FlowFault
numbered Backward pc = BackwardJump pc
numbered Out pc = JumpOut pc
numbered IntoWide pc = JumpIntoWide pc

-- the fault names the first unit whose jump is wrong, and what is wrong with the jump; it is never `OutOfMemory`
abbrev pub IsFirstFlowFault : List ProgramUnit → FlowFault → Type 0
IsFirstFlowFault us (BackwardJump pc) = flow_fault us ≡ Some (pc, Backward)
IsFirstFlowFault us (JumpOut pc) = flow_fault us ≡ Some (pc, Out)
IsFirstFlowFault us (JumpIntoWide pc) = flow_fault us ≡ Some (pc, IntoWide)
IsFirstFlowFault us OutOfMemory = ⊥

use Rattle.std.proofs.Common.{◌≡◌, None}
use Rattle.bpf_model.specs.Flow.{flow_fault_below}
use Rattle.verifier.proofs.flow.first_jump_fault.Given as goal

abbrev pub invariant-loop-pc : goal.invariant-loop-pc
invariant-loop-pc l = flow_fault_below l.units l.pc ≡ None

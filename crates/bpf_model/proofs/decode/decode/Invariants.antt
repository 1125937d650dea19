use Rattle.std.proofs.Common.{◌≡◌, None}
use Rattle.bpf_model.specs.Reading.{begins, units_below, fault_below}
use Rattle.bpf_model.proofs.decode.decode.Given as goal

abbrev pub invariant-loop-pc : goal.invariant-loop-pc
invariant-loop-pc l =
    record {
      units : l.units.items ≡ units_below l.bytes l.pc;
      sound : fault_below l.bytes l.pc ≡ None;
      place : l.first ≡ begins l.bytes l.pc;
    }

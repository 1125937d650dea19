use Rattle.std.proofs.Common.{◌≡◌, take}
use Rattle.bpf_model.specs.Encoded.{encoded}
use Rattle.bpf_model.proofs.decode.encode.Given as goal

abbrev pub invariant-loop-unit : goal.invariant-loop-unit
invariant-loop-unit l = l.bytes.items ≡ encoded (take l.unit-index l.units)

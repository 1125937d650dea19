use Rattle.std.proofs.Common.{take_all, arith, ap, ◌∙◌}
use Rattle.bpf_model.specs.Reading.{units}
use Rattle.bpf_model.specs.Encoded.{encoded}
use Rattle.bpf_model.proofs.Encoding.{encoded_step, read_back}
use Rattle.bpf_model.proofs.decode.encode.Goals as goal

pub loop-unit-preserved : goal.loop-unit-preserved
loop-unit-preserved c =
    encoded_step c.units-units.result.now c.loop-unit.unit-index _ c.loop-unit.bytes.items c.bytes_of.result c.extend_from_slice.new.self.items (omega arith)
    c.loop-unit.invariant c.bytes_of.ensures c.in_ok-extend_from_slice.ensures.items

pub returns-clause-read_back : goal.returns-clause-read_back
returns-clause-read_back c =
    let us = c.units-units.result.now in
    ap units (c.loop-unit.invariant ∙ ap encoded (take_all c.loop-unit.unit-index us (omega arith) ∙ c.units-units.ensures.same))
    ∙ read_back c.args.code.now c.units-units.ensures.program

use Rattle.bpf_model.proofs.Making.{program_of_units}
use Rattle.bpf_model.proofs.decode.Code.from_units.Goals as goal

pub invariant_of-result : goal.invariant_of-result
invariant_of-result c = program_of_units c.args.units.items c.requires.sound c.requires.some c.requires.few

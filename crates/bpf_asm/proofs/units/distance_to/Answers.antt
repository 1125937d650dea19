use Rattle.std.proofs.Common.{arith}
use Rattle.bpf_asm.proofs.units.distance_to.Goals as goal

pub apart-requires-clause-place : goal.apart-requires-clause-place
apart-requires-clause-place c = omega (arith, c.requires.places c.args.name.now, c.place_or_zero.ensures)

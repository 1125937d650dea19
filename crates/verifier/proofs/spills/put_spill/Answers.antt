use Rattle.std.proofs.Common.{arith}
use Rattle.verifier.proofs.Keeping.{none_put, more_put, all_put}
use Rattle.verifier.proofs.spills.put_spill.Goals as goal

pub loop-k-init : goal.loop-k-init
loop-k-init c = none_put c.args.spill c.args.at c.args.spills.now (omega arith)

pub loop-k-preserved : goal.loop-k-preserved
loop-k-preserved c = more_put c.args.spill c.args.at c.loop-k.k c.args.spills.now c.loop-k.spills (omega arith) (omega arith) c.loop-k.invariant

pub returns : goal.returns
returns c = all_put c.args.spill c.args.at c.args.len c.loop-k.k c.args.spills.now c.loop-k.spills (omega arith) (omega arith) (omega arith) c.loop-k.invariant

use Rattle.std.proofs.Common.{arith, ◌∙◌}
use Rattle.std.proofs.lemmas.List.{length-set}
use Rattle.verifier.proofs.Keeping.{spill_step, spill_rest, spills_joined}
use Rattle.verifier.proofs.spills.join_spills.Goals as goal

pub loop-k-preserved : goal.loop-k-preserved
loop-k-preserved c =
    let old = c.loop-k.invariant in
    record {
      many = length-set c.loop-k.spills c.loop-k.k c.common_spill.result ∙ old.many;
      joined = spill_step c.loop-k.spills c.args.spills.now c.args.others.now c.loop-k.k c.common_spill.result (omega arith) c.common_spill.ensures
          (old.rest c.loop-k.k (omega arith)) old.joined;
      rest = spill_rest c.loop-k.spills c.args.spills.now c.loop-k.k c.common_spill.result old.rest;
    }

pub returns : goal.returns
returns c = spills_joined c.args.spills.now c.args.others.now c.loop-k.spills c.loop-k.k (omega arith) (omega arith) (omega arith) (omega arith)
    c.loop-k.invariant.joined

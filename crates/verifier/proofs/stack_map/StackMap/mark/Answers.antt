use Rattle.std.proofs.Common.{◌<◌, ◌^◌, arith, rules}
use Rattle.verifier.proofs.Marking.{words_or, taken_none, taken_more, taken_all}
use Rattle.verifier.proofs.stack_map.StackMap.mark.Goals as goal

pub loop-k-init : goal.loop-k-init
loop-k-init c = record { words = c.self.invariant; taken = taken_none c.self.inside.words c.args.self.now c.args.at c.args.len c.self.view_is }

pub loop-k-preserved : goal.loop-k-preserved
loop-k-preserved c =
    let small : c.mask_of.result < 2 ^ 64 = search rules in
    let many = c.loop-k.invariant.words.many in
    record {
      words = words_or c.loop-k.self-inside.words c.loop-k.k c.mask_of.result small c.loop-k.invariant.words;
      taken = taken_more c.loop-k.self-inside.words c.args.self.now c.args.at c.args.len c.loop-k.k c.mask_of.result (omega (arith, many)) c.mask_of.ensures
          c.loop-k.invariant.taken;
    }

pub returns : goal.returns
returns c = taken_all c.loop-k.self-inside.words c.args.self.now c.args.at c.args.len c.loop-k.k (omega arith) c.loop-k.invariant.taken

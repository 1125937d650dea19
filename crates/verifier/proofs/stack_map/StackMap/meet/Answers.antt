use Rattle.std.proofs.Common.{arith}
use Rattle.verifier.proofs.Marking.{words_and, met_none, met_more, met_all}
use Rattle.verifier.proofs.stack_map.StackMap.meet.Goals as goal

pub loop-k-init : goal.loop-k-init
loop-k-init c = record { words = c.self.invariant; met = met_none c.self.inside.words c.args.self.now c.other.inside.words c.self.view_is }

pub loop-k-preserved : goal.loop-k-preserved
loop-k-preserved c =
    let many = c.loop-k.invariant.words.many in
    record {
      words = words_and c.loop-k.self-inside.words c.loop-k.k _ c.loop-k.invariant.words;
      met = met_more c.loop-k.self-inside.words c.args.self.now c.other.inside.words c.loop-k.k (omega (arith, many)) c.loop-k.invariant.met;
    }

pub returns : goal.returns
returns c = met_all c.loop-k.self-inside.words c.args.self.now c.args.other.now c.other.inside.words c.loop-k.k c.loop-k.invariant.words.many (omega arith)
    c.other.view_is c.loop-k.invariant.met

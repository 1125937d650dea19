use Rattle.till_request.proofs.Counts.{rose_more}
use Rattle.till_request.proofs.Out.{written_more, within_more}
use Rattle.till_request.proofs.write.write_all.Goals as goal

pub loop-at-preserved : goal.loop-at-preserved
loop-at-preserved g c = record {
  out = written_more _ _ _ c.args.bytes.now c.loop-at.at c.in_ok-at.field-0 c.loop-at.invariant.out c.in_ok-at.ensures.bytes;
  within = within_more c.args.bytes.now c.loop-at.at c.in_ok-at.field-0 c.loop-at.invariant.within c.in_ok-at.ensures.bound;
  failed = rose_more c.loop-at.invariant.failed c.in_ok-at.ensures.failed;
}

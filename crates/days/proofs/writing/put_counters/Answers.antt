use Rattle.std.proofs.Common.{arith}
use Rattle.days.specs.Text.{counter_lines}
use Rattle.days.proofs.Written.{adds_next}
use Rattle.days.proofs.writing.put_counters.Goals as goal

pub loop-counter-preserved : goal.loop-counter-preserved
loop-counter-preserved c =
    adds_next counter_lines 0 c.args.counters.now c.loop-counter.counter c.loop-counter.counter (0, 0) (c.get-value.result, c.bound-bound.result) _ _ _
    (omega (arith, c.loop-counter-test.true, c.get-first.ensures.right.many)) (omega arith) (λ i. (c.get-value.ensures.value i, c.bound-bound.ensures i)) c.loop-counter.invariant
    c.in_ok-put_counter.ensures.lines

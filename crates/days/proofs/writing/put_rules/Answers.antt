use Rattle.std.proofs.Common.{arith}
use Rattle.days.specs.Text.{version_lines}
use Rattle.days.proofs.Written.{adds_next}
use Rattle.days.proofs.writing.put_rules.Goals as goal

pub loop-slot-preserved : goal.loop-slot-preserved
loop-slot-preserved c =
    adds_next version_lines 0 c.args.rules.now _ _ _ _ _ _ _ c.loop-slot-test.true (omega arith) c.index-rules-slot.is c.loop-slot.invariant
    c.in_ok-put_rule.ensures.lines

use Rattle.what_if.specs.Text.{day_text}
use Rattle.what_if.proofs.OneMore.{one-more-item}
use Rattle.what_if.proofs.writing.write_each_day.Goals as goal

pub loop-day-preserved : goal.loop-day-preserved
loop-day-preserved g c =
    one-more-item (day_text c.args.format) c.args.days.now c.loop-day.day-index c.day-item.result _ _ _ c.loop-day-test.true c.day-item.is
    c.loop-day.invariant c.in_ok-write_day.ensures

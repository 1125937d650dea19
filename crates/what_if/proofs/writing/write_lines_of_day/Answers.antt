use Rattle.what_if.specs.Text.{day_line_text}
use Rattle.what_if.proofs.OneMore.{one-more}
use Rattle.what_if.proofs.writing.write_lines_of_day.Goals as goal

pub loop-row-preserved : goal.loop-row-preserved
loop-row-preserved g c =
    one-more (day_line_text c.args.format c.args.day) c.args.rows.now c.loop-row.row-index _ _ _ _ c.loop-row-test.true c.loop-row.invariant
    c.in_ok-write_line_of_day.ensures

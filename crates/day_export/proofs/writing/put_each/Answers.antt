use Rattle.std.proofs.Common.{rules}
use Rattle.day_export.specs.Text.{row_bytes}
use Rattle.day_export.proofs.Appending.{more}
use Rattle.day_export.proofs.writing.put_each.Goals as goal

pub loop-row-preserved : goal.loop-row-preserved
loop-row-preserved g c = (
  search rules,
  search rules,
  c.in_ok-write_row.ensures.ready,
  more (row_bytes c.args.rows g.T.RowWriter.format) c.loop-row.yielded c.in-Some.row _ _ _ c.loop-row.invariant.3 c.in_ok-write_row.ensures.text,
)

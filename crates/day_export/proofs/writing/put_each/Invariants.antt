use Rattle.std.proofs.Common.{map}
use Rattle.std.specs.List.{concat}
use Rattle.std.specs.Io.KnownBytes.{Appends}
use Rattle.day_export.specs.Text.{row_bytes}
use Rattle.day_export.proofs.writing.put_each.Given as goal

abbrev pub invariant-loop-row : goal.invariant-loop-row
invariant-loop-row g l = (goal.iterator-loop-row g).can_next l.row-iterator × (goal.iterator-loop-row g).is_finite l.row-iterator
    × g.T.RowWriter.is_ready l.to
    × Appends (g.T.RowWriter.written_bytes l.initial.to) (g.T.RowWriter.written_bytes l.to) (concat (map (row_bytes l.rows g.T.RowWriter.format) l.yielded))

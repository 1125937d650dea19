use Rattle.std.proofs.Common.{string_bytes}
use Rattle.days.specs.Text.{point_lines}
use Rattle.days.proofs.Written.{LacksFrom}
use Rattle.days.proofs.writing.put_points.Given as goal

abbrev pub invariant-loop-at : goal.invariant-loop-at
invariant-loop-at l = LacksFrom point_lines 1 l.points l.at (string_bytes l.initial.text) (string_bytes l.text)

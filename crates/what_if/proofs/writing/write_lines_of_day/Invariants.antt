use Rattle.std.proofs.Common.{map, take}
use Rattle.std.specs.List.{concat}
use Rattle.std.specs.Io.KnownBytes.{Appends}
use Rattle.what_if.specs.Text.{day_line_text}
use Rattle.what_if.proofs.writing.write_lines_of_day.Given as goal

abbrev pub invariant-loop-row : goal.invariant-loop-row
invariant-loop-row g l =
    Appends (g.W.Write.contents l.initial.out) (g.W.Write.contents l.out) (concat (map (day_line_text l.format l.day) (take l.row-index l.rows)))

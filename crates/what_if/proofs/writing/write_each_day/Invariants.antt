use Rattle.std.proofs.Common.{map, take}
use Rattle.std.specs.List.{concat}
use Rattle.std.specs.Io.KnownBytes.{Appends}
use Rattle.what_if.specs.Text.{day_text}
use Rattle.what_if.proofs.writing.write_each_day.Given as goal

abbrev pub invariant-loop-day : goal.invariant-loop-day
invariant-loop-day g l =
    Appends (g.W.Write.contents l.initial.out) (g.W.Write.contents l.out) (concat (map (day_text l.format) (take l.day-index l.days)))

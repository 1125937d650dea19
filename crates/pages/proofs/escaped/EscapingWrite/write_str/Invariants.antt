use Rattle.std.proofs.Common.{◌≡◌}
use Rattle.std.specs.List.{flat_map}
use Rattle.std.specs.Fmt.{HasWritten, IsPlainFormatter}
use Rattle.pages.specs.Printing.{printable_char}
use Rattle.pages.proofs.escaped.EscapingWrite.write_str.Given as goal

-- The characters so far are written to the formatter, each one as it is printed.
abbrev pub invariant-loop-c : goal.invariant-loop-c
invariant-loop-c g l =
    (l.self.0.ghost_name ≡ l.initial.self.0.ghost_name)
    × (IsPlainFormatter l.initial.self.0.now → HasWritten g.W.Write.write_str_gives l.initial.self.0.now (flat_map printable_char l.yielded) l.self.0.now)

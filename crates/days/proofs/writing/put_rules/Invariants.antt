use Rattle.std.proofs.Common.{string_bytes}
use Rattle.days.specs.Text.{version_lines}
use Rattle.days.proofs.Written.{LacksFrom}
use Rattle.days.proofs.writing.put_rules.Given as goal

abbrev pub invariant-loop-slot : goal.invariant-loop-slot
invariant-loop-slot l = LacksFrom version_lines 0 l.rules l.slot (string_bytes l.initial.text) (string_bytes l.text)

use Rattle.std.proofs.Common.{string_bytes}
use Rattle.days.specs.Text.{counter_lines}
use Rattle.days.proofs.Written.{LacksFrom}
use Rattle.days.proofs.writing.put_counters.Given as goal

abbrev pub invariant-loop-counter : goal.invariant-loop-counter
invariant-loop-counter l = LacksFrom counter_lines 0 l.counters l.counter (string_bytes l.initial.text) (string_bytes l.text)

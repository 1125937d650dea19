use Rattle.std.proofs.Common.{string_bytes}
use Rattle.days.specs.Text.{price_lines}
use Rattle.days.proofs.Written.{LacksFrom}
use Rattle.days.proofs.writing.put_prices.Given as goal

abbrev pub invariant-loop-at : goal.invariant-loop-at
invariant-loop-at l = LacksFrom price_lines 1 l.prices l.at (string_bytes l.initial.text) (string_bytes l.text)

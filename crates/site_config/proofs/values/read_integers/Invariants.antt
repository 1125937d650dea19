use Rattle.std.proofs.Common.{◌≡◌, ◌≤◌, drop, length}
use Rattle.toml.specs.View.{items_view}
use Rattle.site_config.specs.Document.{with_front}
use Rattle.site_config.specs.Typed.{each_in, integer_in}
use Rattle.site_config.specs.Memory.{KeepsFirst, TakesNone}
use Rattle.site_config.proofs.values.read_integers.Given as goal

-- Reading the rest of the list and appending it to the items so far gives the same as reading the whole list.
abbrev pub invariant-loop-value : goal.invariant-loop-value
invariant-loop-value l = record {
  read : with_front l.numbers.items (each_in (integer_in l.section l.key) l.value-index (items_view (drop l.value-index l.values)))
      ≡ each_in (integer_in l.section l.key) 0 (items_view l.values);
  each : length l.numbers.items ≡ l.value-index;
  begun : 1 ≤ l.value-index → KeepsFirst (integer_in l.section l.key) TakesNone (items_view l.values);
}

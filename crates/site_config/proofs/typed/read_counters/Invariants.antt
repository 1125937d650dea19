use Rattle.std.proofs.Common.{◌≡◌, ◌≤◌, drop, length}
use Rattle.toml.specs.View.{items_view}
use Rattle.site_config.specs.Document.{with_front}
use Rattle.site_config.specs.Typed.{each_in, counter_in}
use Rattle.site_config.specs.Memory.{KeepsFirst, TakesCounter}
use Rattle.site_config.proofs.typed.read_counters.Given as goal

-- Reading the rest of the list and appending it to the items so far gives the same as reading the whole list.
abbrev pub invariant-loop-value : goal.invariant-loop-value
invariant-loop-value l = record {
  read : with_front l.pairs.items (each_in counter_in l.value-index (items_view (drop l.value-index l.values))) ≡ each_in counter_in 0 (items_view l.values);
  each : length l.pairs.items ≡ l.value-index;
  begun : 1 ≤ l.value-index → KeepsFirst counter_in TakesCounter (items_view l.values);
}

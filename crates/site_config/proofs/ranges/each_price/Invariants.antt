use Rattle.std.proofs.Common.{◌≡◌, ◌≤◌, drop, length, All}
use Rattle.site_config.specs.Document.{each_of, with_front}
use Rattle.site_config.specs.Ranges.{price_of}
use Rattle.site_config.specs.Memory.{MakesFirst}
use Rattle.site_config.proofs.ranges.each_price.Given as goal

abbrev pub invariant-loop-value : goal.invariant-loop-value
invariant-loop-value l = record {
  read : with_front l.prices.items (each_of price_of l.value-index (drop l.value-index l.values)) ≡ each_of price_of 0 l.values;
  each : length l.prices.items ≡ l.value-index;
  begun : 1 ≤ l.value-index → MakesFirst (price_of 0) l.values;
  range : All (λ price. price ≤ 9999999) l.prices.items;
}

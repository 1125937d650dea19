use Rattle.std.proofs.Common.{◌≡◌, ◌≤◌, drop, length, All}
use Rattle.site_core.specs.Limits.{IsCounter}
use Rattle.site_config.specs.Document.{each_of, with_front}
use Rattle.site_config.specs.Ranges.{counter_of}
use Rattle.site_config.specs.Memory.{MakesFirst}
use Rattle.site_config.proofs.ranges.each_counter.Given as goal

abbrev pub invariant-loop-pair : goal.invariant-loop-pair
invariant-loop-pair l = record {
  read : with_front l.counters.items (each_of counter_of l.pair-index (drop l.pair-index l.pairs)) ≡ each_of counter_of 0 l.pairs;
  each : length l.counters.items ≡ l.pair-index;
  begun : 1 ≤ l.pair-index → MakesFirst (counter_of 0) l.pairs;
  range : All IsCounter l.counters.items;
}

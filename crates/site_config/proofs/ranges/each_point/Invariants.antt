use Rattle.std.proofs.Common.{◌≡◌, ◌≤◌, drop, length, All}
use Rattle.site_config.specs.Document.{each_of, with_front}
use Rattle.site_config.specs.Ranges.{point_of}
use Rattle.site_config.specs.Memory.{MakesFirst}
use Rattle.site_config.proofs.ranges.each_point.Given as goal

abbrev pub invariant-loop-pair : goal.invariant-loop-pair
invariant-loop-pair l = record {
  read : with_front l.points.items (each_of point_of l.pair-index (drop l.pair-index l.pairs)) ≡ each_of point_of 0 l.pairs;
  each : length l.points.items ≡ l.pair-index;
  begun : 1 ≤ l.pair-index → MakesFirst (point_of 0) l.pairs;
  range : All (λ p. (p.0 ≤ 15) × (p.1 ≤ 15)) l.points.items;
}

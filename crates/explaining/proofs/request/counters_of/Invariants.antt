use Rattle.std.proofs.Common.{◌≡◌, ◌≤◌, All, drop, fold}
use Rattle.explaining.specs.Described.{counters_of, with_counter}
use Rattle.explaining.proofs.request.counters_of.Given as goal

abbrev pub invariant-loop-setting : goal.invariant-loop-setting
invariant-loop-setting l = record {
  left : fold with_counter l.cells (drop l.setting-index l.settings) ≡ counters_of l.settings;
  most : All (λ c. c.0 ≤ c.1) l.cells;
}

use Rattle.std.proofs.Common.{◌≡◌, drop, fold}
use Rattle.explaining.specs.Described.{prices_from, with_price}
use Rattle.explaining.proofs.request.prices_from.Given as goal

abbrev pub invariant-loop-setting : goal.invariant-loop-setting
invariant-loop-setting l = fold with_price l.prices (drop l.setting-index l.settings) ≡ prices_from l.fn.before l.settings

use Rattle.std.proofs.Common.{◌≡◌, drop, fold}
use Rattle.explaining.specs.Described.{given_by, with_given}
use Rattle.explaining.proofs.request.given_by.Given as goal

abbrev pub invariant-loop-setting : goal.invariant-loop-setting
invariant-loop-setting l = fold with_given l.given (drop l.setting-index l.settings) ≡ given_by l.settings

-- Definitions: a number that must be in a range. If it is out of its range, the flaw is `OutOfRange`, and its fault is
-- K3.
use Rattle.std.specs.Prelude.{◌&&◌, nat_le, ℕ, ℤ, pos, negsuc, Result, Ok, Err, if◌then◌else◌}
use Rattle.site_config.specs.declared.flaw.Place.{Place}
use Rattle.site_config.specs.declared.flaw.ConfigFlaw.{ConfigFlaw}
use Rattle.site_config.specs.declared.flaw.ConfigFlaw.TheVariants.{OutOfRange}

-- The number that the configuration has at this place, if it is from `low` to `high`, or else the flaw `OutOfRange`.
abbrev pub ranged : Place → ℕ → ℕ → ℤ → Result ℕ ConfigFlaw
ranged place low high (pos n) = if nat_le low n && nat_le n high then Ok n else Err (OutOfRange place (pos n) low high)
ranged place low high (negsuc n) = Err (OutOfRange place (negsuc n) low high)

use Rattle.std.proofs.Common.{◌≡◌, drop, false}
use Rattle.site_config.specs.DayEnds.{are_zone_parts}
use Rattle.site_config.proofs.day_ends.are_zone_parts.Given as goal

-- The rest of the bytes goes on the parts so far exactly if all bytes are parts.
abbrev pub invariant-loop-byte : goal.invariant-loop-byte
invariant-loop-byte l = are_zone_parts l.has_begun (drop l.byte-index l.bytes) ≡ are_zone_parts false l.bytes

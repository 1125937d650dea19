-- Definitions: the time of the day at which a served day ends, and the zone in which it is that time, as a configuration
-- has them (sources: hours and minutes as ISO 8601 writes them; the names of the Time Zone Database).
use Rattle.std.specs.Prelude.{ℕ, ◌/◌, ◌%◌, ◌==◌, ◌&&◌, ◌||◌, nat_le, List, [], ◌∷◌, ◌++◌, length, codes, Bool, true, false}
use Rattle.std.specs.Prelude.{Option, Some, None, Result, Ok, Err, if◌then◌else◌}
use Rattle.std.specs.Char.{is_ascii_alphanumeric}
use Rattle.std.specs.List.{find, range_with_len}
use Rattle.std.specs.Str.{bytes_eq}
use Rattle.till_request.specs.Dates.{two_digits}
use Rattle.site_config.specs.declared.flaw.ConfigFlaw.{ConfigFlaw}
use Rattle.site_config.specs.declared.flaw.ConfigFlaw.TheVariants.{NotTimeOfDay, NotZoneName}
use Rattle.site_config.specs.declared.flaw.Key.TheVariants as key
use Rattle.site_config.specs.declared.flaw.Section.TheVariants.{Serve}
use Rattle.site_config.specs.declared.flaw.Place.TheVariants.{At}

-- The time of the day when so many minutes of it are over, as in 04:00.
abbrev pub time_text : ℕ → List ℕ
time_text minute = two_digits (minute / 60) ++ codes ":" ++ two_digits (minute % 60)

-- The minute of the day, from 0 to 1439, whose time the text is. None if the text is no time from 00:00 to 23:59.
unfoldable pub minute_of : List ℕ → Option ℕ
minute_of text = find (λ minute. bytes_eq (time_text minute) text) (range_with_len 0 1440)

-- The minute at which a day ends, or None if the key is left out. The argument is None if it is, and otherwise the
-- minute of its value, which must be a time.
abbrev pub day_ends_of : Option (Option ℕ) → Result (Option ℕ) ConfigFlaw
day_ends_of None = Ok None
day_ends_of (Some None) = Err (NotTimeOfDay (At Serve key.DayEnds))
day_ends_of (Some (Some minute)) = Ok (Some minute)

-- An ASCII letter or digit, "+" (43), "-" (45) or "_" (95).
abbrev pub is_zone_byte : ℕ → Bool
is_zone_byte byte = is_ascii_alphanumeric byte || (byte == 43 || (byte == 45 || byte == 95))

-- The bytes are parts with "/" (47) between them, each of at least one byte of a zone. The first argument says whether
-- the first part has a byte before these already.
abbrev pub are_zone_parts : Bool → List ℕ → Bool
are_zone_parts has_begun [] = has_begun
are_zone_parts has_begun (byte ∷ bytes) =
    if byte == 47 then has_begun && are_zone_parts false bytes else is_zone_byte byte && are_zone_parts true bytes

-- The text can be the name of a zone, as "Europe/Berlin". It names a file, so it has no "." and no empty part.
abbrev pub is_zone_name : List ℕ → Bool
is_zone_name text = nat_le (length text) 64 && are_zone_parts false text

-- The name of a zone that the text is, if it can be one.
abbrev pub zone_in : List ℕ → Option (List ℕ)
zone_in text = if is_zone_name text then Some text else None

-- The zone in which a day ends at its time, or None if the key is left out. The argument is None if it is, and otherwise
-- what its value names, which must be the name of a zone.
abbrev pub zone_of : Option (Option (List ℕ)) → Result (Option (List ℕ)) ConfigFlaw
zone_of None = Ok None
zone_of (Some None) = Err (NotZoneName (At Serve key.Zone))
zone_of (Some (Some name)) = Ok (Some name)

-- What a clock shows, and when, stays within what the library of dates has.
use Rattle.std.proofs.Common.{◌≡◌, ◌<◌, ◌*◌, ◌+ℤ◌, ◌-ℤ◌, ◌*ℤ◌, ℕ, ℤ, pos, arith}
use Rattle.jiff_core.proofs.SignedLemmas.{signed_arith, int_div_euclid-parts}
use Rattle.std.specs.Int.{int_div_euclid}
use Rattle.jiff_core.specs.DateTime.{IsCivilNanos}
use Rattle.jiff_core.specs.Timestamp.{IsTimestampNanos, IsOffsetSeconds, nanos_of_seconds}
use Rattle.zones.specs.Ends.{IsMoment, IsDate, IsShown}

pub instant_in : (n o : ℤ) → IsShown n → IsOffsetSeconds o → IsTimestampNanos (n -ℤ nanos_of_seconds o)
instant_in n o h i = (omega (arith, signed_arith), omega (arith, signed_arith))

pub civil_in : (n : ℤ) → IsShown n → IsCivilNanos n
civil_in n h = (omega (arith, signed_arith), omega (arith, signed_arith))

pub second_in : (minute : ℕ) (date : ℤ) → minute < 1440 → IsDate date → IsShown (nanos_of_seconds (date *ℤ pos 86400 +ℤ pos (60 * minute)))
second_in minute date l h = (omega (arith, signed_arith), omega (arith, signed_arith))

pub moment_in : (moment : ℤ) → IsMoment moment → IsTimestampNanos (nanos_of_seconds moment)
moment_in moment h = (omega (arith, signed_arith), omega (arith, signed_arith))

-- the date that a clock shows, and the one two days later
pub date_in : (moment o : ℤ) → IsMoment moment → IsOffsetSeconds o
    → IsDate (int_div_euclid (moment +ℤ o) (pos 86400)) × IsDate (int_div_euclid (moment +ℤ o) (pos 86400) +ℤ pos 2)
date_in moment o h i =
    let parts = int_div_euclid-parts (moment +ℤ o) 86400 (omega arith) in
    ((omega (arith, signed_arith, parts), omega (arith, signed_arith, parts)), (omega (arith, signed_arith, parts), omega (arith, signed_arith, parts)))

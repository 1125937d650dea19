-- Definitions: when it is a minute of the day in a time zone (sources: RFC 9636 for what a zone's clock shows; this
-- project for a time that comes twice or never). An instant is a number of seconds, or of nanoseconds, since the start
-- of 1970.
use Rattle.std.specs.Prelude.{◌≡◌, ◌*◌, ℕ, ℤ, pos, neg_ℤ, ◌+ℤ◌, ◌*ℤ◌, int_lt, Option, Some, None, option_map, if◌then◌else◌}
use Rattle.std.specs.Option.{option_or}
use Rattle.std.specs.Int.{int_div_euclid}
use Rattle.jiff_core.specs.Calendar.{IsBetween}
use Rattle.jiff_core.specs.DateTime.{civil_nanos}
use Rattle.jiff_core.specs.Timestamp.{nanos_of_seconds}
use Rattle.jiff_core.specs.declared.civil.datetime.DateTime.{DateTime}
use Rattle.jiff_tz.specs.Ambiguous.{instant_of}
use Rattle.jiff_tz.specs.Zone.{offset_at, ambiguous_at, next_at}
use Rattle.jiff_tz.specs.declared.ambiguous.AmbiguousOffset.{AmbiguousOffset}
use Rattle.jiff_tz.specs.declared.ambiguous.AmbiguousOffset.TheVariants.{Unambiguous, Gap, Fold}
use Rattle.jiff_tz.specs.declared.timezone.TimeZone.{TimeZone}
use Rattle.jiff_tz.specs.declared.timezone.TimeZone.TheVariants.{UTC, Tzif}
use Rattle.jiff_tz.specs.declared.tzif.Tzif.{Tzif as Table}

-- the second in which this nanosecond is
abbrev pub second_of : ℤ → ℤ
second_of nanos = int_div_euclid nanos (pos 1_000_000_000)

-- The instant, in nanoseconds, at which a zone's clock first shows this date and time, or a later one: of a time that
-- comes twice the first, and of a time that the clock jumps over the jump, which is the first change of the clock behind
-- the instant at which the time would be if the clock had been changed already.
abbrev pub reached_by : TimeZone → DateTime → AmbiguousOffset → Option ℤ
reached_by zone shown (Unambiguous offset) = Some (instant_of shown offset)
reached_by zone shown (Fold before after) = Some (instant_of shown before)
reached_by zone shown (Gap before after) = option_map (λ change. change.0) (next_at zone (instant_of shown after))

-- the same, in seconds
abbrev pub reached : TimeZone → DateTime → Option ℤ
reached zone shown = option_map second_of (reached_by zone shown (ambiguous_at zone shown))

-- the date that a zone's clock shows at a second, in days since the start of 1970
abbrev pub date_at : TimeZone → ℤ → ℤ
date_at zone second = int_div_euclid (second +ℤ offset_at zone (nanos_of_seconds second)) (pos 86400)

-- This is when it is this minute of this date in the zone.
abbrev pub IsEndOn : TimeZone → ℕ → ℤ → Option ℤ → Type 0
IsEndOn zone minute date end =
    (shown : DateTime) × (civil_nanos shown ≡ nanos_of_seconds (date *ℤ pos 86400 +ℤ pos (60 * minute))) × (end ≡ reached zone shown)

-- These numbers are as far as the year 9999 goes here: the seconds that a moment may have, the dates, and the nanoseconds
-- that a clock may show.
abbrev pub IsMoment : ℤ → Type 0
IsMoment second = IsBetween (pos 0) (pos 253_400_000_000) second

abbrev pub IsDate : ℤ → Type 0
IsDate date = IsBetween (neg_ℤ (pos 2)) (pos 2_932_890) date

abbrev pub IsShown : ℤ → Type 0
IsShown nanos = IsBetween (neg_ℤ (pos 172_800_000_000_000)) (pos 253_402_000_000_000_000_000) nanos

-- The zone has these rules, which a file of it gives, and is UTC without.
abbrev pub HasRules : Option Table → TimeZone → Type 0
HasRules None zone = zone ≡ UTC
HasRules (Some table) (Tzif held) = held.now ≡ table
HasRules (Some table) zone = ⊥

-- the second, if it is behind the moment
abbrev pub behind : ℤ → Option ℤ → Option ℤ
behind moment None = None
behind moment (Some end) = if int_lt moment end then Some end else None

-- When a day ends that has this moment: it is the minute of the day for the first time behind the moment. Of the date
-- then, or of the next one, or of the one after it: of the next one it may be over already, where the clock was put back
-- over midnight.
pub record IsNextEnd (zone : TimeZone) (minute : ℕ) (moment : ℤ) (result : Option ℤ) : Type 0 where
  pub today : Option ℤ
  pub ends_today : IsEndOn zone minute (date_at zone moment) today
  pub next : Option ℤ
  pub ends_next : IsEndOn zone minute (date_at zone moment +ℤ pos 1) next
  pub later : Option ℤ
  pub ends_later : IsEndOn zone minute (date_at zone moment +ℤ pos 2) later
  pub first : result ≡ option_or (option_or (behind moment today) (behind moment next)) (behind moment later)

-- The same, of moments up to the year 9999; of any other, no day ends.
pub record NextEnd (zone : TimeZone) (minute : ℕ) (moment : ℤ) (result : Option ℤ) : Type 0 where
  pub within : IsMoment moment → IsNextEnd zone minute moment result
  pub outside : (IsMoment moment → ⊥) → result ≡ None

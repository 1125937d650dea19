-- Definitions: how many lines of a door are read in a second (source: this project). All connections of a door have one
-- bucket of credit for lines. It fills up at the door's bound, and holds at most the lines of one second. Time is counted
-- in microseconds, and credit in millionths of a line, so in a microsecond a bucket gains as much credit as the bound is.
use Rattle.std.specs.Prelude.{ℕ, ◌+◌, ◌-◌, ◌*◌, ◌/◌, min, max, nat_le, Bool, if◌then◌else◌, List, [], ◌∷◌}
use Rattle.site_server.specs.declared.pace.Bucket.{Bucket}
use Rattle.site_server.specs.declared.pace.Turn.{Turn}
use Rattle.site_server.specs.declared.pace.Turn.TheVariants.{Now, Later}

-- the credit of a full bucket, if `bound` lines a second are allowed
abbrev pub full_credit : ℕ → ℕ
full_credit bound = bound * 1000000

-- the credit at the moment `now`; a clock that goes back counts as standing still
abbrev pub refilled : ℕ → ℕ → Bucket → ℕ
refilled bound now bucket = min (full_credit bound) (bucket.credit + (now - bucket.at) * bound)

-- there is credit for a whole line
abbrev pub is_allowed : ℕ → ℕ → Bucket → Bool
is_allowed bound now bucket = nat_le 1000000 (refilled bound now bucket)

-- the microseconds until there is credit for a whole line, rounded up
abbrev pub pause_until_line : ℕ → ℕ → Bucket → ℕ
pause_until_line bound now bucket = (1000000 - refilled bound now bucket + (bound - 1)) / bound

-- a line may be read now, or only later
abbrev pub turn_at : ℕ → ℕ → Bucket → Turn
turn_at bound now bucket = if is_allowed bound now bucket then Now else Later (pause_until_line bound now bucket)

-- a line that is read takes its credit, one that has to wait changes nothing
abbrev pub bucket_after : ℕ → ℕ → Bucket → Bucket
bucket_after bound now bucket =
    if is_allowed bound now bucket then record { at = max now bucket.at; credit = refilled bound now bucket - 1000000 } else bucket

-- how many lines were read, if a line was asked for at each of these moments
abbrev pub lines_read : ℕ → List ℕ → Bucket → ℕ
lines_read bound [] bucket = 0
lines_read bound (now ∷ later) bucket = (if is_allowed bound now bucket then 1 else 0) + lines_read bound later (bucket_after bound now bucket)

-- the bucket after a line was asked for at each of these moments
abbrev pub bucket_at_end : ℕ → List ℕ → Bucket → Bucket
bucket_at_end bound [] bucket = bucket
bucket_at_end bound (now ∷ later) bucket = bucket_at_end bound later (bucket_after bound now bucket)

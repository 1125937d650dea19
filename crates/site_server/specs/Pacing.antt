-- Promises: what a bound of lines in a second comes to.
use Rattle.std.specs.Prelude.{◌≡◌, ℕ, ◌+◌, ◌-◌, ◌*◌, ◌<◌, ◌≤◌, true, false, List}
use Rattle.site_server.specs.declared.pace.Bucket.{Bucket}
use Rattle.site_server.specs.Pace.{bucket_at_end, full_credit, is_allowed, lines_read, pause_until_line}

-- Lines were asked for at these moments. Those that were read, and what credit is left, took no more credit than there
-- was at first and than came in since then. So in so many microseconds at most `bound` lines a second were read, and
-- those of one second more.
pub record IsBounded (bound : ℕ) (moments : List ℕ) (bucket : Bucket) : Type 0 where
  pub forwards : bucket.at ≤ (bucket_at_end bound moments bucket).at
  pub credit : lines_read bound moments bucket * 1000000 + (bucket_at_end bound moments bucket).credit
      ≤ bucket.credit + ((bucket_at_end bound moments bucket).at - bucket.at) * bound
  pub lines : bucket.credit ≤ full_credit bound
      → lines_read bound moments bucket * 1000000 ≤ bound * (1000000 + ((bucket_at_end bound moments bucket).at - bucket.at))

-- A line that has to wait is allowed after its pause, if no other line is read meanwhile. So a door isn't read slower than
-- its bound allows.
abbrev pub IsPrompt : ℕ → ℕ → Bucket → Type 0
IsPrompt bound now bucket =
    0 < bound → bucket.at ≤ now → is_allowed bound now bucket ≡ false → is_allowed bound (now + pause_until_line bound now bucket) bucket ≡ true

-- Promises: what the port shows of a site, and which lines of its journal.
use Rattle.std.specs.Prelude.{◌≡◌, ◌⊎◌, ◌≤◌, ◌<◌, ◌+◌, ◌*◌, ◌==◌, ℕ, zero, suc, List, [], ◌++◌, length, take, drop, min, true, if◌then◌else◌}
use Rattle.decision_journal.specs.Text.{journal_text}
use Rattle.site_lock.specs.Looks.{CanBeUnderLock}
use Rattle.site_lock.specs.LockedSites.{LockedSiteValue}
use Rattle.site_lock.specs.Passes.{Opened}
use Rattle.site_lock.specs.declared.look.Look.{Look}
use Rattle.pages.specs.declared.station.DoorCounts.{DoorCounts}
use Rattle.pages.specs.declared.station.RoleCounts.{RoleCounts}
use Rattle.pages.specs.declared.station.StationSnapshot.{StationSnapshot}

-- What is shown is what the look saw, and these counts. A journal that the look saw failed is shown as failed.
pub record ShowsLook (look : Look) (of_roles : List RoleCounts) (of_doors : List DoorCounts) (shown : StationSnapshot) : Type 0 where
  pub entries : shown.entries ≡ look.entries
  pub next_opening : shown.next_opening.now ≡ look.next_opening
  pub failed : look.has_failed ≡ true → shown.has_failed ≡ true
  pub tally : shown.tally.now ≡ look.tally
  pub sums : shown.sums.now ≡ look.sums
  pub last : shown.last.now ≡ look.last.items
  pub role_counts : shown.role_counts.now ≡ of_roles
  pub doors : shown.doors.now ≡ of_doors

-- Batch `batch` of an answer, counted from 0, has the entries behind this many.
abbrev pub first_behind : ℕ → ℕ → ℕ
first_behind after batch = min (after + batch * 32) 4294967295

-- the most entries of a batch: 32, but 8 in the last of 32 batches, so that they have at most 1,000 together
abbrev pub most_in : ℕ → ℕ
most_in batch = if batch == 31 then 8 else 32

-- The text `new` is `old` and then the lines of the entries behind the first `from`, at most `most` of them, of what
-- the lock protected at one moment, when there were `entries` entries.
abbrev pub AddsLines : Opened → Type 0 → ℕ → ℕ → List ℕ → List ℕ → ℕ → Type 0
AddsLines f may_fail from most old new entries =
    (held : LockedSiteValue) × CanBeUnderLock f may_fail held × (entries ≡ length held.site.history)
    × (new ≡ old ++ journal_text (take most (drop from held.site.history)))

-- The text is that of the first `count` batches behind entry `after`. Each had all its entries, and more followed.
abbrev pub AreWhole : Opened → Type 0 → ℕ → ℕ → List ℕ → Type 0
AreWhole f may_fail after zero text = text ≡ []
AreWhole f may_fail after (suc batch) text =
    (front : List ℕ) × (entries : ℕ) × AreWhole f may_fail after batch front
    × AddsLines f may_fail (first_behind after batch) (most_in batch) front text entries
    × (min (first_behind after batch + most_in batch) 4294967295 < entries)

-- The text is that of the batches behind entry `after`: of 32, or of some whole ones and one that reaches the last
-- entry or makes the text long.
abbrev pub AreLinesBehind : Opened → Type 0 → ℕ → List ℕ → Type 0
AreLinesBehind f may_fail after text =
    ((count : ℕ) × (count ≡ 32) × AreWhole f may_fail after count text)
    ⊎ ((batch : ℕ) × (front : List ℕ) × (entries : ℕ) × AreWhole f may_fail after batch front
    × AddsLines f may_fail (first_behind after batch) (most_in batch) front text entries
    × ((entries ≤ min (first_behind after batch + most_in batch) 4294967295) ⊎ (262144 ≤ length text)))

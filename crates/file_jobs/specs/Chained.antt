-- Definitions: the days of a folder as the audit of all days reads them, and the first line in which a day's opening
-- differs from the opening that the day before left (source: this project).
use Rattle.std.specs.Prelude.{◌≡◌, ◌≢◌, ◌<◌, ◌≤◌, ℕ, ◌+◌, ◌-◌, ◌^◌, ◌==◌, zero, suc, List, [], ◌∷◌, ◌++◌, length, take, drop, count_by, slice_index, slice_index_or, Option, Some, None, Result, Ok, Err}
use Rattle.site_core.specs.Limits.{ConfigValue}
use Rattle.site_config.specs.declared.fault.ConfigFault.{ConfigFault}
use Rattle.days.specs.Chain.{DayText, IsChain}
use Rattle.days.specs.EndedDays.{DayEnd}
use Rattle.days.specs.Ends.{AreEnds}
use Rattle.days.specs.declared.day.Chained.{Chained}
use Rattle.file_jobs.specs.declared.folder.Part.TheVariants as part
use Rattle.file_jobs.specs.declared.folder.Span.{Span}
use Rattle.file_jobs.specs.Days.{FolderText, file_of, own_config, span_of}
use Rattle.file_jobs.specs.Lines.{parts_of, IsWhole}

-- A day with this opening and this journal, and with its own configuration, or `given` if it has none. If its own is
-- refused, its opening is taken to have no bytes, which no opening has: so the day is in no chain.
abbrev pub day_with : ConfigValue → Option (Result ConfigValue ConfigFault) → Option (List ℕ) → Option (List ℕ) → DayText
day_with given None opening journal = record { config = given; opening = opening; journal = journal }
day_with given (Some (Ok own)) opening journal = record { config = own; opening = opening; journal = journal }
day_with given (Some (Err fault)) opening journal = record { config = given; opening = Some []; journal = journal }

abbrev pub day_in : FolderText → ConfigValue → ℕ → DayText
day_in folder given day =
    day_with given (own_config (file_of folder day part.Config)) (file_of folder day part.Opening) (file_of folder day part.Journal)

-- `count` days of a folder, the first of which is day `day`
abbrev pub days_from : FolderText → ConfigValue → ℕ → ℕ → List DayText
days_from folder given day zero = []
days_from folder given day (suc count) = day_in folder given day ∷ days_from folder given (day + 1) count

-- the days of a folder from day `next` to day `newest`, or no day if `next` is None
abbrev pub days_left : FolderText → ConfigValue → Option ℕ → ℕ → List DayText
days_left folder given None newest = []
days_left folder given (Some day) newest = days_from folder given day (suc (newest - day))

-- All days of a folder, from the oldest to the newest, follow one another, and these are their numbers of days and of
-- entries.
abbrev pub AreLegal : FolderText → ConfigValue → Chained → Type 0
AreLegal folder given chained =
    (span : Span) × (span_of folder ≡ Some span)
    × IsChain span.oldest (days_left folder given (Some span.oldest) span.newest) chained.entries
    × (chained.days ≡ length (days_left folder given (Some span.oldest) span.newest))

-- The end of each day of this span of a folder has been told, in order, behind what had been told `before`.
abbrev pub AreToldOf : Span → FolderText → ConfigValue → (List DayEnd → Type 0) → List DayEnd → Type 0
AreToldOf span folder given was_told before =
    let days = days_left folder given (Some span.oldest) span.newest in
    (ends : List DayEnd) × AreEnds span.oldest days span.oldest ends × (length ends ≡ length days) × was_told (before ++ ends)

-- The same of all days of a folder, from the oldest to the newest.
abbrev pub AreTold : FolderText → ConfigValue → (List DayEnd → Type 0) → List DayEnd → Type 0
AreTold folder given was_told before = (span : Span) × (span_of folder ≡ Some span) × AreToldOf span folder given was_told before

-- No day of a folder, from the oldest to the newest, has a configuration of its own that is refused.
abbrev pub NoConfigIsRefused : FolderText → Type 0
NoConfigIsRefused folder =
    (span : Span) (day : ℕ) (fault : ConfigFault) → span_of folder ≡ Some span → span.oldest ≤ day → day ≤ span.newest
    → own_config (file_of folder day part.Config) ≢ Some (Err fault)

-- The first `n` bytes of both texts are the same. If both texts are longer, their next bytes differ.
pub record AgreeFor (text left : List ℕ) (n : ℕ) : Type 0 where
  pub within : n ≤ length text
  pub within_left : n ≤ length left
  pub same : (k : ℕ) → k < n → slice_index text k ≡ slice_index left k
  pub ends : n < length text → n < length left → slice_index text n ≢ slice_index left n

-- The texts `text` and `left` have their first `same` bytes in common. The first line in which they differ (the LF at a
-- line's end belongs to the line) begins at byte `start` of both. `number` is the number of this line, counted from 1.
-- Nothing is claimed of `number` if it would be 2^64 or more. `line` is this line of `left` without its LF, or empty if
-- `left` has no such line. If the texts are equal, the line is what follows their last LF, or all of the text if it has
-- no LF.
pub record IsOtherLine (text left : List ℕ) (number : ℕ) (line : List ℕ) : Type 0 where
  pub same : ℕ
  pub agree : AgreeFor text left same
  pub start : ℕ
  pub whole : IsWhole (take same left) start
  pub number_is : count_by (λ b. b == 10) (take same left) + 1 < 2 ^ 64 → number ≡ count_by (λ b. b == 10) (take same left) + 1
  pub line_is : slice_index_or (parts_of (drop start left)) 0 [] ≡ line

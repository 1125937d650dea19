-- Definitions: the names of a day's files, the days that a folder has, and how a day begins (source: this project). A
-- file's name begins with the day's number: six digits, such as `000002`, or more if the number needs more.
use Rattle.std.specs.Prelude.{◌≡◌, ◌≢◌, ◌⊎◌, ℕ, ◌+◌, ◌-◌, ◌==◌, ◌||◌, List, [], ◌∷◌, ◌++◌, length, codes, decimal, replicate, map, fold, min, max, nat_lt, Bool, false, true}
use Rattle.std.specs.Prelude.{Option, Some, None, option_map, unwrap_or, Result, Ok, bytes_eq, if◌then◌else◌}
use Rattle.std.specs.List.{before_first, after_first}
use Rattle.std.specs.Map.{lookup}
use Rattle.std.specs.Result.{result_map_both, result_ok}
use Rattle.till_request.specs.Grammar.{number}
use Rattle.site_core.specs.Limits.{ConfigValue}
use Rattle.site_core.specs.Opening.{OpeningValue}
use Rattle.days.specs.declared.beginning.Unfit.TheVariants as unfit
use Rattle.days.specs.declared.chain_fault.Unbegun.TheVariants as unbegun
use Rattle.days.specs.declared.file.OpeningFile.{OpeningFile}
use Rattle.days.specs.declared.fitting.Misfit.{Misfit}
use Rattle.site_config.specs.Ranges.{config_of}
use Rattle.site_config.specs.declared.fault.ConfigFault.{ConfigFault}
use Rattle.days.specs.Breaks.{IsUnbegun}
use Rattle.days.specs.Chain.{BeginsBy}
use Rattle.days.specs.File.{IsOpeningFile}
use Rattle.days.specs.Fitting.{BeginsWith, Fits}
use Rattle.days.specs.Misfits.{Misfits}
use Rattle.file_jobs.specs.declared.folder.Part.{Part}
use Rattle.file_jobs.specs.declared.folder.Part.TheVariants as part
use Rattle.file_jobs.specs.declared.folder.Span.{Span}
use Rattle.file_jobs.specs.declared.memory_folder.MemoryFile.{MemoryFile}
use Rattle.file_jobs.specs.declared.newest.DayPlan.{DayPlan}
use Rattle.file_jobs.specs.declared.newest.DayPlan.TheVariants as plan
use Rattle.file_jobs.specs.declared.newest.Own.{Own}

abbrev pub is_written : Option (List ℕ) → Bool
is_written None = false
is_written (Some text) = nat_lt 0 (length text)

abbrev pub ending_of : Part → List ℕ
ending_of part.Config = codes "toml"
ending_of part.Opening = codes "opening"
ending_of part.Journal = codes "journal"

abbrev pub six_digits : ℕ → List ℕ
six_digits day = replicate (6 - length (decimal day)) 48 ++ decimal day

-- the name of a day's file: the day's number, `.`, and the ending
abbrev pub file_name : ℕ → Part → List ℕ
file_name day part = six_digits day ++ (46 ∷ ending_of part)

abbrev pub path_of : List ℕ → ℕ → Part → List ℕ
path_of folder day part = folder ++ (47 ∷ file_name day part)

-- A folder of days as a value: the name and the bytes of each file.
abbrev pub FolderText : Type 0
FolderText = List (List ℕ × List ℕ)

-- the folder of these files in memory
abbrev pub texts_of : List MemoryFile → FolderText
texts_of files = map (λ file. (file.name.now, file.bytes.now)) files

-- the bytes of a day's file, or None if the folder has no such file
abbrev pub file_of : FolderText → ℕ → Part → Option (List ℕ)
file_of folder day part = lookup (bytes_eq (file_name day part)) folder

-- digits without the zeros in front
abbrev pub without_zeros : List ℕ → List ℕ
without_zeros [] = []
without_zeros (digit ∷ digits) = if digit == 48 then without_zeros digits else digit ∷ digits

-- The number of a day, given the part of a file's name that spells it: exactly six digits, or more than six that don't
-- begin with 0. None for anything else, and if the number is 0 or isn't below 2^32.
abbrev pub day_of : List ℕ → Option ℕ
day_of digits =
    if length digits == 6 then result_ok (number 32 (without_zeros digits))
    else (if nat_lt 6 (length digits) then result_ok (number 32 digits) else None)

-- whether this is what follows the `.` in the file name of a journal or of an opening
abbrev pub shows_day : List ℕ → Bool
shows_day ending = bytes_eq ending (ending_of part.Journal) || bytes_eq ending (ending_of part.Opening)

abbrev pub is_dot : ℕ → Bool
is_dot byte = byte == 46

-- The day whose journal or opening has this name; None for any other name.
unfoldable pub day_named : List ℕ → Option ℕ
day_named name = if shows_day (after_first is_dot name) then day_of (before_first is_dot name) else None

-- What is to be done to find the day with which a station goes on. `Serve n` means day n. `Close n` means that day n is
-- closed, and the day after it is served; a day without an entry isn't closed, and is served again. The result is:
-- - `Serve 1` if the station's folder has no day
-- - or else `Close n` for the newest day n, if a new day is asked for
-- - or else `Serve n` for the newest day n
abbrev pub day_plan : Option Span → Bool → DayPlan
day_plan None is_new = plan.Serve 1
day_plan (Some span) is_new = if is_new then plan.Close span.newest else plan.Serve span.newest

-- the oldest and the newest day of a folder once this day is added; None stands for a folder without a day
abbrev pub with_day : Option Span → ℕ → Span
with_day None day = record { oldest = day; newest = day }
with_day (Some span) day = record { oldest = min span.oldest day; newest = max span.newest day }

abbrev pub with_found : Option Span → Option ℕ → Option Span
with_found span None = span
with_found span (Some day) = Some (with_day span day)

-- the oldest and the newest of the days that have a journal or an opening, or None if there is no such day
abbrev pub span_of : FolderText → Option Span
span_of folder = fold (λ span file. with_found span (day_named file.0)) None folder

-- the day after `day`, or None if `day` isn't before the day `newest`
abbrev pub day_after : ℕ → ℕ → Option ℕ
day_after day newest = if nat_lt day newest then Some (day + 1) else None

-- `day` is the day to serve. The day after day n is served only if the journal of day n isn't empty: only then is day n
-- closed.
abbrev pub IsServed : FolderText → DayPlan → ℕ → Type 0
IsServed folder (plan.Serve n) day = day ≡ n
IsServed folder (plan.Close n) day = (day ≡ n) ⊎ ((day ≡ n + 1) × (is_written (file_of folder n part.Journal) ≡ true))

-- the configuration in the text of a day's file, or the fault of that text; None if the day has no such file
abbrev pub own_config : Option (List ℕ) → Option (Result ConfigValue ConfigFault)
own_config file = option_map (λ text. result_map_both (λ settings. settings.config) (λ fault. fault) (config_of text)) file

-- The configuration that a folder has for a day, and its text; `file` is the bytes of the day's file.
abbrev pub IsOwn : Option (List ℕ) → Own → Type 0
IsOwn file own = (file ≡ Some own.text.items) × (own_config file ≡ Some (Ok own.config))

-- The configuration that a day keeps. A day without an entry keeps none: its journal is missing or empty.
abbrev pub kept_config : FolderText → ℕ → Option (Result ConfigValue ConfigFault)
kept_config folder day = if is_written (file_of folder day part.Journal) then own_config (file_of folder day part.Config) else None

-- `config` is this configuration of a day, or `given` for a day that has none. A day with one that is refused has none.
abbrev pub IsConfigOf : ConfigValue → Option (Result ConfigValue ConfigFault) → ConfigValue → Type 0
IsConfigOf given None config = config ≡ given
IsConfigOf given (Some own) config = own ≡ Ok config

-- A site of `config` begins day `day` of a folder, and then has the configuration `begun`. Day 1 begins without an
-- opening.
abbrev pub Begins : FolderText → ConfigValue → ℕ → ConfigValue → Type 0
Begins folder config day begun =
    (day ≡ 1 → begun ≡ config) × (day ≢ 1 → BeginsBy day config (file_of folder day part.Opening) begun)

-- The opening that a folder has for a day doesn't fit `config`. Day 1 has no opening.
abbrev pub IsUnfitting : FolderText → ConfigValue → ℕ → Type 0
IsUnfitting folder config day =
    (day ≢ 1)
    × ((misfit : Misfit) × IsUnbegun day config (file_of folder day part.Opening) (unbegun.Unfit (unfit.Misfit misfit)))

-- A day takes the configuration `config`. If `own` is None, it is the one that the day keeps, or `given` if it keeps
-- none; `given` may then only fail to fit the day's opening if the folder's for the day doesn't fit it either. Else it
-- is the one that the folder has for the day, since the day keeps none and `given` doesn't fit the day's opening, and
-- this one does; `own` is its text.
abbrev pub Takes : FolderText → ConfigValue → ℕ → Option (List ℕ) → ConfigValue → Type 0
Takes folder given day None config =
    IsConfigOf given (kept_config folder day) config
    × (kept_config folder day ≡ None → IsUnfitting folder given day → (other : ConfigValue)
    → own_config (file_of folder day part.Config) ≡ Some (Ok other) → IsUnfitting folder other day)
Takes folder given day (Some own) config =
    (kept_config folder day ≡ None) × IsUnfitting folder given day × (file_of folder day part.Config ≡ Some own)
    × (own_config (file_of folder day part.Config) ≡ Some (Ok config)) × ¬ IsUnfitting folder config day

-- A site goes on with day `day` of a folder, and then has the configuration `begun`.
abbrev pub GoesOn : FolderText → ConfigValue → ℕ → Option (List ℕ) → ConfigValue → Type 0
GoesOn folder given day own begun =
    (config : ConfigValue) × Takes folder given day own config × Begins folder config day begun

-- `next` is the text of the configuration that the folder gets for a day that begins with `opening`: `text`, that of
-- `given`, if `given` fits the opening. Else it is `own`, the folder's text for the day before, or `text` if the folder
-- has none.
abbrev pub IsNextText : ConfigValue → OpeningValue → List ℕ → Option (List ℕ) → List ℕ → Type 0
IsNextText given opening text own next =
    (Fits given opening × (next ≡ text)) ⊎ ((misfit : Misfit) × Misfits given opening misfit × (next ≡ unwrap_or own text))

-- A site with the configuration `config` begins day `day` with an opening of that day, and then has the configuration
-- `begun`.
pub record BeginsDay (config : ConfigValue) (day : ℕ) (begun : ConfigValue) : Type 0 where
  pub file : OpeningFile
  pub good : IsOpeningFile file
  pub day_is : day ≡ file.day
  pub begins : BeginsWith config file.opening begun

-- Definitions: the health of a station, which says whether all is well, or what isn't.
use Rattle.std.specs.Prelude.{ℕ, ◌==◌, nat_le, codes, if◌then◌else◌, List, [], ◌∷◌, Option, Some, None, Bool}
use Rattle.till_request.specs.declared.act.Role.{Role}
use Rattle.till_request.specs.declared.act.Role.TheVariants.{Till, Dispenser, Owner, DaysOwner, All, OneTill, SomePoints}
use Rattle.pages.specs.declared.station.Health.{Health}
use Rattle.pages.specs.declared.station.Health.TheVariants.{Healthy, JournalFailed, NearlyFull, NoWorker, OtherConfig}
use Rattle.pages.specs.declared.station.RoleCounts.{RoleCounts}

-- the first role in the list that no worker serves; None if each has a worker
abbrev pub without_worker : List RoleCounts → Option Role
without_worker [] = None
without_worker (role_counts ∷ more) = if role_counts.workers == 0 then Some role_counts.role else without_worker more

-- The health of a station whose journal hasn't failed and isn't nearly full: by whether its configuration is the given
-- one, and the first role that no worker serves, or None if each role has a worker.
abbrev pub worker_health : Bool → Option Role → Health
worker_health is_given None = if is_given then Healthy else OtherConfig
worker_health is_given (Some role) = NoWorker role

-- The health of a station: the first of these problems that it has. If it has none, all is well.
-- - The journal failed.
-- - The journal is nearly full: it has 1,000,000 entries or more.
-- - A role in the list has no worker.
-- - The day was to begin with the given configuration, and couldn't.
abbrev pub health_of : Bool → ℕ → Bool → List RoleCounts → Health
health_of has_failed entries is_given role_counts =
    if has_failed then JournalFailed
    else (if nat_le 1000000 entries then NearlyFull else worker_health is_given (without_worker role_counts))

-- a station's health in a few words
abbrev pub health_text : Health → List ℕ
health_text Healthy = codes "ok"
health_text JournalFailed = codes "the journal failed"
health_text NearlyFull = codes "the journal is nearly full"
health_text OtherConfig = codes "the configuration isn't taken"
health_text (NoWorker Till) = codes "no worker is left for tills"
health_text (NoWorker (OneTill till stray)) = codes "no worker is left for tills"
health_text (NoWorker Dispenser) = codes "no worker is left for dispensers"
health_text (NoWorker (SomePoints points stray)) = codes "no worker is left for dispensers"
health_text (NoWorker Owner) = codes "no worker is left for the owner"
health_text (NoWorker DaysOwner) = codes "no worker is left for the owner"
health_text (NoWorker All) = codes "no worker is left for the owner"

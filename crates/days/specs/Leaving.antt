-- Promises: why a day's site leaves no opening for the next day.
use Rattle.std.specs.Prelude.{◌≡◌, ◌≢◌, ℕ, length}
use Rattle.site_core.specs.Days.{carried}
use Rattle.site_core.specs.Fitting.{Misfits as IsFaulty}
use Rattle.site_core.specs.Opening.{IsOpening}
use Rattle.site_core.specs.Site.{SiteValue}
use Rattle.site_core.specs.declared.opening.OpeningFault.TheVariants.{OutOfMemory}
use Rattle.days.specs.declared.file.Uncarried.{Uncarried}
use Rattle.days.specs.declared.file.Uncarried.TheVariants.{Fault, LastDay}

-- The reason is right: it is why the site of day `number` leaves no opening, or it is that memory ran out. The opening
-- that the site would leave for the next day is `carried site`.
-- - `LastDay`: `number` is 4,294,967,295, the greatest that a day can have.
-- - `Fault` with `OutOfMemory`: `number` isn't 4,294,967,295, and a site with as many points as the day's site can
--   begin with `carried site`. Memory ran out.
-- - `Fault` with another fault: `number` isn't 4,294,967,295, and this is the first fault of `carried site`. So no site
--   with as many points as the day's site can begin with it.
abbrev pub IsUncarried : ℕ → SiteValue → Uncarried → Type 0
IsUncarried number site LastDay = number ≡ 4294967295
IsUncarried number site (Fault fault) =
    (number ≢ 4294967295) × IsFaulty (length site.config.points) (carried site) fault
    × (fault ≡ OutOfMemory → IsOpening (length site.config.points) (carried site))

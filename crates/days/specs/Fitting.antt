-- Definitions: whether an opening fits a configuration (source: this project).
use Rattle.std.specs.Prelude.{◌≡◌, ◌≤◌, ◌<◌, ℕ, ◌-◌, List, [], ◌++◌, All, Some, drop, length, replicate, take}
use Rattle.bpf_model.specs.Machine.{Counters, counter}
use Rattle.fuelling_point.specs.Table.{PointState, fresh_point}
use Rattle.fuelling_point.specs.declared.kinds.State.TheVariants.{Closed}
use Rattle.fuelling_point.specs.declared.kinds.Transaction.{Transaction}
use Rattle.site_core.specs.Limits.{ConfigValue}
use Rattle.site_core.specs.Opening.{IsOpening, OpeningValue}

-- The transaction is held by nobody, or by one of the tills 1 to `tills`. Nobody holds it if its holder is 0.
abbrev pub HasTill : ℕ → Transaction → Type 0
HasTill tills t = t.holder ≤ tills

-- Each unpaid transaction of the points is held by nobody, or by one of the tills 1 to `tills`.
abbrev pub HaveTills : ℕ → List PointState → Type 0
HaveTills tills points = All (λ (p : PointState). All (HasTill tills) p.unpaid) points

-- The value of each counter in `values` is at most its bound in `bounds`.
abbrev pub AreWithin : Counters → Counters → Type 0
AreWithin values bounds = (c : ℕ) → c < 32 → (counter values c).0 ≤ (counter bounds c).1

-- The point is closed and has no unpaid transaction, so a station may lose it.
abbrev pub MayGo : PointState → Type 0
MayGo p = (p.state ≡ Closed) × (p.unpaid ≡ [])

-- The points with which a site of `count` points begins: the opening's first `count`, and behind them closed points with
-- nothing else, if the opening has fewer.
abbrev pub fitted_points : ℕ → List PointState → List PointState
fitted_points count points = take count points ++ replicate (count - length points) fresh_point

-- An opening fits a configuration if the points that the configuration doesn't have may go, if each transaction is held
-- by nobody or by a till of the configuration, and if no counter's value is over its bound in the configuration.
pub record Fits (config : ConfigValue) (o : OpeningValue) : Type 0 where
  pub points : All MayGo (drop (length config.points) o.points)
  pub tills : HaveTills config.tills o.points
  pub counters : AreWithin o.counters config.counters

-- The counters `cells` have their values from `values` and their bounds from `bounds`.
abbrev pub AreBounded : Counters → Counters → Counters → Type 0
AreBounded values bounds cells = (c : ℕ) → c < 32 → counter cells c ≡ ((counter values c).0, (counter bounds c).1)

-- The opening with this many points, and with these counters.
abbrev pub refitted : ℕ → OpeningValue → Counters → OpeningValue
refitted count o cells = record o { points = fitted_points count o.points; counters = cells }

-- A site of `config` begins with the opening `o`, and `begun` is then its configuration:
-- - `o` fits `config`.
-- - The counters `cells` have their values from `o` and their bounds from `config`. They replace the counters of `o`,
--   which also gets as many points as `config` has (`refitted`).
-- - A site with as many points can begin with the opening that this gives.
-- - `begun` is `config` with the opening that this gives.
abbrev pub BeginsWith : ConfigValue → OpeningValue → ConfigValue → Type 0
BeginsWith config o begun =
    Fits config o
    × ((cells : Counters) × AreBounded o.counters config.counters cells
    × IsOpening (length config.points) (refitted (length config.points) o cells)
    × (begun ≡ record config { opening = Some (refitted (length config.points) o cells) }))

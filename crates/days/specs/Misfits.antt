-- Promises: why an opening doesn't fit a configuration.
use Rattle.std.specs.Prelude.{◌≡◌, ◌≤◌, ◌<◌, ℕ, nat_lt, List, All, Option, Some, IfSome, drop, find, length, slice_get, slice_index_or, take}
use Rattle.bpf_model.specs.Machine.{Counters, counter}
use Rattle.fuelling_point.specs.Table.{PointState, fresh_point}
use Rattle.fuelling_point.specs.declared.kinds.Transaction.{Transaction}
use Rattle.site_core.specs.Limits.{ConfigValue}
use Rattle.site_core.specs.Opening.{IsOpening, OpeningValue}
use Rattle.site_core.specs.Fitting.{Misfits as IsFaulty}
use Rattle.site_core.specs.declared.opening.OpeningFault.TheVariants.{OutOfMemory}
use Rattle.days.specs.Fitting.{AreBounded, BeginsWith, Fits, HaveTills, MayGo, refitted}
use Rattle.days.specs.declared.beginning.Unfit.{Unfit}
use Rattle.days.specs.declared.beginning.Unfit.TheVariants as unfit
use Rattle.days.specs.declared.fitting.Misfit.{Misfit}
use Rattle.days.specs.declared.fitting.Misfit.TheVariants as misfit

-- Counter `m.0` is the first one whose value in `values` is over its bound in `bounds`. `m.1` is this value, and `m.2`
-- is this bound.
abbrev pub IsOver : Counters → Counters → ℕ × ℕ × ℕ → Type 0
IsOver values bounds m =
    (m.0 < 32) × (m.1 ≡ (counter values m.0).0) × (m.2 ≡ (counter bounds m.0).1) × (m.2 < m.1)
    × ((c : ℕ) → c < m.0 → (counter values c).0 ≤ (counter bounds c).1)

-- The first of these transactions that is held by a till with a number over `tills`. None if no transaction is held by
-- such a till.
abbrev pub first_held : ℕ → List Transaction → Option Transaction
first_held tills transactions = find (λ (t : Transaction). nat_lt tills t.holder) transactions

-- The point at place `at`, counted from 0, is the first one with an unpaid transaction that is held by a till with a
-- number over `tills`. `t` is the first such transaction of this point.
pub record IsHeldOver (tills : ℕ) (points : List PointState) (at : ℕ) (t : Transaction) : Type 0 where
  pub within : at < length points
  pub before : HaveTills tills (take at points)
  pub held : IfSome (slice_get points at) (λ p. first_held tills p.unpaid ≡ Some t)

-- Of these points, the one at place `at`, counted from 0, is the first that may not go.
pub record IsKept (points : List PointState) (at : ℕ) : Type 0 where
  pub within : at < length points
  pub before : (k : ℕ) → k < at → MayGo (slice_index_or points k fresh_point)
  pub kept : ¬ MayGo (slice_index_or points at fresh_point)

-- The reason is right: it is the first reason why the opening doesn't fit the configuration, and its values are those
-- of the opening and of the configuration. The points are looked at first, then the tills, and then the counters.
-- `at` of a point counts those behind the configuration's.
abbrev pub Misfits : ConfigValue → OpeningValue → Misfit → Type 0
Misfits config o (misfit.Point there at) = (there ≡ length config.points) × IsKept (drop (length config.points) o.points) at
Misfits config o (misfit.Till at t tills) =
    All MayGo (drop (length config.points) o.points) × (tills ≡ config.tills) × IsHeldOver tills o.points at t
Misfits config o (misfit.Counter c value bound) =
    All MayGo (drop (length config.points) o.points) × HaveTills config.tills o.points × IsOver o.counters config.counters (c, value, bound)

-- The reason is right: it is why no site of `config` begins with the opening `o`, or it is that memory ran out.
-- - `Misfit`: `o` doesn't fit `config`, as `Misfits` says.
-- - `Fault`: `o` fits `config`. Let the changed opening be `o` with as many points as `config` has, and with the counters
--   `cells`, which have their values from `o` and their bounds from `config`. If the fault is `OutOfMemory`, memory ran
--   out, and a site with as many points can begin with the changed opening, if `o` has no fewer points. Any other fault is
--   the first one of the changed opening, so that no such site can begin with it.
abbrev pub IsUnfit : ConfigValue → OpeningValue → Unfit → Type 0
IsUnfit config o (unfit.Misfit m) = Misfits config o m
IsUnfit config o (unfit.Fault fault) =
    Fits config o
    × ((cells : Counters) × AreBounded o.counters config.counters cells × (length cells ≡ 32)
    × IsFaulty (length config.points) (refitted (length config.points) o cells) fault
    × (fault ≡ OutOfMemory → length config.points ≤ length o.points
    → IsOpening (length config.points) (refitted (length config.points) o cells)))

-- No site of this configuration begins with the opening.
abbrev pub CannotBegin : ConfigValue → OpeningValue → Type 0
CannotBegin config o = (begun : ConfigValue) → BeginsWith config o begun → ⊥

-- The reason is that memory ran out.
abbrev pub IsOutOfMemory : Unfit → Type 0
IsOutOfMemory u = u ≡ unfit.Fault OutOfMemory

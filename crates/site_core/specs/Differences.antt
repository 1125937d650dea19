-- Definitions: how a site differs from the state on which a draft was made.
use Rattle.std.specs.Prelude.{◌≡◌, ◌≢◌, ℕ, ◌-◌, ◌<◌, ◌≤◌, IsTrue, List, length, slice_get, Some, option_map}
use Rattle.bpf_model.specs.Machine.{Counters, counter}
use Rattle.site_core.specs.SlotsValue.{Version}
use Rattle.interp.specs.Depends.{Agrees}
use Rattle.site_core.specs.Decide.{is_declared}
use Rattle.site_core.specs.Draft.{DraftValue, Basis}
use Rattle.site_core.specs.declared.why.Why.{Why}
use Rattle.site_core.specs.declared.why.Why.TheVariants as why

-- `at` is the first place, counted from 0, at which the lists a and b differ.
pub record FirstDiffers {T : Type 0} (a b : List T) (at : ℕ) : Type 0 where
  pub within : at < length a
  pub differs : slice_get a at ≢ slice_get b at
  pub same_before : (k : ℕ) → k < at → slice_get a k ≡ slice_get b k

-- c is the number of the first declared counter whose value or bound differs in a and b.
pub record CounterDiffers (declared : ℕ) (a b : Counters) (c : ℕ) : Type 0 where
  pub within : c < 32
  pub declares : IsTrue (is_declared declared c)
  pub differs : counter a c ≢ counter b c
  pub same_before : (k : ℕ) → k < c → IsTrue (is_declared declared k) → counter a k ≡ counter b k

-- The draft isn't stale: a run now would be made on the draft's version, context, view and declared counters.
pub record IsFresh (now : Basis) (draft : DraftValue) : Type 0 where
  pub version : now.version ≡ Some draft.version
  pub context : now.context ≡ draft.context
  pub view : now.view ≡ draft.view
  pub counters : Agrees draft.version.program.declared draft.counters now.counters

-- The `Why` is the first difference between the draft and what its run would be made on now. The order is: the version,
-- the context byte by byte, the points, the prices, the declared counters. Points and products are numbered from 1. The
-- version's number and the counter's value are the current ones, not the draft's.
abbrev pub Differs : Basis → DraftValue → Why → Type 0
Differs now draft (why.Version number) =
    (now.version ≢ Some draft.version) × (number ≡ option_map (λ (v : Version). v.number) now.version)
Differs now draft (why.Context at) =
    (now.version ≡ Some draft.version) × FirstDiffers now.context draft.context at
Differs now draft (why.PointDiffers p) =
    (now.version ≡ Some draft.version) × (now.context ≡ draft.context)
    × (1 ≤ p) × FirstDiffers now.view.points draft.view.points (p - 1)
Differs now draft (why.PriceDiffers p) =
    (now.version ≡ Some draft.version) × (now.context ≡ draft.context) × (now.view.points ≡ draft.view.points)
    × (1 ≤ p) × FirstDiffers now.view.prices draft.view.prices (p - 1)
Differs now draft (why.Counter c value) =
    (now.version ≡ Some draft.version) × (now.context ≡ draft.context) × (now.view ≡ draft.view)
    × CounterDiffers draft.version.program.declared now.counters draft.counters c × (value ≡ (counter now.counters c).0)

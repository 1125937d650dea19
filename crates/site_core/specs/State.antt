-- Definitions: the state of a site between two events, and the part of it that a program sees.
use Rattle.std.specs.Prelude.{ℕ, ◌-◌, List, ◌++◌, length, map, replicate, find, count_by, Option, None, option_map, Some, slice_get, slice_set, slice_index}
use Rattle.std.specs.Prelude.{nat_lt, nat_le, if◌then◌else◌}
use Rattle.fuelling_point.specs.Table.{PointState, fresh_point}
use Rattle.fuelling_point.specs.declared.kinds.State.{State}
use Rattle.fuelling_point.specs.States.{is_busy, state_number}
use Rattle.bpf_model.specs.declared.machine.PointView.{PointView}
use Rattle.bpf_model.specs.declared.machine.View.{View}
use Rattle.bpf_model.specs.Machine.{Counters, counter, no_point}
use Rattle.site_core.specs.Opening.{OpeningValue}
use Rattle.site_core.specs.Limits.{ConfigValue}

-- The state of a site. Points and products are numbered from 1, counters from 0. Prices are in thousandths of the
-- currency per litre. `cleared` is the total in cents of all transactions ever cleared; `clears` is their number.
pub record SiteState : Type 0 where
  pub points : List PointState
  pub prices : List ℕ
  pub counters : Counters
  pub cleared : ℕ
  pub clears : ℕ

-- The state in which a site without an opening starts: each point is closed, the prices and counters come from the
-- configuration, and nothing is cleared.
abbrev pub fresh_state : ConfigValue → SiteState
fresh_state config = record { points = map (λ _. fresh_point) config.points; prices = config.prices; counters = config.counters; cleared = 0; clears = 0 }

-- The state of a site that begins with this opening.
abbrev pub opened_state : OpeningValue → SiteState
opened_state o = record { points = o.points; prices = o.prices; counters = o.counters; cleared = o.cleared; clears = o.clears }

-- The state in which a site starts: the opening's state if there is an opening, or else `fresh_state`.
abbrev pub opening_state : ConfigValue → SiteState
opening_state config = elim config.opening [ None ↦ fresh_state config | Some o ↦ opened_state o ]

-- The item of this number, counted from 1. None if there is no such item.
abbrev pub at_number : {T : Type 0} → List T → ℕ → Option T
at_number items n = if nat_le 1 n then slice_get items (n - 1) else None

abbrev pub with_point : SiteState → ℕ → PointState → SiteState
with_point s n point = record s { points = slice_set s.points (n - 1) point }

-- The price of a product in thousandths. 0 if the product has no price, or if there is no such product.
abbrev pub price_of : SiteState → ℕ → ℕ
price_of s product = if nat_le 1 product then slice_index s.prices (product - 1) else 0

-- How many points are in states 5 to 9: a delivery is authorised or under way there.
unfoldable pub busy_points : SiteState → ℕ
busy_points s = count_by (λ (p : PointState). is_busy p.state) s.points

-- How many points are in states 3 to 9: all that are neither closed nor out of order.
unfoldable pub open_points : SiteState → ℕ
open_points s = count_by (λ (p : PointState). nat_le 3 (state_number p.state)) s.points

-- The state of the first point that is in one of states 5 to 9. None if no point is.
unfoldable pub first_busy : SiteState → Option State
first_busy s = option_map (λ (p : PointState). p.state) (find (λ (p : PointState). is_busy p.state) s.points)

-- The value and the bound of a counter, for counters 0 to 31. None for other numbers.
abbrev pub counter_of : SiteState → ℕ → Option (ℕ × ℕ)
counter_of s c = if nat_lt c 32 then Some (counter s.counters c) else None

-- The part of a point that a program sees.
abbrev pub seen : PointState → PointView
seen p = record { state = state_number p.state; nozzle = p.nozzle; amount = p.amount }

-- The part of all points that a program sees: 32 places, with zeros in the places of points that don't exist.
unfoldable pub seen_points : List PointState → List PointView
seen_points points = map seen points ++ replicate (32 - length points) no_point

-- The part of the site that a program can look up by calling helpers: the points and the prices.
unfoldable pub view_of : SiteState → View
view_of s = record { count = length s.points; points = seen_points s.points; prices = s.prices }

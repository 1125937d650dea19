-- Definitions: the settings that the values of a configuration give. If a value is out of its range, a list has a wrong
-- length, or another condition isn't met, the fault is K3.
use Rattle.std.specs.Prelude.{◌==◌, ◌&&◌, ◌-◌, nat_le, ℕ, ℤ, List, ◌++◌, length, replicate, Option}
use Rattle.std.specs.Prelude.{Some, None, Result, Ok, Err, option_map}
use Rattle.toml.specs.Data.{Members}
use Rattle.site_config.specs.declared.fault.ConfigFault.{ConfigFault}
use Rattle.site_config.specs.declared.fault.ConfigFault.TheVariants.{K1}
use Rattle.site_config.specs.declared.flaw.ConfigFlaw.{ConfigFlaw}
use Rattle.site_config.specs.declared.flaw.ConfigFlaw.TheVariants.{WrongCount, OverBound}
use Rattle.site_config.specs.declared.flaw.Key.TheVariants as key
use Rattle.site_config.specs.declared.flaw.Section.TheVariants.{Top, Point, Counter}
use Rattle.site_config.specs.declared.flaw.Place.TheVariants.{At, Item}
use Rattle.site_config.specs.declared.settings.Settings.{Settings}
use Rattle.site_core.specs.Limits.{ConfigValue}
use Rattle.site_config.specs.Document.{◌>>=◌, demand, each_of, document_of}
use Rattle.site_config.specs.Flaws.{numbered}
use Rattle.site_config.specs.Typed.{Typed, TypedServe, typed_of}
use Rattle.site_config.specs.Demands.{ranged}
use Rattle.site_config.specs.Doors.{ServeValue, serve_of, serve_seen}

-- The slot whose program decides a fuelling point's releases, and the slot whose program decides its presets. Each must
-- be from 0 to 15. `place` is the point's index in the list of points, counted from 0.
unfoldable pub point_of : ℕ → ℤ × ℤ → Result (ℕ × ℕ) ConfigFlaw
point_of place p = do
  r ← ranged (At (Point place) key.Release) 0 15 p.0
  s ← ranged (At (Point place) key.Preset) 0 15 p.1
  Ok (r, s)

-- The value and the bound of a counter: each from 0 to 9,223,372,036,854,775,807, and the value at most the bound.
unfoldable pub counter_of : ℕ → ℤ × ℤ → Result (ℕ × ℕ) ConfigFlaw
counter_of place p = do
  v ← ranged (At (Counter place) key.Value) 0 9223372036854775807 p.0
  b ← ranged (At (Counter place) key.Bound) 0 9223372036854775807 p.1
  fits ← demand (OverBound place v b) (nat_le v b)
  Ok (v, b)

-- The price of the product at this place, counted from 0. It must be from 0 to 9,999,999.
abbrev pub price_of : ℕ → ℤ → Result ℕ ConfigFlaw
price_of place z = ranged (Item Top key.Prices place) 0 9999999 z

-- The prices of a site: there must be 8.
unfoldable pub prices_of : List ℤ → Result (List ℕ) ConfigFlaw
prices_of zs = do
  eight ← demand (WrongCount (At Top key.Prices) (length zs) 8 8) (length zs == 8)
  each_of price_of 0 zs

-- The points of a site: there must be 1 to 32.
unfoldable pub points_of : List (ℤ × ℤ) → Result (List (ℕ × ℕ)) ConfigFlaw
points_of ps = do
  some ← demand (WrongCount (At Top key.Point) (length ps) 1 32) (nat_le 1 (length ps) && nat_le (length ps) 32)
  each_of point_of 0 ps

-- The 32 counters of a site. At most 32 may be given, and the others have value 0 and bound 0.
unfoldable pub counters_of : List (ℤ × ℤ) → Result (List (ℕ × ℕ)) ConfigFlaw
counters_of ps = do
  few ← demand (WrongCount (At Top key.Counter) (length ps) 0 32) (nat_le (length ps) 32)
  qs ← each_of counter_of 0 ps
  Ok (qs ++ replicate (32 - length qs) (0, 0))

abbrev pub serve_from : ℕ → ℕ → Option TypedServe → Result (Option ServeValue) ConfigFlaw
serve_from tills points None = Ok None
serve_from tills points (Some s) = do
  r ← serve_of tills points s
  Ok (Some r)

-- The settings in a configuration: the site, and where and how it is served, if `[serve]` is given.
pub record SettingsValue : Type 0 where
  pub config : ConfigValue
  pub serve : Option ServeValue

unfoldable pub settings_of_typed : Typed → Result SettingsValue ConfigFlaw
settings_of_typed d = do
  tills ← ranged (At Top key.Tills) 1 64 d.tills
  slot ← ranged (At Top key.PriceSlot) 0 15 d.price_slot
  prices ← prices_of d.prices
  points ← points_of d.points
  counters ← counters_of d.counters
  serve ← serve_from tills (length points) d.serve
  Ok (record { config = record { tills = tills; price_slot = slot; prices = prices; points = points; counters = counters; opening = None }; serve = serve })

abbrev pub settings_view : Settings → SettingsValue
settings_view s = record { config = s.config; serve = option_map serve_seen s.serve }

-- The settings in a document, or its first flaw. The keys and the types of their values are checked first (K2), and
-- then the values themselves (K3).
unfoldable pub settings_of : Members → Result SettingsValue ConfigFlaw
settings_of ms = typed_of ms >>= settings_of_typed

abbrev pub config_in : Option Members → Result SettingsValue ConfigFault
config_in None = Err K1
config_in (Some ms) = numbered (settings_of ms)

-- The settings in the text of a configuration, or the fault of its first flaw. The checks come in this order: whether
-- the text is a TOML document (K1), then the keys and the types of their values (K2), and then the values themselves
-- (K3).
unfoldable pub config_of : List ℕ → Result SettingsValue ConfigFault
config_of bytes = config_in (document_of bytes)

-- Definitions: the configuration of a site, and the limits of its values (source: this project).
use Rattle.std.specs.Prelude.{◌≡◌, ℕ, ◌≤◌, List, length, Option, Some, All}
use Rattle.site_core.specs.Opening.{OpeningValue, IsOpening}

-- The values of a configuration. Prices are in thousandths of the currency per litre. `points` has for each fuelling
-- point the slot whose program decides its releases, and the slot whose program decides its presets. `counters` has for
-- each counter its value and its bound. With an opening, the site begins with the opening's points, prices and
-- counters. Without one, it begins with closed points, and with the prices and counters of the configuration.
pub record ConfigValue : Type 0 where
  pub tills : ℕ
  pub price_slot : ℕ
  pub prices : List ℕ
  pub points : List (ℕ × ℕ)
  pub counters : List (ℕ × ℕ)
  pub opening : Option OpeningValue

-- A counter's value is at most its bound, and its bound is at most 2^63 - 1.
abbrev pub IsCounter : ℕ × ℕ → Type 0
IsCounter p = (p.0 ≤ p.1) × (p.1 ≤ 9223372036854775807)

-- Each value is in its range: 1 to 64 tills, 1 to 32 points, slots 0 to 15, and prices in thousandths up to 9,999,999.
-- Each counter's value is at most its bound, and each bound at most 2^63 - 1 (`IsCounter`). If there is an opening, a
-- site with as many points as `c` can begin with it.
pub record IsConfig (c : ConfigValue) : Type 0 where
  pub some_till : 1 ≤ c.tills
  pub tills : c.tills ≤ 64
  pub price_slot : c.price_slot ≤ 15
  pub prices : All (λ price. price ≤ 9999999) c.prices
  pub some_point : 1 ≤ length c.points
  pub points : length c.points ≤ 32
  pub slots : All (λ p. (p.0 ≤ 15) × (p.1 ≤ 15)) c.points
  pub counters : All IsCounter c.counters
  pub opening : (o : OpeningValue) → c.opening ≡ Some o → IsOpening (length c.points) o

-- The greatest number of entries that a history can have.
abbrev pub most_entries : ℕ
most_entries = 1048576

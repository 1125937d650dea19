-- Definitions: the keys and the places of a configuration as they are written (source: this project).
use Rattle.std.specs.Prelude.{ℕ, ◌+◌, List, [], ◌++◌, codes, min}
use Rattle.std.specs.Fmt.{decimal}
use Rattle.site_config.specs.declared.flaw.Key.{Key}
use Rattle.site_config.specs.declared.flaw.Key.TheVariants as key
use Rattle.site_config.specs.declared.flaw.Section.{Section}
use Rattle.site_config.specs.declared.flaw.Section.TheVariants as sections
use Rattle.site_config.specs.declared.flaw.Place.{Place}
use Rattle.site_config.specs.declared.flaw.Place.TheVariants.{At, Item, Counter}

abbrev pub name_of : Key → List ℕ
name_of key.Tills = codes "tills"
name_of key.PriceSlot = codes "price_slot"
name_of key.Prices = codes "prices"
name_of key.Point = codes "point"
name_of key.Counter = codes "counter"
name_of key.Serve = codes "serve"
name_of key.Release = codes "release"
name_of key.Preset = codes "preset"
name_of key.Value = codes "value"
name_of key.Bound = codes "bound"
name_of key.TillPort = codes "till_port"
name_of key.DispenserPort = codes "dispenser_port"
name_of key.OwnerPort = codes "owner_port"
name_of key.TillWorkers = codes "till_workers"
name_of key.DispenserWorkers = codes "dispenser_workers"
name_of key.Connections = codes "connections"
name_of key.IdleSeconds = codes "idle_seconds"
name_of key.LinesPerSecond = codes "lines_per_second"
name_of key.PagePort = codes "page_port"
name_of key.OwnLines = codes "own_lines"
name_of key.DayEnds = codes "day_ends"
name_of key.Zone = codes "zone"
name_of key.TillSocket = codes "till_socket"
name_of key.DispenserSocket = codes "dispenser_socket"
name_of key.OwnerSocket = codes "owner_socket"
name_of key.Till = codes "till"
name_of key.Dispenser = codes "dispenser"
name_of key.Number = codes "number"
name_of key.Points = codes "points"
name_of key.Port = codes "port"
name_of key.Socket = codes "socket"

-- The number, counted from 1, of the item at `place`, which is counted from 0. The number is at most 2^64 - 1.
abbrev pub counted : ℕ → ℕ
counted place = min (place + 1) 18446744073709551615

-- The text that is written before a key of this section. Points and doors are counted from 1 and counters from 0, as
-- the site counts them.
abbrev pub section_text : Section → List ℕ
section_text sections.Top = []
section_text (sections.Point place) = codes "point[" ++ decimal (counted place) ++ codes "]."
section_text (sections.Counter place) = codes "counter[" ++ decimal place ++ codes "]."
section_text sections.Serve = codes "serve."
section_text (sections.Till place) = codes "serve.till[" ++ decimal (counted place) ++ codes "]."
section_text (sections.Dispenser place) = codes "serve.dispenser[" ++ decimal (counted place) ++ codes "]."

abbrev pub place_text : Place → List ℕ
place_text (At section key) = section_text section ++ name_of key
place_text (Item section key place) = section_text section ++ name_of key ++ codes "[" ++ decimal (counted place) ++ codes "]"
place_text (Counter place) = codes "counter[" ++ decimal place ++ codes "]"

-- Definitions: what takes memory while the settings are read from a TOML document (source: this project). Memory is
-- taken for a copy of a text that isn't empty, and for each item of a list, once the item is read. No other step of the
-- reading reports that memory ran out.
use Rattle.std.specs.Prelude.{◌≡◌, ◌<◌, ◌⊎◌, ℕ, ℤ, List, [], ◌∷◌, length, codes, Option, Some, None, Result, IsOk, IsOkAnd, IsSomeAnd}
use Rattle.toml.specs.Data.{Data, Items, Members, no_items, item, get_member}
use Rattle.site_config.specs.declared.flaw.ConfigFlaw.{ConfigFlaw}
use Rattle.site_config.specs.declared.flaw.Key.{Key}
use Rattle.site_config.specs.declared.flaw.Key.TheVariants as key
use Rattle.site_config.specs.declared.flaw.Section.{Section}
use Rattle.site_config.specs.declared.flaw.Section.TheVariants.{Top, Point, Serve, Till, Dispenser}
use Rattle.site_config.specs.declared.flaw.Section.TheVariants as sections
use Rattle.site_config.specs.declared.flaw.Place.{Place}
use Rattle.site_config.specs.declared.flaw.Place.TheVariants.{At, Item}
use Rattle.site_config.specs.declared.flaw.Place.TheVariants as places
use Rattle.site_config.specs.declared.flaw.Side.{Side}
use Rattle.site_config.specs.declared.flaw.Side.TheVariants as sides
use Rattle.site_config.specs.declared.raw.RawAddress.{RawAddress}
use Rattle.site_config.specs.declared.raw.RawAddress.TheVariants.{Port, Socket}
use Rattle.site_config.specs.declared.raw.RawRole.{RawRole}
use Rattle.site_config.specs.declared.raw.RawRole.TheVariants.{Tills, Dispensers, Owner}
use Rattle.site_config.specs.Keys.{name_of}
use Rattle.site_config.specs.Demands.{ranged}
use Rattle.site_config.specs.Doors.{ServeValue}
use Rattle.site_config.specs.Ranges.{price_of}
use Rattle.site_config.specs.Typed.{Typed, typed_of}
use Rattle.site_config.specs.Typed.{is_key_of, other_key, known_in, text_of, table_of, array_of, integer_at, array_at, integer_in, integers_at}
use Rattle.site_config.specs.Typed.{point_in, counter_in, points_at, counters_at, door_at, single_in, shared_at, tills_at, dispensers_at}

-- A step takes memory, or it succeeds and what comes after it takes memory.
abbrev pub Then : {A : Type 0} → Type 0 → Result A ConfigFlaw → Type 0 → Type 0
Then takes step rest = takes ⊎ (IsOk step × rest)

-- The table has a key that a table of this section isn't allowed to have. The name of the first such key isn't empty,
-- and so it is copied.
abbrev pub CopiesKey : Section → Members → Type 0
CopiesKey section ms = IsSomeAnd (other_key (is_key_of section) ms) (λ name. 0 < length name)

-- The list has a first item, and memory is taken for it: to read it, or, if it is read without a flaw, to keep it.
abbrev pub KeepsFirst : {A : Type 0} → (ℕ → Data → Result A ConfigFlaw) → (ℕ → Data → Type 0) → Items → Type 0
KeepsFirst one takes no_items = ⊥
KeepsFirst one takes (item d ds) = takes 0 d ⊎ IsOk (one 0 d)

-- Reading a number takes no memory, so this never holds.
abbrev pub TakesNone : ℕ → Data → Type 0
TakesNone place d = ⊥

unfoldable pub TakesIntegers : Section → Key → Members → Type 0
TakesIntegers section key ms = IsOkAnd (array_at section key ms) (KeepsFirst (integer_in section key) TakesNone)

unfoldable pub TakesPair : Place → Section → Data → Type 0
TakesPair place section d = IsOkAnd (table_of place d) (CopiesKey section)

unfoldable pub TakesPoint : ℕ → Data → Type 0
TakesPoint place d = TakesPair (Item Top key.Point place) (Point place) d

unfoldable pub TakesCounter : ℕ → Data → Type 0
TakesCounter place d = TakesPair (places.Counter place) (sections.Counter place) d

unfoldable pub TakesPoints : Members → Type 0
TakesPoints ms = IsOkAnd (array_at Top key.Point ms) (KeepsFirst point_in TakesPoint)

unfoldable pub TakesCounters : Members → Type 0
TakesCounters ms =
    IsSomeAnd (get_member (codes "counter") ms) (λ d. IsOkAnd (array_of (At Top key.Counter) d) (KeepsFirst counter_in TakesCounter))

-- Reading a door's address copies the path of a socket: the socket's key is given with a path that isn't empty, and the
-- port's key isn't given. The two optional values are those of the port's key and of the socket's key. `place` is the
-- place of the path.
abbrev pub CopiesPath : Place → Option Data → Option Data → Type 0
CopiesPath place None (Some d) = IsOkAnd (text_of place d) (λ path. 0 < length path)
CopiesPath place None None = ⊥
CopiesPath place (Some x) socket = ⊥

unfoldable pub TakesDoor : Section → Key × Key → Members → Type 0
TakesDoor section keys ms = CopiesPath (At section keys.1) (get_member (name_of keys.0) ms) (get_member (name_of keys.1) ms)

-- Memory is taken for a door of `[serve]`: to read it, or, if it is read without a flaw, to keep it.
unfoldable pub TakesShared : Key × Key → RawRole → Members → Type 0
TakesShared keys role ms = TakesDoor Serve keys ms ⊎ IsOk (door_at Serve keys role ms)

unfoldable pub TakesTill : ℕ → Data → Type 0
TakesTill place d =
    IsOkAnd (table_of (Item Serve key.Till place) d) (λ ms.
    Then (CopiesKey (Till place) ms) (known_in (Till place) ms)
    (IsOk (integer_at (Till place) key.Number ms) × TakesDoor (Till place) (key.Port, key.Socket) ms))

unfoldable pub TakesDispenser : ℕ → Data → Type 0
TakesDispenser place d =
    IsOkAnd (table_of (Item Serve key.Dispenser place) d) (λ ms.
    Then (CopiesKey (Dispenser place) ms) (known_in (Dispenser place) ms)
    (Then (TakesIntegers (Dispenser place) key.Points ms) (integers_at (Dispenser place) key.Points ms)
    (TakesDoor (Dispenser place) (key.Port, key.Socket) ms)))

abbrev pub TakesSingle : Side → ℕ → Data → Type 0
TakesSingle sides.Tills = TakesTill
TakesSingle sides.Dispensers = TakesDispenser

abbrev pub TakesTables : Side → Key → Option Data → Type 0
TakesTables side key member = IsSomeAnd member (λ d. IsOkAnd (array_of (At Serve key) d) (KeepsFirst (single_in side) (TakesSingle side)))

unfoldable pub TakesDoors : Members → Type 0
TakesDoors ms =
    Then (TakesShared (key.TillPort, key.TillSocket) Tills ms) (shared_at (key.TillPort, key.TillSocket) key.Till Tills ms)
    (Then (TakesTables sides.Tills key.Till (get_member (codes "till") ms)) (tills_at ms)
    (Then (TakesShared (key.DispenserPort, key.DispenserSocket) Dispensers ms)
    (shared_at (key.DispenserPort, key.DispenserSocket) key.Dispenser Dispensers ms)
    (Then (TakesTables sides.Dispensers key.Dispenser (get_member (codes "dispenser") ms)) (dispensers_at ms)
    (TakesShared (key.OwnerPort, key.OwnerSocket) Owner ms))))

unfoldable pub TakesServed : Data → Type 0
TakesServed d = IsOkAnd (table_of (At Top key.Serve) d) (λ ms. Then (CopiesKey Serve ms) (known_in Serve ms) (TakesDoors ms))

-- With this document, reading the values of all keys takes memory.
unfoldable pub TakesTyped : Members → Type 0
TakesTyped ms =
    Then (CopiesKey Top ms) (known_in Top ms)
    (IsOk (integer_at Top key.Tills ms) × IsOk (integer_at Top key.PriceSlot ms)
    × Then (TakesIntegers Top key.Prices ms) (integers_at Top key.Prices ms)
    (Then (TakesPoints ms) (points_at ms)
    (Then (TakesCounters ms) (counters_at ms) (IsSomeAnd (get_member (codes "serve") ms) TakesServed))))

-- The address of a door is a path that isn't empty.
abbrev pub HasPath : RawAddress → Type 0
HasPath (Port z) = ⊥
HasPath (Socket path) = 0 < length path

-- With this list, keeping its first item takes memory: there is such an item, and `one` finds no flaw in it.
abbrev pub MakesFirst : {A B : Type 0} → (A → Result B ConfigFlaw) → List A → Type 0
MakesFirst one [] = ⊥
MakesFirst one (x ∷ xs) = IsOk (one x)

-- With these prices, making their list takes memory: there are 8 of them, and the first one is in its range.
unfoldable pub TakesPrices : List ℤ → Type 0
TakesPrices zs = (length zs ≡ 8) × MakesFirst (price_of 0) zs

-- With these values of `[serve]`, making the doors takes memory: there is at least one door.
abbrev pub HasDoors : ServeValue → Type 0
HasDoors s = 0 < length s.doors

-- With these values, making the settings takes memory: the number of tills and the price slot are in range, and making
-- the prices takes memory.
unfoldable pub TakesSettings : Typed → Type 0
TakesSettings d = IsOk (ranged (At Top key.Tills) 1 64 d.tills) × IsOk (ranged (At Top key.PriceSlot) 0 15 d.price_slot) × TakesPrices d.prices

-- With this document, reading the settings takes memory.
unfoldable pub TakesDocument : Members → Type 0
TakesDocument ms = TakesTyped ms ⊎ IsOkAnd (typed_of ms) TakesSettings

-- Definitions: the keys of a document, and the types of their values. If a key is unknown or missing, doesn't go
-- with the other keys, or has a value of a wrong type, the fault is K2.
use Rattle.std.specs.Prelude.{◌||◌, not, ◌+◌, ℕ, ℤ, pos, List, [], ◌∷◌, codes, Bool, true, false, Option, Some, None, Result, Ok, Err}
use Rattle.std.specs.Prelude.{option_map, is_some, if◌then◌else◌}
use Rattle.std.specs.Str.{bytes_eq}
use Rattle.toml.specs.Data.{Data, Items, Members, no_items, item, no_members, member, get_member, as_integer, as_str, as_array, as_table}
use Rattle.till_request.specs.declared.act.Stray.{Stray}
use Rattle.till_request.specs.declared.act.Stray.TheVariants as strays
use Rattle.site_config.specs.declared.flaw.ConfigFlaw.{ConfigFlaw}
use Rattle.site_config.specs.declared.flaw.ConfigFlaw.TheVariants.{UnknownKey, Missing, WrongType, BothThere, Needless}
use Rattle.site_config.specs.declared.flaw.«Type».TheVariants as types
use Rattle.site_config.specs.declared.flaw.Key.{Key}
use Rattle.site_config.specs.declared.flaw.Key.TheVariants as key
use Rattle.site_config.specs.declared.flaw.Section.{Section}
use Rattle.site_config.specs.declared.flaw.Section.TheVariants.{Top, Point, Serve, Till, Dispenser}
use Rattle.site_config.specs.declared.flaw.Section.TheVariants as sections
use Rattle.site_config.specs.declared.flaw.Place.{Place}
use Rattle.site_config.specs.declared.flaw.Place.TheVariants.{At, Item}
use Rattle.site_config.specs.declared.flaw.Place.TheVariants as places
use Rattle.site_config.specs.declared.flaw.Side.{Side}
use Rattle.site_config.specs.declared.flaw.Side.TheVariants as sides
use Rattle.site_config.specs.declared.raw.Raw.{Raw}
use Rattle.site_config.specs.declared.raw.Served.{Served}
use Rattle.site_config.specs.declared.raw.RawDoor.{RawDoor}
use Rattle.site_config.specs.declared.raw.RawAddress.TheVariants.{Port, Socket}
use Rattle.site_config.specs.declared.raw.RawRole.{RawRole}
use Rattle.site_config.specs.declared.raw.RawRole.TheVariants.{Tills, OneTill, Dispensers, SomePoints, Owner}
use Rattle.site_config.specs.Document.{or_flaw, demand, ◌>>=◌, with_front}
use Rattle.site_config.specs.declared.day_ends.TimeOfDay.{TimeOfDay}
use Rattle.arrayvec.specs.ArrayString.{ArrayString as Name}
use Rattle.site_config.specs.DayEnds.{minute_of, zone_in}
use Rattle.site_config.specs.Keys.{name_of}

-- Whether the top table of a document is allowed to have a key of this name. Below is the same for each other kind of
-- table. `is_serve_key` is for `[serve]`, and the three definitions before it list the ports, the sockets and the
-- numbers among the keys of `[serve]`.
unfoldable pub is_top_key : List ℕ → Bool
is_top_key k =
    bytes_eq k (codes "tills")
    || (bytes_eq k (codes "price_slot")
    || (bytes_eq k (codes "prices") || (bytes_eq k (codes "point") || (bytes_eq k (codes "counter") || bytes_eq k (codes "serve")))))

unfoldable pub is_point_key : List ℕ → Bool
is_point_key k = bytes_eq k (codes "release") || bytes_eq k (codes "preset")

unfoldable pub is_counter_key : List ℕ → Bool
is_counter_key k = bytes_eq k (codes "value") || bytes_eq k (codes "bound")

unfoldable pub is_port_key : List ℕ → Bool
is_port_key k =
    bytes_eq k (codes "till_port")
    || (bytes_eq k (codes "dispenser_port") || (bytes_eq k (codes "owner_port") || bytes_eq k (codes "page_port")))

unfoldable pub is_socket_key : List ℕ → Bool
is_socket_key k = bytes_eq k (codes "till_socket") || (bytes_eq k (codes "dispenser_socket") || bytes_eq k (codes "owner_socket"))

unfoldable pub is_number_key : List ℕ → Bool
is_number_key k =
    bytes_eq k (codes "till_workers")
    || (bytes_eq k (codes "dispenser_workers")
    || (bytes_eq k (codes "connections") || (bytes_eq k (codes "idle_seconds") || bytes_eq k (codes "lines_per_second"))))

unfoldable pub is_serve_key : List ℕ → Bool
is_serve_key k =
    is_port_key k
    || (is_socket_key k
    || (is_number_key k || (bytes_eq k (codes "till") || (bytes_eq k (codes "dispenser") || (bytes_eq k (codes "own_lines") || (bytes_eq k (codes "day_ends") || bytes_eq k (codes "zone")))))))

unfoldable pub is_till_key : List ℕ → Bool
is_till_key k =
    bytes_eq k (codes "number") || (bytes_eq k (codes "port") || (bytes_eq k (codes "socket") || bytes_eq k (codes "lines_per_second")))

unfoldable pub is_dispenser_key : List ℕ → Bool
is_dispenser_key k =
    bytes_eq k (codes "points") || (bytes_eq k (codes "port") || (bytes_eq k (codes "socket") || bytes_eq k (codes "lines_per_second")))

-- A table of this section is allowed to have a key of this name.
abbrev pub is_key_of : Section → List ℕ → Bool
is_key_of Top name = is_top_key name
is_key_of (Point place) name = is_point_key name
is_key_of (sections.Counter place) name = is_counter_key name
is_key_of Serve name = is_serve_key name
is_key_of (Till place) name = is_till_key name
is_key_of (Dispenser place) name = is_dispenser_key name

-- The first key of a table, in the table's order, that doesn't pass the test.
abbrev pub other_key : (List ℕ → Bool) → Members → Option (List ℕ)
other_key test no_members = None
other_key test (member k d ms) = if test k then other_key test ms else Some k

abbrev pub known_or : Section → Option (List ℕ) → Result (Unit {0}) ConfigFlaw
known_or section None = Ok tt
known_or section (Some name) = Err (UnknownKey section name)

-- Ok if a table of this section is allowed to have each key of `ms`, or else the flaw of the first key that it isn't
-- allowed to have.
abbrev pub known_in : Section → Members → Result (Unit {0}) ConfigFlaw
known_in section ms = known_or section (other_key (is_key_of section) ms)

-- The value `d` as a whole number, or the flaw `WrongType` with its place. Below: the same for a text, a table and an
-- array.
abbrev pub integer_of : Place → Data → Result ℤ ConfigFlaw
integer_of place d = or_flaw (WrongType place types.Integer) (as_integer d)

abbrev pub text_of : Place → Data → Result (List ℕ) ConfigFlaw
text_of place d = or_flaw (WrongType place types.Text) (as_str d)

abbrev pub table_of : Place → Data → Result Members ConfigFlaw
table_of place d = or_flaw (WrongType place types.Table) (as_table d)

abbrev pub array_of : Place → Data → Result Items ConfigFlaw
array_of place d = or_flaw (WrongType place types.Array) (as_array d)

-- The value of a key that is a whole number or "unlimited", by the value as a whole number and as a text: this number,
-- or None if it is the text "unlimited". Any other value, also another text, is of a wrong type.
abbrev pub limit_by : Place → Option ℤ → Option (List ℕ) → Result (Option ℤ) ConfigFlaw
limit_by place (Some z) text = Ok (Some z)
limit_by place None (Some text) = if bytes_eq text (codes "unlimited") then Ok None else Err (WrongType place types.IntegerOrUnlimited)
limit_by place None None = Err (WrongType place types.IntegerOrUnlimited)

abbrev pub limit_of : Place → Data → Result (Option ℤ) ConfigFlaw
limit_of place d = limit_by place (as_integer d) (as_str d)

-- What a stray line is told, by the value as a text: "L2" (`BadLine`) or "L5" (`OtherDoor`). Any other value, also
-- another text, is of a wrong type.
abbrev pub stray_by : Place → Option (List ℕ) → Result Stray ConfigFlaw
stray_by place (Some text) =
    if bytes_eq text (codes "L2") then Ok strays.BadLine
    else if bytes_eq text (codes "L5") then Ok strays.OtherDoor
    else Err (WrongType place types.L2OrL5)
stray_by place None = Err (WrongType place types.L2OrL5)

-- The value of a key of a section, or the flaw `Missing` if the key isn't given.
abbrev pub value_at : Section → Key → Members → Result Data ConfigFlaw
value_at section key ms = or_flaw (Missing (At section key)) (get_member (name_of key) ms)

abbrev pub integer_at : Section → Key → Members → Result ℤ ConfigFlaw
integer_at section key ms = value_at section key ms >>= integer_of (At section key)

abbrev pub limit_at : Section → Key → Members → Result (Option ℤ) ConfigFlaw
limit_at section key ms = value_at section key ms >>= limit_of (At section key)

-- A whole number that may be left out. If it is left out it is 0.
abbrev pub integer_or_0 : Place → Option Data → Result ℤ ConfigFlaw
integer_or_0 place None = Ok (pos 0)
integer_or_0 place (Some d) = integer_of place d

-- The value of a key that may be left out, as a whole number.
abbrev pub optional_at : Section → Key → Members → Result ℤ ConfigFlaw
optional_at section key ms = integer_or_0 (At section key) (get_member (name_of key) ms)

abbrev pub array_at : Section → Key → Members → Result Items ConfigFlaw
array_at section key ms = value_at section key ms >>= array_of (At section key)

-- Reads each item of an array with `one`. The first item has the place `place`, and each later one the next place. If
-- an item can't be read, the result is its flaw.
abbrev pub each_in : {A : Type 0} → (ℕ → Data → Result A ConfigFlaw) → ℕ → Items → Result (List A) ConfigFlaw
each_in one place no_items = Ok []
each_in one place (item d ds) = do
  x ← one place d
  xs ← each_in one (place + 1) ds
  Ok (x ∷ xs)

-- Reads an item of a key's list as a number. `place` is the item's place in the list, counted from 0.
abbrev pub integer_in : Section → Key → ℕ → Data → Result ℤ ConfigFlaw
integer_in section key place d = integer_of (Item section key place) d

unfoldable pub integers_at : Section → Key → Members → Result (List ℤ) ConfigFlaw
integers_at section key ms = array_at section key ms >>= each_in (integer_in section key) 0

-- Reads the numbers of two keys from `d`, the value at `place`. The result is a flaw in these cases:
-- - `d` isn't a table.
-- - The table has a key that a table of this section isn't allowed to have.
-- - One of the two keys isn't given, or its value isn't a whole number.
unfoldable pub pair_in : Place → Section → Key × Key → Data → Result (ℤ × ℤ) ConfigFlaw
pair_in place section keys d = do
  ms ← table_of place d
  known ← known_in section ms
  x ← integer_at section keys.0 ms
  y ← integer_at section keys.1 ms
  Ok (x, y)

unfoldable pub point_in : ℕ → Data → Result (ℤ × ℤ) ConfigFlaw
point_in place d = pair_in (Item Top key.Point place) (Point place) (key.Release, key.Preset) d

unfoldable pub counter_in : ℕ → Data → Result (ℤ × ℤ) ConfigFlaw
counter_in place d = pair_in (places.Counter place) (sections.Counter place) (key.Value, key.Bound) d

unfoldable pub points_at : Members → Result (List (ℤ × ℤ)) ConfigFlaw
points_at ms = array_at Top key.Point ms >>= each_in point_in 0

abbrev pub counters_from : Option Data → Result (List (ℤ × ℤ)) ConfigFlaw
counters_from None = Ok []
counters_from (Some d) = array_of (At Top key.Counter) d >>= each_in counter_in 0

unfoldable pub counters_at : Members → Result (List (ℤ × ℤ)) ConfigFlaw
counters_at ms = counters_from (get_member (codes "counter") ms)

-- A table has a value at this key.
abbrev pub has_key : Key → Members → Bool
has_key key ms = is_some (get_member (name_of key) ms)

-- A door that has a port or a socket, and no bound of its own on its lines. The two optional values are those of the
-- port's key and of the socket's key, and `port` and `socket` are their places. Exactly one of the two values must be
-- given, and its place is the door's place.
abbrev pub door_by : Place → Place → RawRole → Option Data → Option Data → Result RawDoor ConfigFlaw
door_by port socket role (Some d) None = do
  z ← integer_of port d
  Ok (record { place = port; address = Port z; role = role; lines_per_second = None })
door_by port socket role None (Some d) = do
  path ← text_of socket d
  Ok (record { place = socket; address = Socket path; role = role; lines_per_second = None })
door_by port socket role None None = Err (Missing port)
door_by port socket role (Some x) (Some y) = Err (BothThere port socket)

unfoldable pub door_at : Section → Key × Key → RawRole → Members → Result RawDoor ConfigFlaw
door_at section keys role ms =
    door_by (At section keys.0) (At section keys.1) role (get_member (name_of keys.0) ms) (get_member (name_of keys.1) ms)

-- The key of the port, or the key of the socket, of a shared door (of all tills, or of all dispensers) is given.
abbrev pub has_shared : Key × Key → Members → Bool
has_shared keys ms = has_key keys.0 ms || has_key keys.1 ms

-- The shared door (of all tills, or of all dispensers) as a list. The first argument says whether the key of this
-- door's port or of its socket is given.
-- - If so, the list has this door alone, or the result is the flaw of reading this door.
-- - If not, the list is empty, or the result is the flaw `Missing` if `tables` isn't given. `tables` is the key of the
--   doors that aren't shared (of single tills, or of some points). Its value isn't checked here.
abbrev pub shared_if : Bool → Key × Key → Key → RawRole → Members → Result (List RawDoor) ConfigFlaw
shared_if true keys tables role ms = do
  door ← door_at Serve keys role ms
  Ok (door ∷ [])
shared_if false keys tables role ms = do
  some ← demand (Missing (At Serve keys.0)) (has_key tables ms)
  Ok []

unfoldable pub shared_at : Key × Key → Key → RawRole → Members → Result (List RawDoor) ConfigFlaw
shared_at keys tables role ms = shared_if (has_shared keys ms) keys tables role ms

-- How many workers a shared door (of all tills, or of all dispensers) has, or None if there is no such door. The first
-- argument says whether there is such a door. If so, `key` must be given. If not, `key` must not be given.
abbrev pub workers_if : Bool → Key × Key → Key → Members → Result (Option ℤ) ConfigFlaw
workers_if true keys key ms = do
  z ← integer_at Serve key ms
  Ok (Some z)
workers_if false keys key ms = do
  absent ← demand (Needless (At Serve key) (At Serve keys.0) (At Serve keys.1)) (not (has_key key ms))
  Ok None

unfoldable pub workers_at : Key × Key → Key → Members → Result (Option ℤ) ConfigFlaw
workers_at keys key ms = workers_if (has_shared keys ms) keys key ms

-- A door in a table of its own: how many lines are read at it in a second is a key of this table.
unfoldable pub own_door_at : Section → RawRole → Members → Result RawDoor ConfigFlaw
own_door_at section role ms = do
  door ← door_at section (key.Port, key.Socket) role ms
  lines ← optional_at section key.LinesPerSecond ms
  Ok (record { place = door.place; address = door.address; role = door.role; lines_per_second = Some lines })

-- Reads a table as the door of one till (`till_in`) or of some points (`dispenser_in`). `place` is the table's place,
-- counted from 0.
unfoldable pub till_in : ℕ → Data → Result RawDoor ConfigFlaw
till_in place d = do
  ms ← table_of (Item Serve key.Till place) d
  known ← known_in (Till place) ms
  z ← integer_at (Till place) key.Number ms
  own_door_at (Till place) (OneTill z) ms

unfoldable pub dispenser_in : ℕ → Data → Result RawDoor ConfigFlaw
dispenser_in place d = do
  ms ← table_of (Item Serve key.Dispenser place) d
  known ← known_in (Dispenser place) ms
  zs ← integers_at (Dispenser place) key.Points ms
  own_door_at (Dispenser place) (SomePoints zs) ms

-- Reads a table as the door of one till, if the side is tills, or as the door of some points, if the side is
-- dispensers.
abbrev pub single_in : Side → ℕ → Data → Result RawDoor ConfigFlaw
single_in sides.Tills = till_in
single_in sides.Dispensers = dispenser_in

-- The doors in the tables at the key `key` of `[serve]`. `one` reads each table as a door. If the key isn't given, the
-- list is empty.
abbrev pub tables_from : (ℕ → Data → Result RawDoor ConfigFlaw) → Key → Option Data → Result (List RawDoor) ConfigFlaw
tables_from one key None = Ok []
tables_from one key (Some d) = array_of (At Serve key) d >>= each_in one 0

unfoldable pub tills_at : Members → Result (List RawDoor) ConfigFlaw
tills_at ms = tables_from till_in key.Till (get_member (codes "till") ms)

unfoldable pub dispensers_at : Members → Result (List RawDoor) ConfigFlaw
dispensers_at ms = tables_from dispenser_in key.Dispenser (get_member (codes "dispenser") ms)

unfoldable pub owner_at : Members → Result (List RawDoor) ConfigFlaw
owner_at ms = do
  door ← door_at Serve (key.OwnerPort, key.OwnerSocket) Owner ms
  Ok (door ∷ [])

-- All doors in their order: the shared door of all tills, the doors of single tills, the shared door of all dispensers,
-- the doors of some points, the owner's door.
unfoldable pub doors_at : Members → Result (List RawDoor) ConfigFlaw
doors_at ms = do
  shared ← shared_at (key.TillPort, key.TillSocket) key.Till Tills ms
  tills ← with_front shared (tills_at ms)
  both ← with_front tills (shared_at (key.DispenserPort, key.DispenserSocket) key.Dispenser Dispensers ms)
  dispensers ← with_front both (dispensers_at ms)
  with_front dispensers (owner_at ms)

-- The port of the page on which the site is shown while it is served, or None if the key is left out.
abbrev pub page_from : Option Data → Result (Option ℤ) ConfigFlaw
page_from None = Ok None
page_from (Some d) = do
  z ← integer_of (At Serve key.PagePort) d
  Ok (Some z)

-- What a stray line is told at the doors of one till or of some points: `BadLine`, if the key is left out.
abbrev pub own_lines_from : Option Data → Result Stray ConfigFlaw
own_lines_from None = Ok strays.BadLine
own_lines_from (Some d) = stray_by (At Serve key.OwnLines) (as_str d)

-- The minute of the day at which a day ends, or None if the key is left out. If its text is no time, this is Some None.
abbrev pub day_ends_from : Option Data → Result (Option (Option ℕ)) ConfigFlaw
day_ends_from None = Ok None
day_ends_from (Some d) = do
  text ← text_of (At Serve key.DayEnds) d
  Ok (Some (minute_of text))

-- The zone in which a day ends at its time, or None if the key is left out. If its text can't be a zone's name, this is
-- Some None.
abbrev pub zone_from : Option Data → Result (Option (Option (List ℕ))) ConfigFlaw
zone_from None = Ok None
zone_from (Some d) = do
  text ← text_of (At Serve key.Zone) d
  Ok (Some (zone_in text))

-- The values of the keys of `[serve]`. `till_workers` is None if there is no shared door of all tills, and
-- `dispenser_workers` is None if there is no shared door of all dispensers. `connections` is None if it is "unlimited".
-- `page_port` is None if there is no page on which the site is shown. `lines_per_second` is for the doors without a table
-- of their own, and `own_lines` for those of one till or of some points. `day_ends` is None if days end at no time, and
-- Some None if its text is no time; `zone` is None if none is named, and Some None if its text can't be a zone's name.
pub record TypedServe : Type 0 where
  pub doors : List RawDoor
  pub till_workers : Option ℤ
  pub dispenser_workers : Option ℤ
  pub connections : Option ℤ
  pub idle_seconds : ℤ
  pub page_port : Option ℤ
  pub lines_per_second : ℤ
  pub own_lines : Stray
  pub day_ends : Option (Option ℕ)
  pub zone : Option (Option (List ℕ))

unfoldable pub served_in : Data → Result TypedServe ConfigFlaw
served_in d = do
  ms ← table_of (At Top key.Serve) d
  known ← known_in Serve ms
  doors ← doors_at ms
  t ← workers_at (key.TillPort, key.TillSocket) key.TillWorkers ms
  w ← workers_at (key.DispenserPort, key.DispenserSocket) key.DispenserWorkers ms
  n ← limit_at Serve key.Connections ms
  i ← optional_at Serve key.IdleSeconds ms
  p ← page_from (get_member (codes "page_port") ms)
  lines ← optional_at Serve key.LinesPerSecond ms
  own ← own_lines_from (get_member (codes "own_lines") ms)
  ends ← day_ends_from (get_member (codes "day_ends") ms)
  zone ← zone_from (get_member (codes "zone") ms)
  Ok (record {
    doors = doors;
    till_workers = t;
    dispenser_workers = w;
    connections = n;
    idle_seconds = i;
    page_port = p;
    lines_per_second = lines;
    own_lines = own;
    day_ends = ends;
    zone = zone;
  })

abbrev pub served_from : Option Data → Result (Option TypedServe) ConfigFlaw
served_from None = Ok None
served_from (Some d) = do
  s ← served_in d
  Ok (Some s)

unfoldable pub served_at : Members → Result (Option TypedServe) ConfigFlaw
served_at ms = served_from (get_member (codes "serve") ms)

-- The values of the keys of a document.
pub record Typed : Type 0 where
  pub tills : ℤ
  pub price_slot : ℤ
  pub prices : List ℤ
  pub points : List (ℤ × ℤ)
  pub counters : List (ℤ × ℤ)
  pub serve : Option TypedServe

-- The values of the keys of a document, or its first flaw in the keys or the types of their values (K2).
unfoldable pub typed_of : Members → Result Typed ConfigFlaw
typed_of ms = do
  known ← known_in Top ms
  tills ← integer_at Top key.Tills ms
  slot ← integer_at Top key.PriceSlot ms
  prices ← integers_at Top key.Prices ms
  points ← points_at ms
  counters ← counters_at ms
  serve ← served_at ms
  Ok (record { tills = tills; price_slot = slot; prices = prices; points = points; counters = counters; serve = serve })

-- The code's `Served` as a `TypedServe`. Below: the code's `Raw` as a `Typed`.
abbrev pub seen_serve : Served → TypedServe
seen_serve s = record {
  doors = s.doors.items;
  till_workers = s.till_workers;
  dispenser_workers = s.dispenser_workers;
  connections = s.connections;
  idle_seconds = s.idle_seconds;
  page_port = s.page_port;
  lines_per_second = s.lines_per_second;
  own_lines = s.own_lines;
  day_ends = option_map (option_map (λ (t : TimeOfDay). t.minute)) s.day_ends;
  zone = option_map (option_map (λ (name : Name). name.bytes)) s.zone;
}

abbrev pub seen : Raw → Typed
seen r = record {
  tills = r.tills;
  price_slot = r.price_slot;
  prices = r.prices.items;
  points = r.points.items;
  counters = r.counters.items;
  serve = option_map seen_serve r.serve;
}

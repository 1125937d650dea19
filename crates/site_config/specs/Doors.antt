-- Definitions: the doors of a served site, and what their values must be. If a value is out of its range, a list has a
-- wrong length, or another condition isn't met, the fault is K3.
use Rattle.std.specs.Prelude.{◌==◌, not, ◌+◌, ◌-◌, ◌/◌, ◌%◌, ◌^◌, nat_le, bit_or, ℕ, zero, suc, ℤ, pos, List, [], ◌∷◌, length, map, Bool, true, false}
use Rattle.std.specs.Prelude.{Option, Some, None, option_map, Result, Ok, string_bytes, if◌then◌else◌}
use Rattle.std.specs.Ordering.{int_eq}
use Rattle.std.specs.List.{list_any}
use Rattle.std.specs.Str.{bytes_eq}
use Rattle.till_request.specs.declared.act.Role.{Role}
use Rattle.till_request.specs.declared.act.Role.TheVariants as roles
use Rattle.till_request.specs.declared.act.Stray.{Stray}
use Rattle.till_request.specs.declared.act.Stray.TheVariants as strays
use Rattle.site_config.specs.declared.flaw.ConfigFlaw.{ConfigFlaw}
use Rattle.site_config.specs.declared.flaw.ConfigFlaw.TheVariants.{Empty, SamePort, SameSocket, SameTill, WrongCount, PointTwice, TooManyWorkers, WithoutDoor}
use Rattle.site_config.specs.declared.flaw.Key.{Key}
use Rattle.site_config.specs.declared.flaw.Key.TheVariants as key
use Rattle.site_config.specs.declared.flaw.Section.TheVariants.{Serve as OfServe}
use Rattle.site_config.specs.declared.flaw.Place.{Place}
use Rattle.site_config.specs.declared.flaw.Place.TheVariants.{At, Item}
use Rattle.site_config.specs.declared.flaw.Side.{Side}
use Rattle.site_config.specs.declared.flaw.Side.TheVariants as sides
use Rattle.site_config.specs.declared.doors.DoorCounts.{DoorCounts}
use Rattle.site_config.specs.declared.raw.RawDoor.{RawDoor}
use Rattle.site_config.specs.declared.raw.RawAddress.{RawAddress}
use Rattle.site_config.specs.declared.raw.RawAddress.TheVariants.{Port, Socket}
use Rattle.site_config.specs.declared.raw.RawRole.{RawRole}
use Rattle.site_config.specs.declared.raw.RawRole.TheVariants.{Tills, OneTill, Dispensers, SomePoints, Owner}
use Rattle.site_config.specs.declared.settings.Address.{Address}
use Rattle.site_config.specs.declared.settings.Address.TheVariants as addresses
use Rattle.site_config.specs.declared.settings.Door.{Door}
use Rattle.site_config.specs.declared.settings.Serve.{Serve}
use Rattle.site_config.specs.Document.{◌>>=◌, demand, without, first_of}
use Rattle.site_config.specs.Demands.{ranged}
use Rattle.site_config.specs.Typed.{TypedServe}
use Rattle.site_config.specs.declared.day_ends.TimeOfDay.{TimeOfDay}
use Rattle.arrayvec.specs.ArrayString.{ArrayString as Name}
use Rattle.site_config.specs.DayEnds.{day_ends_of, zone_of}

-- Where connections come in: a port of 127.0.0.1, or the text of a local socket's path.
pub data AddressValue : Type 0 where
  port : ℕ → AddressValue
  socket : List ℕ → AddressValue

-- A door:
-- - `place`: the place of its address in the configuration
-- - `address`: its address
-- - `role`: whose lines it takes
-- - `workers`: how many workers it has
-- - `lines_per_second`: how many lines are read at it in a second at most, from all its connections together (0 for no
--   bound)
pub record DoorValue : Type 0 where
  pub place : Place
  pub address : AddressValue
  pub role : Role
  pub workers : ℕ
  pub lines_per_second : ℕ

-- Where and how to serve: the doors in their order, how many connections each worker serves (None for connections
-- without end), after how many seconds without a byte a connection ends (0 for never), the port of the page on which
-- the site is shown, if there is one, the minute of the day at which a day ends, if it ends at a time, and the zone in
-- which that is, if one is named.
pub record ServeValue : Type 0 where
  pub doors : List DoorValue
  pub connections : Option ℕ
  pub idle_seconds : ℕ
  pub page_port : Option ℕ
  pub day_ends : Option ℕ
  pub zone : Option (List ℕ)

-- The place of `key` in the same table as the key at `place`. If `place` isn't the place of a key, the result is
-- `place` itself.
abbrev pub sibling_key : Place → Key → Place
sibling_key (At section other) key = At section key
sibling_key place key = place

-- The place of item `n`, counted from 0, of the list at `place`. If `place` isn't the place of a key, the result is
-- `place` itself.
abbrev pub item_of : Place → ℕ → Place
item_of (At section key) n = Item section key n
item_of place n = place

-- The checked address, or a flaw if a port isn't from 1 to 65,535 or a path is empty.
unfoldable pub address_of : Place → RawAddress → Result AddressValue ConfigFlaw
address_of place (Port z) = do
  n ← ranged place 1 65535 z
  Ok (port n)
address_of place (Socket path) = do
  some ← demand (Empty place) (not (length path == 0))
  Ok (socket path)

-- Adds the point `z` to the points in `bits`: point p is bit p - 1. The result is a flaw if the point isn't from 1 to
-- `points`, or is in `bits` already. `place` is its place in the list at `list`, counted from 0.
unfoldable pub with_point : Place → ℕ → ℕ → ℕ → ℤ → Result ℕ ConfigFlaw
with_point list place points bits z = do
  p ← ranged (item_of list place) 1 points z
  new ← demand (PointTwice list p) (bits / 2 ^ (p - 1) % 2 == 0)
  Ok (bit_or bits (2 ^ (p - 1)))

abbrev pub with_points : Place → ℕ → ℕ → ℕ → List ℤ → Result ℕ ConfigFlaw
with_points list place points bits [] = Ok bits
with_points list place points bits (z ∷ zs) = do
  more ← with_point list place points bits z
  with_points list (place + 1) points more zs

-- The points in the list at `list`, as bits (point p is bit p - 1). The result is a flaw if the list is empty, has a
-- point twice, or has a point that isn't from 1 to `points`.
unfoldable pub bits_of : Place → ℕ → List ℤ → Result ℕ ConfigFlaw
bits_of list points zs = do
  some ← demand (WrongCount list 0 1 points) (not (length zs == 0))
  with_points list 0 points 0 zs

-- The role of a door (whose lines it takes), at a site that has tills 1 to `tills` and points 1 to `points`. The result
-- is a flaw if the door is for a till that the site doesn't have, or for a list of points that is empty, has a point
-- twice, or has a point that the site doesn't have. `place` is where the configuration has the door's address.
unfoldable pub role_of : ℕ → ℕ → Place → RawRole → Result Role ConfigFlaw
role_of tills points place Tills = Ok roles.Till
role_of tills points place (OneTill z) = do
  n ← ranged (sibling_key place key.Number) 1 tills z
  Ok (roles.OneTill n strays.BadLine)
role_of tills points place Dispensers = Ok roles.Dispenser
role_of tills points place (SomePoints zs) = do
  bits ← bits_of (sibling_key place key.Points) points zs
  Ok (roles.SomePoints bits strays.BadLine)
role_of tills points place Owner = Ok roles.Owner

-- The role of a door's sessions: that of the door, and what a stray line is told at a door of one till or of some
-- points.
abbrev pub telling : Stray → Role → Role
telling stray (roles.OneTill n other) = roles.OneTill n stray
telling stray (roles.SomePoints bits other) = roles.SomePoints bits stray
telling stray role = role

-- Ok if the address is a port of 1 to 65,535 or a path that isn't empty, or else the flaw.
unfoldable pub address_fits : Place → RawAddress → Result (Unit {0}) ConfigFlaw
address_fits place address = do
  a ← address_of place address
  Ok tt

-- How many lines are read at a door in a second at most (0 for no bound): the number in the door's own table, which must
-- be from 0 to 1,000,000, or `shared`, the number of `[serve]`, if the door has no table of its own. `place` is where the
-- configuration has the door's address.
abbrev pub lines_of : ℕ → Place → Option ℤ → Result ℕ ConfigFlaw
lines_of shared place None = Ok shared
lines_of shared place (Some z) = ranged (sibling_key place key.LinesPerSecond) 0 1000000 z

-- Ok if the door's address, its role and the bound on its lines have no flaw, or else the first flaw. They are checked
-- in this order.
unfoldable pub door_fits : ℕ → ℕ → RawDoor → Result (Unit {0}) ConfigFlaw
door_fits tills points d = do
  a ← address_of d.place d.address
  r ← role_of tills points d.place d.role
  l ← lines_of 0 d.place d.lines_per_second
  Ok tt

abbrev pub doors_fit : ℕ → ℕ → List RawDoor → Result (Unit {0}) ConfigFlaw
doors_fit tills points [] = Ok tt
doors_fit tills points (d ∷ ds) = do
  fits ← door_fits tills points d
  doors_fit tills points ds

-- The flaw `SamePort` or `SameSocket` if two doors have the same port, or paths with the same text. Otherwise None.
-- `first` and `second` are the places of the addresses.
abbrev pub address_clash : Place → Place → RawAddress → RawAddress → Option ConfigFlaw
address_clash first second (Port y) (Port z) = if int_eq y z then Some (SamePort first second y) else None
address_clash first second (Socket p) (Socket q) = if bytes_eq p q then Some (SameSocket first second) else None
address_clash first second (Port y) (Socket q) = None
address_clash first second (Socket p) (Port z) = None

-- The flaw `SameTill` if both doors are for the same single till. Otherwise None. `first` and `second` are the places
-- of the doors' addresses.
abbrev pub till_clash : Place → Place → RawRole → RawRole → Option ConfigFlaw
till_clash first second (OneTill y) (OneTill z) = if int_eq y z then Some (SameTill first second y) else None
till_clash first second a b = None

abbrev pub pair_clash : RawDoor → RawDoor → Option ConfigFlaw
pair_clash d e = first_of (address_clash d.place e.place d.address e.address) (till_clash d.place e.place d.role e.role)

abbrev pub clash_with : RawDoor → List RawDoor → Option ConfigFlaw
clash_with d [] = None
clash_with d (e ∷ es) = first_of (pair_clash d e) (clash_with d es)

-- The flaw of the first two doors that have the same address, or are for the same single till. None if all doors have
-- different addresses, and each till has at most one door of its own.
abbrev pub clash_among : List RawDoor → Option ConfigFlaw
clash_among [] = None
clash_among (d ∷ ds) = first_of (clash_with d ds) (clash_among ds)

-- The flaw of the first door whose port is `z`, the port of the page on which the site is shown. None if no door has
-- this port.
abbrev pub page_clash : ℤ → List RawDoor → Option ConfigFlaw
page_clash z [] = None
page_clash z (d ∷ ds) = first_of (address_clash d.place (At OfServe key.PagePort) d.address (Port z)) (page_clash z ds)

-- How many connections each worker serves, from 1 to 1,000,000, or None for connections without end.
abbrev pub connections_of : Option ℤ → Result (Option ℕ) ConfigFlaw
connections_of None = Ok None
connections_of (Some z) = do
  n ← ranged (At OfServe key.Connections) 1 1000000 z
  Ok (Some n)

-- The port of the page on which the site is shown, or None if there is no page. It must be from 1 to 65,535, which is
-- checked first, and must not be a door's port.
unfoldable pub page_of : List RawDoor → Option ℤ → Result (Option ℕ) ConfigFlaw
page_of ds None = Ok None
page_of ds (Some z) = do
  n ← ranged (At OfServe key.PagePort) 1 65535 z
  apart ← without (page_clash z ds)
  Ok (Some n)

-- How many workers a shared door (of all tills, or of all dispensers) has: the value of `key`, which must be from 1 to
-- `most`, or 0 if there is no such door.
abbrev pub shared_workers : Key → ℕ → Option ℤ → Result ℕ ConfigFlaw
shared_workers key most None = Ok 0
shared_workers key most (Some z) = ranged (At OfServe key) 1 most z

-- How many workers a door of this role has: `till_workers` at the door of all tills, `dispenser_workers` at the door of
-- all dispensers, and 1 at any other door.
abbrev pub workers_of : ℕ → ℕ → RawRole → ℕ
workers_of till_workers dispenser_workers Tills = till_workers
workers_of till_workers dispenser_workers Dispensers = dispenser_workers
workers_of till_workers dispenser_workers role = 1

-- For tills: whether a door of this role is for one till. For dispensers: whether it is for some points only.
abbrev pub is_single : Side → RawRole → Bool
is_single sides.Tills (OneTill z) = true
is_single sides.Dispensers (SomePoints zs) = true
is_single side role = false

-- For tills: how many doors are for one till each. For dispensers: how many doors are for some points only.
abbrev pub count_single : Side → List RawDoor → ℕ
count_single side [] = 0
count_single side (d ∷ ds) = (if is_single side d.role then 1 else 0) + count_single side ds

-- For tills: whether a door of this role takes the lines of till `n`. For dispensers: whether it takes the dispensers'
-- lines that name point `n`.
abbrev pub takes : Side → ℕ → RawRole → Bool
takes sides.Tills n Tills = true
takes sides.Tills n (OneTill z) = int_eq z (pos n)
takes sides.Dispensers n Dispensers = true
takes sides.Dispensers n (SomePoints zs) = list_any (λ z. int_eq z (pos n)) zs
takes side n role = false

-- For tills: whether some door takes the lines of till `n`. For dispensers: whether some door takes the dispensers'
-- lines that name point `n`.
abbrev pub is_taken : Side → List RawDoor → ℕ → Bool
is_taken side ds n = list_any (λ d. takes side n d.role) ds

-- The flaw `WithoutDoor` for the lowest number, from 1 to the last argument, of a till (for tills) or a point (for
-- dispensers) without a door. None if each has a door. A till has a door if some door takes the till's lines. A point
-- has a door if some door takes the dispensers' lines that name the point.
abbrev pub first_without_door : Side → List RawDoor → ℕ → Option ConfigFlaw
first_without_door side ds zero = None
first_without_door side ds (suc n) = first_of (first_without_door side ds n) (if is_taken side ds (suc n) then None else Some (WithoutDoor side (suc n)))

-- Checks the doors of tills, or those of dispensers. They must have at most `most` workers in all: `shared` at the
-- shared door of all tills or of all dispensers (0 if there is no such door), and one at each door for one till or for
-- some points. For each number from 1 to `n`, some door must take the lines of the till with this number, or the
-- dispensers' lines that name the point with this number.
unfoldable pub side_fits : Side → ℕ → ℕ → ℕ → List RawDoor → Result (Unit {0}) ConfigFlaw
side_fits side shared most n ds = do
  few ← demand (TooManyWorkers side (shared + count_single side ds) most) (nat_le (shared + count_single side ds) most)
  without (first_without_door side ds n)

unfoldable pub door_of : DoorCounts → RawDoor → Result DoorValue ConfigFlaw
door_of counts d = do
  a ← address_of d.place d.address
  r ← role_of counts.tills counts.points d.place d.role
  l ← lines_of counts.lines_per_second d.place d.lines_per_second
  Ok (record {
    place = d.place;
    address = a;
    role = telling counts.own_lines r;
    workers = workers_of counts.till_workers counts.dispenser_workers d.role;
    lines_per_second = l;
  })

abbrev pub each_door : (RawDoor → Result DoorValue ConfigFlaw) → List RawDoor → Result (List DoorValue) ConfigFlaw
each_door one [] = Ok []
each_door one (d ∷ ds) = do
  x ← one d
  xs ← each_door one ds
  Ok (x ∷ xs)

-- Where and how to serve a site of this many tills and points, or the first flaw. The checks come in this order:
-- - each door's address, its role, and the bound on its lines in its own table
-- - clashes among the doors
-- - the numbers of `[serve]`
-- - the page's port
-- - the time at which a day ends, and its zone
-- - the doors of tills: how many workers they have in all, and whether each till has a door
-- - the doors of dispensers: how many workers they have in all, and whether each point has a door
unfoldable pub serve_of : ℕ → ℕ → TypedServe → Result ServeValue ConfigFlaw
serve_of tills points s = do
  fit ← doors_fit tills points s.doors
  apart ← without (clash_among s.doors)
  t ← shared_workers key.TillWorkers 64 s.till_workers
  w ← shared_workers key.DispenserWorkers 31 s.dispenser_workers
  n ← connections_of s.connections
  i ← ranged (At OfServe key.IdleSeconds) 0 86400 s.idle_seconds
  l ← ranged (At OfServe key.LinesPerSecond) 0 1000000 s.lines_per_second
  p ← page_of s.doors s.page_port
  e ← day_ends_of s.day_ends
  zone ← zone_of s.zone
  of_tills ← side_fits sides.Tills t 64 tills s.doors
  of_dispensers ← side_fits sides.Dispensers w 31 points s.doors
  doors ← each_door
      (door_of (record { tills = tills; points = points; till_workers = t; dispenser_workers = w; lines_per_second = l; own_lines = s.own_lines })) s.doors
  Ok (record { doors = doors; connections = n; idle_seconds = i; page_port = p; day_ends = e; zone = zone })

-- The code's `Address` as an `AddressValue`. Below: the code's `Door` as a `DoorValue`, and the code's `Serve` as a
-- `ServeValue`.
abbrev pub address_seen : Address → AddressValue
address_seen (addresses.Port n) = port n
address_seen (addresses.Socket path) = socket (string_bytes path)

abbrev pub door_seen : Door → DoorValue
door_seen d = record {
  place = d.place;
  address = address_seen d.address;
  role = d.role;
  workers = d.workers;
  lines_per_second = d.lines_per_second;
}

abbrev pub serve_seen : Serve → ServeValue
serve_seen s = record {
  doors = map door_seen s.doors.items;
  connections = s.connections;
  idle_seconds = s.idle_seconds;
  page_port = s.page_port;
  day_ends = option_map (λ (t : TimeOfDay). t.minute) s.day_ends;
  zone = option_map (λ (name : Name). name.bytes) s.zone;
}

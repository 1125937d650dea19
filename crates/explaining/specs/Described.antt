-- Definitions: what a rule is run on that words describe, as settings of fields: its context, what its helpers look up,
-- and the counters (source: this project). What isn't set follows from what is, or is 0.
use Rattle.std.specs.Prelude.{◌+◌, ◌-◌, ◌==◌, ◌&&◌, ℕ, nat_le, nat_lt, max, length, List, [], Option, Some, None, unwrap_or, if◌then◌else◌, fold, take, drop, ◌++◌, replicate}
use Rattle.std.specs.Prelude.{slice_index_or, slice_set}
use Rattle.std.specs.Int.{to_le_bytes, w32, w64}
use Rattle.bpf_model.specs.Machine.{no_point}
use Rattle.bpf_model.specs.declared.context.Layout.{Layout}
use Rattle.bpf_model.specs.declared.context.Layout.TheVariants as layout
use Rattle.bpf_model.specs.declared.context.Context.{Context}
use Rattle.bpf_model.specs.declared.context.Context.TheVariants as context
use Rattle.bpf_model.specs.declared.machine.View.{View}
use Rattle.bpf_model.specs.declared.machine.PointView.{PointView}
use Rattle.explaining.specs.declared.names.Name.{Name}
use Rattle.explaining.specs.declared.names.Name.TheVariants.{Till, Point, Kind, State, Nozzle, Product, Asked, Moment, Price, BusyPoints, Unpaid, Slot, Cleared, Clears, OpenPoints}
use Rattle.explaining.specs.declared.names.Name.TheVariants.{Counter, PointState, PointNozzle, PointAmount, PriceOf}
use Rattle.explaining.specs.declared.names.Setting.{Setting}
use Rattle.explaining.specs.declared.request.Given.{Given}
use Rattle.explaining.specs.declared.request.Fields.{Fields}

abbrev pub nothing_given : Given
nothing_given = record {
  till = None;
  point = None;
  kind = None;
  state = None;
  nozzle = None;
  product = None;
  asked = None;
  moment = None;
  price = None;
  busy_points = None;
  unpaid = None;
  slot = None;
  cleared = None;
  clears = None;
  open_points = None;
}

abbrev pub given_field : Given → Name → ℕ → Given
given_field g Till n = record g { till = Some n }
given_field g Point n = record g { point = Some n }
given_field g Kind n = record g { kind = Some n }
given_field g State n = record g { state = Some n }
given_field g Nozzle n = record g { nozzle = Some n }
given_field g Product n = record g { product = Some n }
given_field g Asked n = record g { asked = Some n }
given_field g Moment n = record g { moment = Some n }
given_field g Price n = record g { price = Some n }
given_field g BusyPoints n = record g { busy_points = Some n }
given_field g Unpaid n = record g { unpaid = Some n }
given_field g Slot n = record g { slot = Some n }
given_field g Cleared n = record g { cleared = Some n }
given_field g Clears n = record g { clears = Some n }
given_field g OpenPoints n = record g { open_points = Some n }
given_field g (Counter c) n = g
given_field g (PointState p) n = g
given_field g (PointNozzle p) n = g
given_field g (PointAmount p) n = g
given_field g (PriceOf p) n = g

abbrev pub with_given : Given → Setting → Given
with_given g s = given_field g s.name s.number

-- the fields of the context that are set
abbrev pub given_by : List Setting → Given
given_by settings = fold with_given nothing_given settings

-- the number, or the largest of 32 bits
abbrev pub small : ℕ → ℕ
small n = if nat_lt n 4294967296 then n else 4294967295

abbrev pub number_or : Option ℕ → ℕ → ℕ
number_or (Some n) other = small n
number_or None other = other

abbrev pub point_in : List PointView → ℕ → PointView
point_in points n = if nat_le 1 n && nat_le n 32 then slice_index_or points (n - 1) no_point else no_point

abbrev pub put_point : List PointView → ℕ → PointView → List PointView
put_point points n point = if nat_le 1 n && nat_le n 32 then slice_set points (n - 1) point else points

abbrev pub point_field : List PointView → Name → ℕ → List PointView
point_field points (PointState p) n = put_point points p (record (point_in points p) { state = small n })
point_field points (PointNozzle p) n = put_point points p (record (point_in points p) { nozzle = small n })
point_field points (PointAmount p) n = put_point points p (record (point_in points p) { amount = n })
point_field points _ n = points

abbrev pub with_point : List PointView → Setting → List PointView
with_point points s = point_field points s.name s.number

-- the points with what is set of them
abbrev pub points_from : List PointView → List Setting → List PointView
points_from points settings = fold with_point points settings

abbrev pub price_in : List ℕ → ℕ → ℕ
price_in prices n = if nat_le 1 n && nat_le n 8 then slice_index_or prices (n - 1) 0 else 0

abbrev pub put_price : List ℕ → ℕ → ℕ → List ℕ
put_price prices n price = if nat_le 1 n && nat_le n 8 then slice_set prices (n - 1) price else prices

abbrev pub price_field : List ℕ → Name → ℕ → List ℕ
price_field prices (PriceOf p) n = put_price prices p (small n)
price_field prices _ n = prices

abbrev pub with_price : List ℕ → Setting → List ℕ
with_price prices s = price_field prices s.name s.number

-- the prices with those that are set
abbrev pub prices_from : List ℕ → List Setting → List ℕ
prices_from prices settings = fold with_price prices settings

-- The numbers of the context's fields. The till and the kind are 1 where they aren't set, and the point is 1, or 0 for a
-- price (kind 3). State and nozzle are those that are set of the point; the product is the nozzle's; the price is the
-- one that is set of the product.
abbrev pub fields_of : List Setting → Fields
fields_of settings =
    let given = given_by settings in
    let kind = number_or given.kind 1 in
    let point = number_or given.point (if kind == 3 then 0 else 1) in
    let own = point_in (points_from (replicate 32 no_point) settings) point in
    let nozzle = number_or given.nozzle own.nozzle in
    let product = number_or given.product nozzle in
    record {
      till = number_or given.till 1;
      point = point;
      kind = kind;
      state = number_or given.state own.state;
      nozzle = nozzle;
      product = product;
      asked = unwrap_or given.asked 0;
      moment = unwrap_or given.moment 0;
      price = number_or given.price (price_in (prices_from (replicate 8 0) settings) product);
      busy_points = number_or given.busy_points 0;
      unpaid = number_or given.unpaid 0;
      slot = number_or given.slot 0;
      cleared = unwrap_or given.cleared 0;
      clears = unwrap_or given.clears 0;
      open_points = number_or given.open_points 0;
    }

-- the bytes with a part written over them
abbrev pub put_bytes : ℕ → List ℕ → List ℕ → List ℕ
put_bytes at part bytes = take at bytes ++ part ++ drop (at + length part) bytes

-- the fields that both layouts have, each at its place
abbrev pub put_shared : Fields → List ℕ → List ℕ
put_shared f bytes =
    put_bytes 56 (to_le_bytes w64 f.cleared) (put_bytes 52 (to_le_bytes w32 f.slot) (put_bytes 48 (to_le_bytes w32 f.unpaid)
    (put_bytes 44 (to_le_bytes w32 f.busy_points) (put_bytes 40 (to_le_bytes w32 f.price) (put_bytes 32 (to_le_bytes w64 f.moment)
    (put_bytes 24 (to_le_bytes w64 f.asked) (put_bytes 20 (to_le_bytes w32 f.product) (put_bytes 16 (to_le_bytes w32 f.nozzle)
    (put_bytes 12 (to_le_bytes w32 f.state) (put_bytes 8 (to_le_bytes w32 f.kind) (put_bytes 4 (to_le_bytes w32 f.point)
    (put_bytes 0 (to_le_bytes w32 f.till) bytes))))))))))))

-- those that only the second has
abbrev pub put_further : Fields → List ℕ → List ℕ
put_further f bytes = put_bytes 72 (to_le_bytes w32 f.open_points) (put_bytes 64 (to_le_bytes w64 f.clears) bytes)

-- the context with these fields
abbrev pub context_of : Layout → Fields → Context
context_of layout.One f = context.One (put_shared f (replicate 64 0))
context_of layout.Two f = context.Two (put_further f (put_shared f (replicate 80 0)))

abbrev pub count_field : ℕ → Name → ℕ
count_field count (PointState p) = max count p
count_field count (PointNozzle p) = max count p
count_field count (PointAmount p) = max count p
count_field count _ = count

abbrev pub with_count : ℕ → Setting → ℕ
with_count count s = count_field count s.name

-- how many points there are: up to the last one of which something is set, or that the request is about
abbrev pub view_count : ℕ → List Setting → ℕ
view_count point settings = fold with_count point settings

-- What helpers can look up. What isn't set of the request's own point and product is as in its fields.
abbrev pub request_view : Fields → List Setting → View
request_view f settings = record {
  count = view_count f.point settings;
  points =
      points_from (put_point (replicate 32 no_point) f.point (record { state = f.state; nozzle = f.nozzle; amount = 0 })) settings;
  prices = prices_from (put_price (replicate 8 0) f.product f.price) settings;
}

abbrev pub at_most : ℕ → ℕ → ℕ
at_most n bound = if nat_le n bound then n else bound

abbrev pub counter_field : List (ℕ × ℕ) → Name → ℕ → ℕ → List (ℕ × ℕ)
counter_field cells (Counter c) n bound = if nat_lt c 32 then slice_set cells c (at_most n bound, bound) else cells
counter_field cells _ n bound = cells

abbrev pub with_counter : List (ℕ × ℕ) → Setting → List (ℕ × ℕ)
with_counter cells s = counter_field cells s.name s.number s.bound

-- the counters that are set, each of value and bound; the others are 0, with the largest bound
abbrev pub counters_of : List Setting → List (ℕ × ℕ)
counters_of settings = fold with_counter (replicate 32 (0, 18446744073709551615)) settings

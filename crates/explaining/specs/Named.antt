-- Definitions: what a word NAME=NUMBER says of a request that a rule is run on (source: this project).
use Rattle.std.specs.Prelude.{◌==◌, ◌&&◌, ℕ, Bool, true, false, nat_le, nat_lt, length, List, codes, Option, Some, None, option_and_then, option_map, Result, Ok, Err, if◌then◌else◌}
use Rattle.std.specs.List.{before_first, after_first, position_or_len}
use Rattle.std.specs.Str.{bytes_eq}
use Rattle.till_request.specs.Grammar.{number}
use Rattle.till_request.specs.declared.act.LineFault.{LineFault}
use Rattle.explaining.specs.declared.names.Name.{Name}
use Rattle.explaining.specs.declared.names.Name.TheVariants.{Till, Point, Kind, State, Nozzle, Product, Asked, Moment, Price, BusyPoints, Unpaid, Slot, Cleared, Clears, OpenPoints}
use Rattle.explaining.specs.declared.names.Name.TheVariants.{Counter, PointState, PointNozzle, PointAmount, PriceOf}
use Rattle.explaining.specs.declared.names.Setting.{Setting}

-- what is behind the first such byte, if there is one
abbrev pub behind : ℕ → List ℕ → Option (List ℕ)
behind mark text =
    if nat_lt (position_or_len (λ byte. byte == mark) text) (length text) then Some (after_first (λ byte. byte == mark) text) else None

-- the field of the context with this name
abbrev pub context_name : List ℕ → Option Name
context_name text =
    if bytes_eq text (codes "till") then Some Till
    else if bytes_eq text (codes "point") then Some Point
    else if bytes_eq text (codes "kind") then Some Kind
    else if bytes_eq text (codes "state") then Some State
    else if bytes_eq text (codes "nozzle") then Some Nozzle
    else if bytes_eq text (codes "product") then Some Product
    else if bytes_eq text (codes "asked") then Some Asked
    else if bytes_eq text (codes "moment") then Some Moment
    else if bytes_eq text (codes "price") then Some Price
    else if bytes_eq text (codes "busy_points") then Some BusyPoints
    else if bytes_eq text (codes "unpaid") then Some Unpaid
    else if bytes_eq text (codes "slot") then Some Slot
    else if bytes_eq text (codes "cleared") then Some Cleared
    else if bytes_eq text (codes "clears") then Some Clears
    else if bytes_eq text (codes "open_points") then Some OpenPoints
    else None

abbrev pub index_by : ℕ → ℕ → Result ℕ LineFault → Option ℕ
index_by least most (Ok n) = if nat_le least n && nat_le n most then Some n else None
index_by least most (Err fault) = None

-- the number of this range that a text writes in decimal, without leading zeros
abbrev pub index_in : ℕ → ℕ → List ℕ → Option ℕ
index_in least most text = index_by least most (number 32 text)

abbrev pub counter_name : List ℕ → Option Name
counter_name rest = option_map (λ (n : ℕ). Counter n) (index_in 0 31 rest)

abbrev pub price_name : List ℕ → Option Name
price_name rest = option_map (λ (n : ℕ). PriceOf n) (index_in 1 8 rest)

abbrev pub point_part : ℕ → List ℕ → Option Name
point_part n part =
    if bytes_eq part (codes "state") then Some (PointState n)
    else if bytes_eq part (codes "nozzle") then Some (PointNozzle n)
    else if bytes_eq part (codes "amount") then Some (PointAmount n)
    else None

abbrev pub point_name : List ℕ → Option Name
point_name rest =
    option_and_then (λ (n : ℕ). option_and_then (point_part n) (behind 46 rest))
    (index_in 1 32 (before_first (λ byte. byte == 46) rest))

abbrev pub numbered_name : List ℕ → List ℕ → Option Name
numbered_name head rest =
    if bytes_eq head (codes "counter") then counter_name rest
    else if bytes_eq head (codes "price") then price_name rest
    else if bytes_eq head (codes "point") then point_name rest
    else None

abbrev pub name_by : List ℕ → Option (List ℕ) → Option Name
name_by text None = context_name text
name_by text (Some rest) = numbered_name (before_first (λ byte. byte == 46) text) rest

-- the field that a text names: of the context, or with dots (46) counter.N, price.N, point.N.state, point.N.nozzle or
-- point.N.amount
abbrev pub name_of : List ℕ → Option Name
name_of text = name_by text (behind 46 text)

-- the least number that a field takes
abbrev pub least_of : Name → ℕ
least_of Kind = 1
least_of _ = 0

-- the largest number that a field takes
abbrev pub most_of : Name → ℕ
most_of Till = 4294967295
most_of Point = 32
most_of Kind = 3
most_of State = 9
most_of Nozzle = 8
most_of Product = 8
most_of Asked = 18446744073709551615
most_of Moment = 18446744073709551615
most_of Price = 4294967295
most_of BusyPoints = 32
most_of Unpaid = 4294967295
most_of Slot = 15
most_of Cleared = 18446744073709551615
most_of Clears = 18446744073709551615
most_of OpenPoints = 32
most_of (Counter n) = 18446744073709551615
most_of (PointState n) = 9
most_of (PointNozzle n) = 8
most_of (PointAmount n) = 18446744073709551615
most_of (PriceOf n) = 4294967295

abbrev pub kind_named : List ℕ → Option ℕ
kind_named text =
    if bytes_eq text (codes "release") then Some 1
    else if bytes_eq text (codes "preset") then Some 2
    else if bytes_eq text (codes "price") then Some 3
    else None

abbrev pub value_by : Name → Result ℕ LineFault → Option ℕ
value_by name (Ok n) = if nat_le (least_of name) n && nat_le n (most_of name) then Some n else None
value_by name (Err fault) = None

abbrev pub value_in : Name → List ℕ → Option ℕ
value_in name text = value_by name (number 64 text)

abbrev pub kind_by : Option ℕ → List ℕ → Option ℕ
kind_by (Some n) text = Some n
kind_by None text = value_in Kind text

-- the number that a text gives a field: a number that it takes, or of the kind the word of one
abbrev pub value_of : Name → List ℕ → Option ℕ
value_of Kind text = kind_by (kind_named text) text
value_of name text = value_in name text

-- a counter's value and bound; none if the value is above the bound
abbrev pub counter_setting : ℕ → List ℕ → List ℕ → Option Setting
counter_setting n value bound =
    option_and_then (λ (v : ℕ). option_and_then (λ (b : ℕ).
    if nat_le v b then Some (record { name = Counter n; number = v; bound = b }) else None)
    (value_in (Counter n) bound)) (value_in (Counter n) value)

abbrev pub counter_by : ℕ → List ℕ → Option (List ℕ) → Option Setting
counter_by n text None = counter_setting n text (codes "18446744073709551615")
counter_by n text (Some bound) = counter_setting n (before_first (λ byte. byte == 47) text) bound

-- What a text says of a field. Of a counter it is VALUE or VALUE/BOUND (47 is the slash).
abbrev pub setting_by : Name → List ℕ → Option Setting
setting_by (Counter n) text = counter_by n text (behind 47 text)
setting_by name text = option_map (λ (v : ℕ). record { name = name; number = v; bound = 0 }) (value_of name text)

-- what a word NAME=NUMBER says (61 is the equals sign)
abbrev pub setting_of : List ℕ → Option Setting
setting_of word =
    option_and_then (λ (text : List ℕ). option_and_then (λ (name : Name). setting_by name text)
    (name_of (before_first (λ byte. byte == 61) word))) (behind 61 word)

-- only the second layout has the field
abbrev pub is_of_second : Name → Bool
is_of_second Clears = true
is_of_second OpenPoints = true
is_of_second _ = false

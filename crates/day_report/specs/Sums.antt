-- Definitions: what the sales of a history come to, while it is watched.
use Rattle.std.specs.Prelude.{◌≡◌, ◌<◌, ◌≤◌, ◌^◌, ℕ, ◌+◌, ◌-◌, ◌*◌, ◌==◌, ◌&&◌, nat_le, min, if◌then◌else◌, List, ◌++◌, length, replicate, slice_index_or, slice_set, take}
use Rattle.day_report.specs.declared.sales.Sale.{Sale}
use Rattle.day_report.specs.declared.sales.SalesPart.TheVariants as part
use Rattle.day_report.specs.declared.sales.Sum.{Sum}
use Rattle.day_report.specs.declared.sums.OffSales.{OffSales}
use Rattle.day_report.specs.declared.sums.Sums.{Sums}
use Rattle.day_report.specs.Sales.{is_off, off_entries}
use Rattle.day_report.specs.Totals.{IsSum, SumsUp, hour_of, hours_of_day, most_tills, part_of_hour, part_of_point, part_of_till}

-- `off` has how many of these sales are off, and the entries that cleared the first eight of them. If there are fewer,
-- zeros follow.
pub record CountsOff (off : OffSales) (sales : List Sale) : Type 0 where
  pub count : off.count ≡ length (off_entries sales)
  pub entries : off.entries ≡ take 8 (off_entries sales ++ replicate 8 0)

-- The sums add up these sales: all of them, and those at each of the points 1 to 32, by each of the tills 1 to 64, and
-- in each hour of the day. A sale at another point is in none of the points' sums, and so it is for tills and hours.
-- The sales that are off are counted.
pub record AddsUp (sums : Sums) (sales : List Sale) : Type 0 where
  pub all : IsSum sums.all part.All sales
  pub points : SumsUp part_of_point 32 sums.points sales
  pub tills : SumsUp part_of_till most_tills sums.tills sales
  pub hours : SumsUp part_of_hour hours_of_day sums.hours sales
  pub off : CountsOff sums.off sales
  -- no sale comes to more than a number of 64 bits can say
  pub small : (sums.all.cents ≤ sums.all.count * (2 ^ 64 - 1)) × (sums.all.centilitres ≤ sums.all.count * (2 ^ 64 - 1))

-- One more sale can be counted.
abbrev pub HasRoom : Sums → Type 0
HasRoom sums = sums.all.count + 1 < 2 ^ 64

-- ---- The contracts of private functions use these definitions.

-- the sum of no sales
abbrev pub no_sum : Sum
no_sum = record { count = 0; cents = 0; centilitres = 0 }

-- the sum with one sale more, of this amount and volume; a number that would be too great for its type stays its greatest
abbrev pub plus : Sum → ℕ → ℕ → Sum
plus sum amount volume = record {
  count = min (sum.count + 1) (2 ^ 64 - 1);
  cents = min (sum.cents + amount) (2 ^ 128 - 1);
  centilitres = min (sum.centilitres + volume) (2 ^ 128 - 1);
}

-- The sums, of which the n-th, counted from 1, has one sale more. If there is no n-th, they stay the same.
abbrev pub plus_at : List Sum → ℕ → ℕ → ℕ → List Sum
plus_at sums n amount volume =
    if nat_le 1 n && nat_le n (length sums) then slice_set sums (n - 1) (plus (slice_index_or sums (n - 1) no_sum) amount volume) else sums

-- the number of the hour of a moment, counted from 1; 0 without a moment
abbrev pub hour_number : ℕ → ℕ
hour_number moment = if moment == 0 then 0 else hour_of moment + 1

-- what is counted of sales that are off, with this sale
abbrev pub with_off : OffSales → Sale → OffSales
with_off off sale =
    if is_off sale then record { count = min (off.count + 1) (2 ^ 64 - 1); entries = slice_set off.entries off.count sale.number } else off

-- the sums with this sale
abbrev pub with_sale : Sums → Sale → Sums
with_sale sums sale = record {
  all = plus sums.all sale.amount sale.volume;
  points = plus_at sums.points sale.point sale.amount sale.volume;
  tills = plus_at sums.tills sale.till sale.amount sale.volume;
  hours = plus_at sums.hours (hour_number sale.moment) sale.amount sale.volume;
  off = with_off sums.off sale;
}

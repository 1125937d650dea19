-- Definitions: the totals and counts of a history's sales, decisions, refusals and unpaid transactions.
use Rattle.std.specs.Prelude.{◌≡◌, ◌<◌, ◌^◌, ℕ, ◌+◌, ◌-◌, ◌/◌, ◌%◌, ◌==◌, ◌&&◌, not, List, [], ◌∷◌, ◌++◌, map, length, slice_index, slice_index_or, sum_by, count_by}
use Rattle.std.specs.Prelude.{if◌then◌else◌, Bool, true, false, fold, nat_le, nat_lt, max, min, replicate, slice_set}
use Rattle.day_report.specs.declared.sales.Sale.{Sale}
use Rattle.day_report.specs.declared.sales.Sum.{Sum}
use Rattle.day_report.specs.declared.sales.SalesPart.{SalesPart}
use Rattle.day_report.specs.declared.sales.SalesPart.TheVariants as part
use Rattle.day_report.specs.declared.rulings.RequestKind.{RequestKind}
use Rattle.day_report.specs.declared.rulings.RequestKind.TheVariants as asked
use Rattle.day_report.specs.declared.rulings.Decision.{Decision}
use Rattle.day_report.specs.declared.counting.Outcome.{Outcome}
use Rattle.day_report.specs.declared.counting.Verdicts.{Verdicts}
use Rattle.decision_journal.specs.declared.entries.Entry.{Entry}
use Rattle.site_core.specs.Opening.{OpeningValue}
use Rattle.site_core.specs.Limits.{ConfigValue}
use Rattle.day_report.specs.Carried.{carried_from, carried_rules}
use Rattle.day_report.specs.Decisions.{loads}
use Rattle.day_report.specs.declared.loading.Load.{Load}
use Rattle.day_report.specs.declared.opening.CarriedRule.{CarriedRule}
use Rattle.day_report.specs.declared.adding.CarriedIn.{CarriedIn}
use Rattle.day_report.specs.declared.adding.Unpaid.{Unpaid}
use Rattle.fuelling_point.specs.declared.kinds.Transaction.{Transaction}
use Rattle.fuelling_point.specs.Table.{PointState}

-- The most tills that a site can have.
abbrev pub most_tills : ℕ
most_tills = 64

abbrev pub hours_of_day : ℕ
hours_of_day = 24

-- The hour of the day, 0 to 23 in UTC, of a moment in seconds.
abbrev pub hour_of : ℕ → ℕ
hour_of moment = moment / 3600 % 24

-- Whether a sale is in a part. The parts are all sales, those at a point, those that a till cleared, and those of an
-- hour of the day. A sale without a moment is in none of the hours.
abbrev pub is_in : SalesPart → Sale → Bool
is_in part.All sale = true
is_in (part.Point n) sale = sale.point == n
is_in (part.Till till) sale = sale.till == till
is_in (part.Hour hour) sale = not (sale.moment == 0) && hour_of sale.moment == hour

-- how many sales are in the part
abbrev pub count_in : SalesPart → List Sale → ℕ
count_in part sales = count_by (λ sale. is_in part sale) sales

abbrev pub cents_in : SalesPart → List Sale → ℕ
cents_in part sales = sum_by (λ (sale : Sale). if is_in part sale then sale.amount else 0) sales

abbrev pub centilitres_in : SalesPart → List Sale → ℕ
centilitres_in part sales = sum_by (λ (sale : Sale). if is_in part sale then sale.volume else 0) sales

abbrev pub is_release : RequestKind → Bool
is_release asked.Release = true
is_release _ = false

abbrev pub is_preset : RequestKind → Bool
is_preset asked.Preset = true
is_preset _ = false

abbrev pub is_price : RequestKind → Bool
is_price asked.Price = true
is_price _ = false

-- Whether a decision is on a request of this kind, or on one of this till.
abbrev pub on_release : Decision → Bool
on_release d = is_release d.asked

abbrev pub on_preset : Decision → Bool
on_preset d = is_preset d.asked

abbrev pub on_price : Decision → Bool
on_price d = is_price d.asked

abbrev pub of_till : ℕ → Decision → Bool
of_till till d = d.till == till

-- How many of the decisions that are wanted this version granted, and how many it denied.
abbrev pub granted_by : (Decision → Bool) → ℕ → List Decision → ℕ
granted_by is_wanted version decisions = count_by (λ (d : Decision). (is_wanted d && d.is_granted) && d.version == version) decisions

abbrev pub denied_by : (Decision → Bool) → ℕ → List Decision → ℕ
denied_by is_wanted version decisions = count_by (λ (d : Decision). (is_wanted d && not d.is_granted) && d.version == version) decisions

abbrev pub outcome_of : (Decision → Bool) → ℕ → List Decision → Outcome
outcome_of is_wanted version decisions = record { granted = granted_by is_wanted version decisions; denied = denied_by is_wanted version decisions }

-- `sum` has the number of sales in the part, and their totals in cents and in centilitres.
pub record IsSum (sum : Sum) (part : SalesPart) (sales : List Sale) : Type 0 where
  pub count : sum.count ≡ count_in part sales
  pub cents : sum.cents ≡ cents_in part sales
  pub centilitres : sum.centilitres ≡ centilitres_in part sales

-- The part of the sales that the list of sums by point adds up at place k, counted from 0: the sales at point k + 1.
-- `part_of_till` and `part_of_hour` are the parts at place k in the lists of sums by till and by hour. Points and tills
-- are counted from 1, hours from 0.
abbrev pub part_of_point : ℕ → SalesPart
part_of_point k = part.Point (k + 1)

abbrev pub part_of_till : ℕ → SalesPart
part_of_till k = part.Till (k + 1)

abbrev pub part_of_hour : ℕ → SalesPart
part_of_hour k = part.Hour k

-- There are `count` sums. The sum at place k adds up the sales in the part `part_at k`.
pub record SumsUp (part_at : ℕ → SalesPart) (count : ℕ) (sums : List Sum) (sales : List Sale) : Type 0 where
  pub long : length sums ≡ count
  pub each : (k : ℕ) (d : Sum) → k < length sums → IsSum (slice_index_or sums k d) (part_at k) sales

-- There are `long` counts, one for each refusal from S20 on. The count at place k says how often its refusal's number,
-- 20 + k, is among `numbers`.
abbrev pub CountsNumbers : ℕ → List ℕ → List ℕ → Type 0
CountsNumbers long counts numbers =
    (length counts ≡ long) × ((k : ℕ) → k < length counts → slice_index counts k ≡ count_by (λ n. n == 20 + k) numbers)

-- There are 15 counts, which say how often each of the refusals S20 to S34 is among the numbers, S20 first.
abbrev pub CountsRefusals : List ℕ → List ℕ → Type 0
CountsRefusals counts numbers = CountsNumbers 15 counts numbers

-- The version numbers of a day with these loads: first those of the rules that the opening carries in, in the order of
-- their slots, then those of the loads.
abbrev pub version_numbers : ConfigValue → List Load → List ℕ
version_numbers config loads = map (λ (rule : CarriedRule). rule.version) (carried_rules config) ++ map (λ (load : Load). load.version) loads

-- The version numbers of a day with this history.
abbrev pub versions_of : ConfigValue → List Entry → List ℕ
versions_of config history = version_numbers config (loads 0 history)

-- What a version decided on releases, on presets and on prices, and on the requests of each till.
pub record HasDecided (version : ℕ) (decisions : List Decision) (found : Verdicts) : Type 0 where
  pub releases : found.releases ≡ outcome_of on_release version decisions
  pub presets : found.presets ≡ outcome_of on_preset version decisions
  pub prices : found.prices ≡ outcome_of on_price version decisions
  pub long : length found.tills ≡ most_tills
  pub tills : (k : ℕ) (d : Outcome) → k < length found.tills → slice_index_or found.tills k d ≡ outcome_of (of_till (k + 1)) version decisions

-- `found` has what each version decided, in the order of `versions`.
pub record AllDecided (versions : List ℕ) (decisions : List Decision) (found : List Verdicts) : Type 0 where
  pub long : length found ≡ length versions
  pub each : (k n : ℕ) (d : Verdicts) → k < length found → HasDecided (slice_index_or versions k n) decisions (slice_index_or found k d)

-- An unpaid transaction, together with the number of its point.
abbrev pub unpaid_transaction : ℕ → Transaction → Unpaid
unpaid_transaction point t = record {
  point = point;
  number = t.number;
  product = t.product;
  price = t.price;
  amount = t.amount;
  volume = t.volume;
  holder = t.holder;
}

-- The unpaid transactions of all these points. The first point has the number n, the next one n + 1, and so on.
abbrev pub unpaid_from : ℕ → List PointState → List Unpaid
unpaid_from n [] = []
unpaid_from n (p ∷ points) = map (unpaid_transaction n) p.unpaid ++ unpaid_from (n + 1) points

unfoldable pub unpaid_of : List PointState → List Unpaid
unpaid_of points = unpaid_from 1 points

-- What an opening takes over from the day before: the number and the total cents of unpaid transactions, the number of
-- rules, and the total cents that were cleared before the day.
abbrev pub carried_in : OpeningValue → CarriedIn
carried_in o = record {
  unpaid = length (unpaid_of o.points);
  unpaid_cents = sum_by (λ (u : Unpaid). u.amount) (unpaid_of o.points);
  rules = length (carried_from 0 o.rules);
  cleared = o.cleared;
}

-- ---- The contracts of private functions use these definitions.

-- the outcome with one decision more; a number that would be too great for its type stays its greatest
abbrev pub plus_outcome : Outcome → Bool → Outcome
plus_outcome o true = record { granted = min (o.granted + 1) (2 ^ 64 - 1); denied = o.denied }
plus_outcome o false = record { granted = o.granted; denied = min (o.denied + 1) (2 ^ 64 - 1) }

abbrev pub no_outcome : Outcome
no_outcome = record { granted = 0; denied = 0 }

-- the outcomes by till, of which that of the n-th till, counted from 1, has one decision more; if there is no such till,
-- they stay the same
abbrev pub tills_with : List Outcome → ℕ → Bool → List Outcome
tills_with outcomes n granted =
    if nat_le 1 n && nat_le n (length outcomes)
    then slice_set outcomes (n - 1) (plus_outcome (slice_index_or outcomes (n - 1) no_outcome) granted)
    else outcomes

-- what a version decided, with one decision of it more
abbrev pub verdicts_with : Verdicts → Decision → Verdicts
verdicts_with v d = record {
  releases = if is_release d.asked then plus_outcome v.releases d.is_granted else v.releases;
  presets = if is_preset d.asked then plus_outcome v.presets d.is_granted else v.presets;
  prices = if is_price d.asked then plus_outcome v.prices d.is_granted else v.prices;
  tills = tills_with v.tills d.till d.is_granted;
}

abbrev pub no_verdicts : Verdicts
no_verdicts = record { releases = no_outcome; presets = no_outcome; prices = no_outcome; tills = replicate 64 no_outcome }

-- the table, which has what version v decided at place v, with one decision more
abbrev pub table_with : List Verdicts → Decision → List Verdicts
table_with table d =
    if nat_lt d.version (length table)
    then slice_set table d.version (verdicts_with (slice_index_or table d.version no_verdicts) d)
    else table

-- the least number that is over each of these versions
abbrev pub places_for : List ℕ → ℕ
places_for versions = fold (λ places version. max places (version + 1)) 0 versions

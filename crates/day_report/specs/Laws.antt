-- Promises: a history's sales agree with its site, and the decisions of all versions add up to all decisions.
use Rattle.std.specs.Prelude.{◌≡◌, ◌≤◌, ℕ, ◌+◌, All, List, length, sum_by, count_by}
use Rattle.std.specs.List.{range_with_len, filter_map}
use Rattle.decision_journal.specs.declared.entries.Entry.{Entry}
use Rattle.site_core.specs.Limits.{ConfigValue}
use Rattle.site_core.specs.State.{SiteState, opening_state}
use Rattle.site_core.specs.Decide.{is_decided}
use Rattle.site_core.specs.Legal.{LegalHistory}
use Rattle.day_report.specs.Carried.{HasValidOpening}
use Rattle.day_report.specs.Sales.{sales_of}
use Rattle.day_report.specs.Decisions.{decision_of}
use Rattle.day_report.specs.Totals.{count_in, cents_in, denied_by, granted_by, on_preset, on_price, on_release, versions_of}
use Rattle.day_report.specs.declared.rulings.Decision.{Decision}
use Rattle.day_report.specs.declared.sales.Sale.{Sale}
use Rattle.day_report.specs.declared.sales.SalesPart.TheVariants as part
use Rattle.day_report.specs.declared.sales.Sum.{Sum}
use Rattle.day_report.specs.declared.sums.Sums.{Sums}
use Rattle.day_report.specs.Sums.{AddsUp}

-- The sales in a journal agree with the state of its site:
-- - What was cleared before the day, plus the sales of the day, is what the site cleared: in number, and in cents.
-- - The cents of the sales at each point of the configuration add up to the cents of the day, if the site begins with
--   as many points as the configuration has.
-- - The cents that each till from 1 to `tills` cleared add up to the cents of the day too, if these tills include all
--   tills of the configuration.
pub record AgreesWithItsSite (config : ConfigValue) (history : List Entry) (state : SiteState) : Type 0 where
  pub count : (opening_state config).clears + count_in part.All (sales_of config history) ≡ state.clears
  pub cents : (opening_state config).cleared + cents_in part.All (sales_of config history) ≡ state.cleared
  pub by_point : length (opening_state config).points ≡ length config.points
      → (opening_state config).cleared + sum_by (λ n. cents_in (part.Point n) (sales_of config history)) (range_with_len 1 (length config.points)) ≡ state.cleared
  pub by_till : (tills : ℕ) → config.tills ≤ tills
      → (opening_state config).cleared + sum_by (λ t. cents_in (part.Till t) (sales_of config history)) (range_with_len 1 tills) ≡ state.cleared

-- For any history that the site's steps can make (`LegalHistory`), the sales in it agree with the state that it leads
-- to, as `AgreesWithItsSite` says.
abbrev pub SalesAgreeWithTheSite : Type 0
SalesAgreeWithTheSite = (config : ConfigValue) (history : List Entry) (state : SiteState) → LegalHistory config history state → AgreesWithItsSite config history state

-- How many decisions a version of a rule made in all: on releases, presets and prices, granted and denied.
abbrev pub decided_in_all : ℕ → List Decision → ℕ
decided_in_all v ds =
    granted_by on_release v ds + denied_by on_release v ds + granted_by on_preset v ds + denied_by on_preset v ds
    + granted_by on_price v ds + denied_by on_price v ds

-- In any history that the site's steps can make (`LegalHistory`), the decisions (grants and denials) of all versions
-- are together as many as the entries whose reply is a grant or S24 (a denial by a program). The versions are those
-- carried in from the day before and those loaded. The configuration must have no opening or a valid one
-- (`HasValidOpening`), so that no version is counted twice.
abbrev pub VersionsCountAllDecisions : Type 0
VersionsCountAllDecisions =
    (config : ConfigValue) (history : List Entry) (state : SiteState) → HasValidOpening config → LegalHistory config history state →
    sum_by (λ v. decided_in_all v (filter_map decision_of history)) (versions_of config history) ≡ count_by
    (λ (entry : Entry). is_decided entry.reply) history

-- The sums are together this one: in number, in cents and in centilitres.
pub record ComeTo (sums : List Sum) (whole : Sum) : Type 0 where
  pub count : sum_by (λ (s : Sum). s.count) sums ≡ whole.count
  pub cents : sum_by (λ (s : Sum). s.cents) sums ≡ whole.cents
  pub centilitres : sum_by (λ (s : Sum). s.centilitres) sums ≡ whole.centilitres

-- In sums that add up sales at points 1 to 32, the sums of the points come to the sum of all sales. So do the sums of
-- the tills if all sales are by tills 1 to 64.
abbrev pub PartsComeToTheWhole : Type 0
PartsComeToTheWhole =
    (sums : Sums) (sales : List Sale) → AddsUp sums sales →
    (All (λ (s : Sale). (1 ≤ s.point) × (s.point ≤ 32)) sales → ComeTo sums.points sums.all)
    × (All (λ (s : Sale). (1 ≤ s.till) × (s.till ≤ 64)) sales → ComeTo sums.tills sums.all)

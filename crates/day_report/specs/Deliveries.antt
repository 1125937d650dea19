-- Promises: of which sales the end of the delivery is known.
use Rattle.std.specs.Prelude.{◌≡◌, Bool, List, Some, None, All, IsTrue, IsFalse, is_some}
use Rattle.decision_journal.specs.declared.entries.Entry.{Entry}
use Rattle.fuelling_point.specs.Snapshot.{IsPointState}
use Rattle.site_core.specs.Legal.{LegalHistory}
use Rattle.site_core.specs.Limits.{ConfigValue}
use Rattle.site_core.specs.Opening.{OpeningValue}
use Rattle.site_core.specs.State.{SiteState, at_number, opening_state}
use Rattle.day_report.specs.Sales.{sales_of, unpaid_at}
use Rattle.day_report.specs.declared.sales.Sale.{Sale}

-- Whether the transaction of a sale was unpaid when the day began.
abbrev pub is_carried_in : ConfigValue → Sale → Bool
is_carried_in config sale = is_some (unpaid_at (at_number (opening_state config).points sale.point) sale.transaction)

-- If the configuration has an opening, then each of its points has values that a point can have. For example, no unpaid
-- transaction has a number greater than the last that its point gave out.
abbrev pub HasValidOpeningPoints : ConfigValue → Type 0
HasValidOpeningPoints config = (o : OpeningValue) → config.opening ≡ Some o → All IsPointState o.points

-- - The entry that ended its delivery is known of a sale, unless its transaction was unpaid when the day began.
-- - If its transaction was unpaid when the day began, then none is known. For this, the points of the opening, if there
--   is one, must be valid (`HasValidOpeningPoints`).
pub record DeliveriesAreKnown (config : ConfigValue) (history : List Entry) : Type 0 where
  pub known : All (λ (sale : Sale). IsFalse (is_carried_in config sale) → IsTrue (is_some sale.ended)) (sales_of config history)
  pub carried : HasValidOpeningPoints config → All (λ (sale : Sale). IsTrue (is_carried_in config sale) → sale.ended ≡ None) (sales_of config history)

-- So it is in any history that the site's steps can make (`LegalHistory`).
abbrev pub SalesHaveTheirDeliveries : Type 0
SalesHaveTheirDeliveries = (config : ConfigValue) (history : List Entry) (state : SiteState) → LegalHistory config history state → DeliveriesAreKnown config history

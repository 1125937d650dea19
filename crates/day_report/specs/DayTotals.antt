-- Promises: the totals of a day are those of its history.
use Rattle.std.specs.Prelude.{◌≡◌, List, length, map, not, sum_by, count_by}
use Rattle.std.specs.List.{filter_map}
use Rattle.decision_journal.specs.declared.entries.Entry.{Entry}
use Rattle.fuelling_point.specs.Table.{PointState}
use Rattle.site_core.specs.Heads.{Leads}
use Rattle.site_core.specs.Limits.{ConfigValue}
use Rattle.site_core.specs.Replays.{ReplayedValue}
use Rattle.site_core.specs.Steps.{steps_of}
use Rattle.site_core.specs.declared.observer.Both.{Both}
use Rattle.day_report.specs.Carried.{carried_rules}
use Rattle.day_report.specs.Decisions.{decision_of, loads, price_change_of, refusal_of}
use Rattle.day_report.specs.Picture.{mark_of}
use Rattle.day_report.specs.Rulings.{ListsRulings}
use Rattle.day_report.specs.Sales.{sales_of}
use Rattle.day_report.specs.Sums.{AddsUp}
use Rattle.day_report.specs.Totals.{AllDecided, CountsRefusals, unpaid_of, versions_of}
use Rattle.day_report.specs.declared.adding.Totals.{Totals}
use Rattle.day_report.specs.declared.adding.Unpaid.{Unpaid}
use Rattle.day_report.specs.declared.rulings.Decision.{Decision}
use Rattle.day_report.specs.declared.rulings.Rulings.{Rulings}
use Rattle.day_report.specs.declared.steps.Marks.{Marks}
use Rattle.day_report.specs.declared.sums.Sums.{Sums}

-- This is the history that was replayed: it leads to the head, and what the watchers have is of it.
pub record IsDay (r : ReplayedValue (Both Sums (Both Rulings Marks))) (history : List Entry) : Type 0 where
  pub leads : Leads history r.head
  pub sums_are : AddsUp r.seen.first (sales_of r.head.config history)
  pub rulings_are : ListsRulings r.seen.second.first history
  pub marks_are : r.seen.second.second.marks.items ≡ map mark_of (steps_of r.head.config history)

-- The totals are those of this history, of a site of this configuration. It leads to these points.
pub record IsTotals (config : ConfigValue) (history : List Entry) (points : List PointState) (t : Totals) : Type 0 where
  pub entries : t.entries ≡ length history
  pub sums_are : AddsUp t.sums (sales_of config history)
  pub points_are : t.points.items ≡ points
  pub refused : CountsRefusals t.refused.items (filter_map refusal_of history)
  pub carried : t.carried.items ≡ carried_rules config
  pub loads_are : t.loads.items ≡ loads 0 history
  pub versions : t.versions.items ≡ versions_of config history
  pub prices : t.prices.items ≡ filter_map price_change_of history
  pub unpaid : t.unpaid.items ≡ unpaid_of points
  pub unpaid_cents : t.unpaid_cents ≡ sum_by (λ (u : Unpaid). u.amount) (unpaid_of points)
  pub granted : t.granted ≡ count_by (λ (d : Decision). d.is_granted) (filter_map decision_of history)
  pub denied : t.denied ≡ count_by (λ (d : Decision). not d.is_granted) (filter_map decision_of history)
  pub verdicts : AllDecided (versions_of config history) (filter_map decision_of history) t.verdicts.items

use Rattle.std.proofs.Common.{◌≡◌, ap, ◌∙◌, subst, sym}
use Rattle.std.specs.Prelude.{count_by, not, sum_by}
use Rattle.std.specs.List.{filter_map}
use Rattle.site_core.specs.Heads.{HeadValue}
use Rattle.site_core.specs.declared.observer.Both.{Both}
use Rattle.day_report.specs.Carried.{carried_rules}
use Rattle.day_report.specs.Decisions.{decision_of}
use Rattle.day_report.specs.Sales.{sales_of}
use Rattle.day_report.specs.Sums.{AddsUp}
use Rattle.day_report.specs.Totals.{AllDecided, CountsRefusals, unpaid_of, version_numbers, versions_of}
use Rattle.day_report.specs.declared.adding.Unpaid.{Unpaid}
use Rattle.day_report.specs.declared.rulings.Decision.{Decision}
use Rattle.day_report.specs.declared.rulings.Rulings.{Rulings}
use Rattle.day_report.specs.declared.steps.Marks.{Marks}
use Rattle.day_report.specs.declared.sums.Sums.{Sums}
use Rattle.day_report.proofs.adding.add_up.Goals as goal

abbrev Seen : Type 0
Seen = Both Sums (Both Rulings Marks)

pub returns : goal.returns
returns c = λ history day.
    let head = c.args.replayed.now.head in
    let same = c.head-head.ensures.same in
    let rulings = c.seen-2.ensures.same in
    let points = c.points-points.ensures ∙ ap (λ (h : HeadValue). h.state.points) same in
    let config = c.config.ensures ∙ ap (λ (h : HeadValue). h.config) same in
    let have = filter_map decision_of history in
    let decided = c.count_outcomes-granted.ensures in
    let old = c.in_ok-versions.versions.numbers.items in
    let new = versions_of head.config history in
    let loads = c.deref.ensures.value ∙ ap (λ (s : Seen). s.second.first.loads.items) rulings ∙ day.rulings_are.loads in
    let versions : old ≡ new = c.in_ok-versions.ensures.numbers ∙ (λ i. version_numbers (config i) (loads i)) in
    let unpaid = c.in_ok-unpaid.ensures.found ∙ ap unpaid_of points in
    let decisions = c.as_slice-decisions.ensures.value ∙ ap (λ (s : Seen). s.second.first.decisions.items) rulings ∙ day.rulings_are.decisions in
    let listed = c.deref-2.ensures.value ∙ versions in
    record {
      entries = c.count.ensures ∙ ap (λ (h : HeadValue). h.count) same ∙ day.leads.count;
      sums_are = subst (λ (s : Seen). AddsUp s.first (sales_of head.config history)) (sym c.seen.ensures.same) day.sums_are;
      points_are = c.in_ok-from_slice.ensures.items ∙ points;
      refused = subst (CountsRefusals c.in_ok-refusal_counts.field-0.items) (c.deref-3.ensures.value ∙ ap (λ (s : Seen). s.second.first.refusals.items) rulings ∙ day.rulings_are.refusals)
          c.in_ok-refusal_counts.ensures;
      carried = c.in_ok-versions.ensures.carried ∙ ap carried_rules config;
      loads_are = c.in_ok-versions.ensures.loads ∙ loads;
      versions = versions;
      prices = c.in_ok-from_slice-2.ensures.items ∙ c.deref-4.ensures.value ∙ ap (λ (s : Seen). s.second.first.prices.items) rulings ∙ day.rulings_are.prices;
      unpaid = unpaid;
      unpaid_cents = c.cents_of.ensures ∙ ap (λ us. sum_by (λ (u : Unpaid). u.amount) us) (c.deref-5.ensures.value ∙ unpaid);
      granted = decided.granted ∙ ap (λ ds. count_by (λ (d : Decision). d.is_granted) ds) decisions;
      denied = decided.denied ∙ ap (λ ds. count_by (λ (d : Decision). not d.is_granted) ds) decisions;
      verdicts = subst (λ ds. AllDecided new ds c.in_ok-verdicts.verdicts.items) decisions
          (subst (λ vs. AllDecided vs c.as_slice-decisions.result.now c.in_ok-verdicts.verdicts.items) listed c.in_ok-verdicts.ensures);
    }

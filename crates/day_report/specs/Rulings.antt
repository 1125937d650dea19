-- Definitions: the lists of what a history shows of its rules.
use Rattle.std.specs.Prelude.{◌≡◌, List, fold}
use Rattle.std.specs.List.{filter_map}
use Rattle.decision_journal.specs.declared.entries.Entry.{Entry}
use Rattle.day_report.specs.Decisions.{decision_of, loads, moment_after, price_change_of, refusal_of}
use Rattle.day_report.specs.declared.rulings.Rulings.{Rulings}

-- The lists have all decisions, refusals, price changes and loads of these entries, in order, and `moment` is the moment
-- of the last entry that has one.
pub record ListsRulings (r : Rulings) (entries : List Entry) : Type 0 where
  pub decisions : r.decisions.items ≡ filter_map decision_of entries
  pub refusals : r.refusals.items ≡ filter_map refusal_of entries
  pub prices : r.prices.items ≡ filter_map price_change_of entries
  pub loads : r.loads.items ≡ loads 0 entries
  pub moment : r.moment ≡ fold moment_after 0 entries

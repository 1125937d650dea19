use Rattle.what_if.proofs.Finding.{has-found-more}
use Rattle.what_if.proofs.comparison.ComparisonObserver.see.Goals as goal

pub returns : goal.returns
returns c = record {
  seen = λ steps before looked found. has-found-more c.args.self.now c.take.new.self steps
      (record { entry = c.args.entry.now; change = c.args.change.now; before = before }) c.preset_of.result c.decision_in-decision.result looked found
      c.preset_of.ensures c.decision_in-decision.ensures c.take.ensures.found c.take.ensures.rule c.take.ensures.slot c.take.ensures.reading;
}

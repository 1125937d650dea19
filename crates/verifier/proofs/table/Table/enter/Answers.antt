use Rattle.verifier.proofs.Storing.{entered_at}
use Rattle.verifier.proofs.table.Table.enter.Goals as goal

pub returns-clause-entered : goal.returns-clause-entered
returns-clause-entered c =
    entered_at c.args.self.now c.join_at-stored.new.self c.args.at c.args.fact.now c.place_of.result c.join_at-stored.result c.if-is_none.ensures
    c.place_of.ensures.found
    c.join_at-stored.ensures.joined (λ e. (c.join_at-stored.ensures.none e).0)

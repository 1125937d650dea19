use Rattle.std.proofs.Common.{◌∙◌, None}
use Rattle.what_if.proofs.Finding.{found-none, zero-counters}
use Rattle.what_if.proofs.comparison.Comparison.new.Goals as goal

pub returns-clause-found : goal.returns-clause-found
returns-clause-found c =
    (λ i. record { rows = c.new.ensures.items i; own = None; misfit = None }) ∙ found-none c.args.rule.now c.args.slot c.args.reading

pub new-requires-2 : goal.new-requires-2
new-requires-2 c = zero-counters

use Rattle.std.proofs.Common.{sym, subst, ap, ◌∙◌, ◌++◌, ◌∷◌, []}
use Rattle.verifier.specs.Facts.{IsIndexed}
use Rattle.verifier.proofs.Storing.{indexed_start, stored_fact}
use Rattle.verifier.proofs.table.Table.new.Goals as goal

pub invariant_of-result : goal.invariant_of-result
invariant_of-result c =
    let items = c.in_ok-push.ensures.items ∙ ap (λ l. l ++ stored_fact 0 c.args.fact.now ∷ []) c.new-facts.ensures.items in
    subst (λ places. IsIndexed c.push.new.self.items places) (sym c.first_alone.ensures)
    (subst (λ l. IsIndexed l _) (sym items) (indexed_start c.args.fact.now))

use Rattle.std.proofs.Common.{◌≡◌, sym, subst, ap, ◌∙◌, ◌∷◌, [], length, length-append, ◌+◌, arith, None}
use Rattle.std.specs.Prelude.{slice_set}
use Rattle.verifier.specs.Facts.{IsIndexed, stored}
use Rattle.verifier.specs.Inference.{arrived}
use Rattle.verifier.proofs.Storing.{indexed_pushed, stored_pushed, same_by, stored_fact}
use Rattle.verifier.proofs.table.Table.push.Goals as goal

pub invariant_of-self-2 : goal.invariant_of-self-2
invariant_of-self-2 c =
    let facts = c.self.inside.facts.items in
    let items = c.in_ok-push.ensures.items in
    let long : c.len.result ≡ length facts + 1 =
    (let n = ap length items ∙ length-append facts (stored_fact c.args.at c.args.fact.now ∷ []) in omega (arith, n, c.len.ensures)) in
    let none : stored facts c.args.at ≡ None = ap (λ l. stored l c.args.at) c.self.view_is ∙ c.requires.new in
    subst (λ n. IsIndexed c.push.new.self.items (slice_set c.self.inside.places c.args.at n)) (sym long)
    (subst (λ l. IsIndexed l (slice_set c.self.inside.places c.args.at (length facts + 1))) (sym items)
    (indexed_pushed facts c.self.inside.places c.args.at c.args.fact.now c.requires.small none c.self.invariant))

pub returns : goal.returns
returns c q =
    let facts = c.self.inside.facts.items in
    let items = c.in_ok-push.ensures.items in
    let none : stored facts c.args.at ≡ None = ap (λ l. stored l c.args.at) c.self.view_is ∙ c.requires.new in
    same_by (stored c.push.new.self.items q) (arrived q c.args.fact.now c.args.at (stored c.args.self.now q))
    (ap (λ l. stored l q) items ∙ stored_pushed facts c.args.at c.args.fact.now none q ∙ ap
    (λ l. arrived q c.args.fact.now c.args.at (stored l q)) c.self.view_is)

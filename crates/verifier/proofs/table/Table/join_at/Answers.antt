use Rattle.std.proofs.Common.{◌≡◌, rules, sym, subst, ap, ◌∙◌, Some}
use Rattle.std.specs.Prelude.{slice_set, slice_index_or}
use Rattle.verifier.specs.Facts.{stored, IsPlace, IsIndexed}
use Rattle.verifier.specs.Passing.{IsJoined, IsSame}
use Rattle.verifier.specs.Inference.{join_fact}
use Rattle.verifier.proofs.Storing.{joined_is, indexed_joined, stored_here, stored_fact}
use Rattle.verifier.proofs.table.Table.join_at.Goals as goal

pub invariant_of-self : goal.invariant_of-self
invariant_of-self c =
    let facts = c.self.inside.facts.items in
    let found = subst (λ l. IsPlace l c.args.at c.in-Some.k) (sym c.self.view_is) c.in-Some.ensures.found in
    let held : slice_index_or facts c.in-Some.k c.index_mut.result.now ≡ c.index_mut.result.now = search rules in
    let at = sym (ap (λ s. s.at) held) ∙ found.here c.index_mut.result.now in
    subst (λ n. IsIndexed (slice_set facts c.in-Some.k (stored_fact n c.join.new.self)) c.self.inside.places) (sym at)
    (indexed_joined facts c.self.inside.places c.args.at c.in-Some.k c.join.new.self found c.self.invariant)

pub returns-clause-joined : goal.returns-clause-joined
returns-clause-joined c e =
    let facts = c.self.inside.facts.items in
    let found = subst (λ l. IsPlace l c.args.at c.in-Some.k) (sym c.self.view_is) c.in-Some.ensures.found in
    let held : slice_index_or facts c.in-Some.k c.index_mut.result.now ≡ c.index_mut.result.now = search rules in
    let at = sym (ap (λ s. s.at) held) ∙ found.here c.index_mut.result.now in
    subst (λ l. IsJoined c.args.at c.args.fact.now (stored l) (stored (slice_set facts c.in-Some.k (stored_fact c.index_mut.result.now.at c.join.new.self))))
    c.self.view_is
    (subst (λ n. IsJoined c.args.at c.args.fact.now (stored facts) (stored (slice_set facts c.in-Some.k (stored_fact n c.join.new.self)))) (sym at)
    (joined_is facts c.args.at c.in-Some.k c.index_mut.result.now c.join.new.self c.args.fact.now found
    (subst (λ s. IsSame c.join.new.self (join_fact s.fact c.args.fact.now)) (sym held) c.join.ensures.joined)))

pub returns-clause-both : goal.returns-clause-both
returns-clause-both c e =
    let facts = c.self.inside.facts.items in
    let found = subst (λ l. IsPlace l c.args.at c.in-Some.k) (sym c.self.view_is) c.in-Some.ensures.found in
    let held : slice_index_or facts c.in-Some.k c.index_mut.result.now ≡ c.index_mut.result.now = search rules in
    let at = sym (ap (λ s. s.at) held) ∙ found.here c.index_mut.result.now in
    ap (λ n. stored (slice_set facts c.in-Some.k (stored_fact n c.join.new.self)) c.args.at) at
    ∙ stored_here facts c.args.at c.in-Some.k c.join.new.self found
    ∙ ap Some (sym c.join.ensures.both)

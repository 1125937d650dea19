use Rattle.std.proofs.Common.{◌≡◌, rules, sym, subst, ap, ◌∙◌, Some}
use Rattle.std.specs.Prelude.{slice_index_or}
use Rattle.verifier.specs.Facts.{stored, IsPlace}
use Rattle.verifier.proofs.Storing.{stored_at}
use Rattle.verifier.proofs.table.Table.read_at.Goals as goal

pub returns-in-Some : goal.returns-in-Some
returns-in-Some c =
    let facts = c.self.inside.facts.items in
    let held : slice_index_or facts c.in-Some.k c.index.result.now ≡ c.index.result.now = search rules in
    let found = subst (λ l. IsPlace l c.args.at c.in-Some.k) (sym c.self.view_is) c.in-Some.ensures.found in
    ap (λ s. Some s.fact) (sym held) ∙ sym (stored_at facts c.args.at c.in-Some.k c.index.result.now found) ∙ ap (λ l. stored l c.args.at) c.self.view_is

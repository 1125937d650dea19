use Rattle.std.proofs.Common.{◌≡◌, ◌-◌, suc, arith, subst}
use Rattle.std.specs.Prelude.{slice_index}
use Rattle.verifier.specs.Facts.{IsPlace}
use Rattle.verifier.proofs.table.Table.place_of.Goals as goal

pub returns-in_default-clause-found : goal.returns-in_default-clause-found
returns-in_default-clause-found c =
    let place = slice_index c.self.inside.places c.args.at in
    let next : place ≡ suc (place - 1) = omega arith in
    subst (λ l. IsPlace l c.args.at (place - 1)) c.self.view_is (c.self.invariant.some c.args.at (place - 1) next)

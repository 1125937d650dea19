use Rattle.std.proofs.Common.{◌≡◌, FitsSigned, w64, refl, rules}
use Rattle.std.proofs.lemmas.Int.{to_z-of_z}
use Rattle.std.specs.Prelude.{◌+ℤ◌, pos}
use Rattle.std.specs.Int.{int_div_euclid}
use Rattle.zones.specs.Ends.{date_at, IsDate}
use Rattle.zones.proofs.Ranges.{date_in}
use Rattle.zones.proofs.ends.date_at.Goals as goal

quotient : (c : goal.After-div_euclid) → c.div_euclid.result ≡ int_div_euclid (c.args.moment +ℤ c.to_offset.result.seconds) (pos 86400)
quotient c =
    let small : FitsSigned w64 c.args.moment = search rules in
    let fits : FitsSigned w64 c.local_at.result = search rules in
    rw (to_z-of_z w64 c.local_at.result fits, c.local_at.ensures, to_z-of_z w64 c.args.moment small) at c.div_euclid.ensures

pub returns-clause-date : goal.returns-clause-date
returns-clause-date c =
    let small : FitsSigned w64 c.args.moment = search rules in
    let fits : FitsSigned w64 c.div_euclid.result = search rules in
    rw (to_z-of_z w64 c.div_euclid.result fits, quotient c, c.to_offset.ensures, c.instant_at.ensures, to_z-of_z w64 c.args.moment small) refl

pub returns-clause-first : goal.returns-clause-first
returns-clause-first c =
    let fits : FitsSigned w64 c.div_euclid.result = search rules in
    rw (to_z-of_z w64 c.div_euclid.result fits, quotient c) (date_in c.args.moment c.to_offset.result.seconds c.requires c.to_offset.result.in_range).0

pub returns-clause-later : goal.returns-clause-later
returns-clause-later c =
    let fits : FitsSigned w64 c.div_euclid.result = search rules in
    rw (to_z-of_z w64 c.div_euclid.result fits, quotient c) (date_in c.args.moment c.to_offset.result.seconds c.requires c.to_offset.result.in_range).1

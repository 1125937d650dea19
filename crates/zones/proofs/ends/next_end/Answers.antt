use Rattle.std.proofs.Common.{◌≡◌, FitsSigned, w64, refl, rules, arith}
use Rattle.jiff_core.proofs.SignedLemmas.{signed_arith}
use Rattle.std.proofs.lemmas.Int.{to_z-of_z}
use Rattle.zones.specs.Ends.{date_at}
use Rattle.zones.proofs.ends.next_end.Goals as goal

pub returns : goal.returns
returns c =
    let small : FitsSigned w64 c.args.moment = search rules in
    let moment = to_z-of_z w64 c.args.moment small in
    let date : c.date_at-date.result ≡ date_at c.args.zone c.args.moment = rw moment at c.date_at-date.ensures.date in
    let here : FitsSigned w64 c.date_at-date.result = search rules in
    let there : FitsSigned w64 c.later_date.result = search rules in
    let beyond : FitsSigned w64 c.later_date-2.result = search rules in
    let same = to_z-of_z w64 c.date_at-date.result here in
    record {
      within = λ is. record {
        today = c.end_on.result;
        ends_today = rw (same, date) at c.end_on.ensures;
        next = c.end_on-2.result;
        ends_next = rw (to_z-of_z w64 c.later_date.result there, c.later_date.ensures.date, same, date) at c.end_on-2.ensures;
        later = c.end_on-3.result;
        ends_later = rw (to_z-of_z w64 c.later_date-2.result beyond, c.later_date-2.ensures.date, same, date) at c.end_on-3.ensures;
        first = rw (c.or-2.ensures, c.or.ensures, rw moment at c.behind-today.ensures, rw moment at c.behind-next.ensures, rw moment at c.behind-later.ensures) refl;
      };
      outside = λ no. absurd (no (omega (arith, signed_arith), omega (arith, signed_arith)));
    }

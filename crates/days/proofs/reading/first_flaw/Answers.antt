use Rattle.std.proofs.Common.{refl, arith}
use Rattle.std.proofs.lemmas.Bool.Decides.{nat_tests}
use Rattle.days.proofs.Compared.{alike_more, line_differs, none_found, own_piece, some_found}
use Rattle.days.proofs.reading.first_flaw.Goals as goal

pub returns-in_default : goal.returns-in_default
returns-in_default c = record {
  rest = c.loop-rest.rest.now;
  left = c.loop-rest.left.now;
  number = c.loop-rest.number;
  alike = c.loop-rest.invariant;
  begins = (
    refl,
    grind (arith, nat_tests, c.loop-rest-test.ensures),
    own_piece c.loop-rest.rest.now c.first_part.result.0.now (none_found c.first_part.result.1 _ _ c.in_default.not-Some c.first_part.ensures),
  );
}

pub returns-in_default-behind_line : goal.returns-in_default-behind_line
returns-in_default-behind_line c =
    line_differs c.line_flaw.result c.args.text.now c.args.other.now c.loop-rest.rest.now c.loop-rest.left.now c.first_part.result.0.now c.in-Some.more.now
    c.loop-rest.number c.loop-rest.invariant (some_found c.first_part.result.1 c.in-Some.more _ _ c.in-Some.is c.first_part.ensures).0
    (none_found c.behind_line.result _ _ c.in_default-behind_line.not-Some c.behind_line.ensures) c.line_flaw.ensures

pub loop-rest-preserved : goal.loop-rest-preserved
loop-rest-preserved c =
    alike_more c.args.text.now c.args.other.now c.loop-rest.rest.now c.loop-rest.left.now c.in-Some.more.now c.in-Some-behind_line.behind.now
    c.first_part.result.0.now c.loop-rest.number c.saturating_add-number.result c.loop-rest.invariant
    (some_found c.first_part.result.1 c.in-Some.more _ _ c.in-Some.is c.first_part.ensures).0 c.in-Some-behind_line.ensures c.saturating_add-number.ensures

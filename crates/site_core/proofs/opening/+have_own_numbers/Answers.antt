use Rattle.std.proofs.Common.{◌≡◌, ◌∷◌, Some, ap, subst, rules}
use Rattle.std.specs.Prelude.{◌↔◌, IsTrue}
use Rattle.std.proofs.lemmas.Grind.{common_steps}
use Rattle.site_core.specs.SlotsValue.{Version}
use Rattle.site_core.specs.Opening.{IsNewNumber}
use Rattle.site_core.proofs.Numbers.{own_end, own_both, own_not}
use Rattle.site_core.proofs.opening.+have_own_numbers.Goals as goal

pub returns-in-None : goal.returns-in-None
returns-in-None t c = own_end c.args.rules.now (search (rules, common_steps))

pub returns-then-is_new_number : goal.returns-then-is_new_number
returns-then-is_new_number t c =
    let v = c.in-Some-Some-default.version in
    let rest = c.in-Some-Some-default.rest.now in
    let is : c.args.rules.now ≡ Some v ∷ rest = search (rules, common_steps) in
    let number : c.version.inside.number ≡ v.number = ap (λ (w : Version). w.number) c.version.view_is in
    own_both v rest c.args.rules.now c.have_own_numbers-then-is_new_number.result is
    (subst (IsNewNumber rest) number (c.is_new_number.ensures.0 c.if-is_new_number.true)) c.have_own_numbers-then-is_new_number.ensures

pub returns-else-is_new_number : goal.returns-else-is_new_number
returns-else-is_new_number t c =
    let v = c.in-Some-Some-default.version in
    let rest = c.in-Some-Some-default.rest.now in
    let is : c.args.rules.now ≡ Some v ∷ rest = search (rules, common_steps) in
    let number : c.version.inside.number ≡ v.number = ap (λ (w : Version). w.number) c.version.view_is in
    own_not v rest c.args.rules.now c.is_new_number.result is c.if-is_new_number.false
    (subst (λ n. IsTrue c.is_new_number.result ↔ IsNewNumber rest n) number c.is_new_number.ensures)

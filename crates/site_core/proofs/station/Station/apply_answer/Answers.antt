use Rattle.std.proofs.Common.{◌≡◌, ap, ◌∙◌, sym, eqb, true, false, arith, eq-eqb}
use Rattle.std.proofs.lemmas.Bool.Decides.{nat_tests}
use Rattle.till_request.specs.declared.act.Reply.TheVariants as reply
use Rattle.site_core.proofs.Grants.{applied_answer-deny, applied_answer-grant}
use Rattle.site_core.proofs.station.Station.apply_answer.Goals as goal

pub returns-then-r0-eq0-clause-applied_answer : goal.returns-then-r0-eq0-clause-applied_answer
returns-then-r0-eq0-clause-applied_answer c =
    let zero : eqb c.args.r0 0 ≡ true = eq-eqb c.args.r0 0 c.if-r0-eq0.true in
    applied_answer-deny c.args.self.now c.args.till c.args.version c.args.r0 c.args.question.now zero ∙ ap (λ x. (x, c.args.self.now)) (sym c.denied.ensures)

pub returns-clause-applied_answer : goal.returns-clause-applied_answer
returns-clause-applied_answer c =
    let some : eqb c.args.r0 0 ≡ false = grind (arith, nat_tests) in
    applied_answer-grant c.args.self.now c.args.till c.args.version c.args.r0 c.args.question.now some
    ∙ ap (λ g. (reply.Granted g.0 c.args.version, g.1)) c.grant.ensures.grant

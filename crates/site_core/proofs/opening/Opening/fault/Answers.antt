use Rattle.std.proofs.Common.{List, Some, rules, subst}
use Rattle.std.proofs.lemmas.Grind.{common_steps}
use Rattle.fuelling_point.specs.Table.{PointState}
use Rattle.site_core.specs.Fitting.{IsFirstLimitFault}
use Rattle.site_core.specs.Opening.{OpeningValue}
use Rattle.site_core.proofs.Carries.{limit_fault_is_first}
use Rattle.site_core.proofs.opening.Opening.fault.Goals as goal

pub returns-in-Some-clause-first : goal.returns-in-Some-clause-first
returns-in-Some-clause-first c =
    let o = c.self.inside in
    let f = c.in-Some.fault in
    limit_fault_is_first c.args.count c.args.self.now f (search (rules, common_steps)) (search (rules, common_steps))
    (subst (λ (x : OpeningValue). IsFirstLimitFault x.points x.cleared x.clears x.versions (Some f)) c.self.view_is
    (subst (λ (points : List PointState). IsFirstLimitFault points o.cleared o.clears o.versions (Some f)) c.as_slice.ensures.value c.in-Some.ensures))

use Rattle.std.proofs.Common.{◌≡◌, Some, None, ◌∙◌, sym}
use Rattle.site_core.specs.State.{at_number}
use Rattle.site_core.proofs.Points.{asked-none, asked-some}
use Rattle.site_core.proofs.station.Station.asked_at_point.Goals as goal

pub returns-in-None-clause-question : goal.returns-in-None-clause-question
returns-in-None-clause-question c =
    let at : at_number c.args.self.now.points c.args.question.point ≡ None = sym c.in-None.ensures in
    sym (asked-none c.args.self.now c.args.question at)

pub returns-in-Some-clause-question : goal.returns-in-Some-clause-question
returns-in-Some-clause-question c =
    let at : at_number c.args.self.now.points c.args.question.point ≡ Some c.in-Some.point.now = sym c.in-Some.ensures in
    c.asked_at.ensures.question ∙ sym (asked-some c.args.self.now c.args.question c.in-Some.point.now at)

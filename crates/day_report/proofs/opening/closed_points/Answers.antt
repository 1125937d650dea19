use Rattle.std.proofs.Common.{◌≡◌, subst}
use Rattle.std.specs.Prelude.{IfOk}
use Rattle.day_report.proofs.OneMore.{closed-is}
use Rattle.day_report.proofs.opening.closed_points.Goals as goal

pub returns : goal.returns
returns c =
    subst (λ xs. IfOk c.new_points.result (λ points. points.items ≡ xs))
    (closed-is c.points.result.now c.args.config.now.points c.points.ensures.points) c.new_points.ensures

use Rattle.std.proofs.Common.{length, ap}
use Rattle.std.specs.Prelude.{option_map}
use Rattle.std.specs.Arc.{arc_value}
use Rattle.site_core.specs.Opening.{IsOpening}
use Rattle.site_core.proofs.config.Config.opening.Goals as goal

pub returns-in-Some-clause-good : goal.returns-in-Some-clause-good
returns-in-Some-clause-good c =
    let good : IsOpening (length c.self.inside.points.items) (arc_value c.in-Some.opening) =
    c.self.invariant.opening (arc_value c.in-Some.opening) (ap (option_map (λ o. arc_value o)) c.in-Some.is) in
    rw (c.deref.ensures, ← c.self.view_is) good

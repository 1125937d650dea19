use Rattle.std.specs.Prelude.{length}
use Rattle.site_core.proofs.same.+are_same_points.Given as goal

abbrev pub decreases-are_same_points : goal.decreases-are_same_points
decreases-are_same_points l = length l.a.now

use Rattle.std.specs.Prelude.{length}
use Rattle.site_core.proofs.same.+are_same_rules.Given as goal

abbrev pub decreases-are_same_rules : goal.decreases-are_same_rules
decreases-are_same_rules l = length l.a.now

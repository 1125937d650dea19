use Rattle.std.specs.Prelude.{length}
use Rattle.site_core.proofs.opening.+have_own_numbers.Given as goal

abbrev pub decreases-have_own_numbers : goal.decreases-have_own_numbers
decreases-have_own_numbers l = length l.rules.now

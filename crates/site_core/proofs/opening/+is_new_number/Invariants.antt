use Rattle.std.specs.Prelude.{length}
use Rattle.site_core.proofs.opening.+is_new_number.Given as goal

abbrev pub decreases-is_new_number : goal.decreases-is_new_number
decreases-is_new_number l = length l.rules.now

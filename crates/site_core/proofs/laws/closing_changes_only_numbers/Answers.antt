use Rattle.site_core.proofs.NextDay.{closing_changes_only_numbers}
use Rattle.site_core.proofs.laws.closing_changes_only_numbers.Goals as goal

pub returns : goal.returns
returns c = closing_changes_only_numbers

use Rattle.site_config.proofs.Laws.{own_lines}
use Rattle.site_config.proofs.doors.law_of_own_lines.Goals as goal

pub returns : goal.returns
returns c = own_lines

use Rattle.site_server.proofs.Credit.{is_bounded, is_prompt}
use Rattle.site_server.proofs.pace.law_of_pace.Goals as goal

pub returns-clause-bounded : goal.returns-clause-bounded
returns-clause-bounded c = is_bounded

pub returns-clause-prompt : goal.returns-clause-prompt
returns-clause-prompt c = is_prompt

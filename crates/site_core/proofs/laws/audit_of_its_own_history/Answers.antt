use Rattle.site_core.proofs.Complete.{own_audit}
use Rattle.site_core.proofs.laws.audit_of_its_own_history.Goals as goal

pub returns : goal.returns
returns c = own_audit

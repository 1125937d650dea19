use Rattle.site_core.proofs.Undecided.{effect-iff-run}
use Rattle.site_core.proofs.laws.programs_alone_decide.Goals as goal

pub returns : goal.returns
returns c = λ config past s moment act. effect-iff-run config past s moment act

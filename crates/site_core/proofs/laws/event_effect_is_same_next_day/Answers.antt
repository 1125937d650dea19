use Rattle.std.proofs.Common.{sym}
use Rattle.site_core.proofs.Days.{effect-followed}
use Rattle.site_core.proofs.laws.event_effect_is_same_next_day.Goals as goal

pub returns : goal.returns
returns c = λ site later s moment act is h. sym (effect-followed site later s moment act is h)

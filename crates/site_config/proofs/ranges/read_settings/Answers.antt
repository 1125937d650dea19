use Rattle.site_config.proofs.Memory.{taken}
use Rattle.site_config.proofs.ranges.read_settings.Goals as goal

pub returns-in-Ok-clause-memory : goal.returns-in-Ok-clause-memory
returns-in-Ok-clause-memory c = λ is. taken c.args.bytes.now _ c.in-Ok.ensures.read (c.settings_in.ensures.memory is)

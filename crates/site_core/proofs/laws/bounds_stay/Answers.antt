use Rattle.std.specs.Prelude.{reverse}
use Rattle.site_core.proofs.CounterBounds.{bounds_kept}
use Rattle.site_core.proofs.laws.bounds_stay.Goals as goal

pub returns : goal.returns
returns c site upholds = bounds_kept site.config (reverse site.history) site.state upholds.legal

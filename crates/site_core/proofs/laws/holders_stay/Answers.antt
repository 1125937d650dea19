use Rattle.std.specs.Prelude.{reverse}
use Rattle.site_core.proofs.Carries.{holders_kept}
use Rattle.site_core.proofs.laws.holders_stay.Goals as goal

pub returns : goal.returns
returns c site upholds first = holders_kept site.config (reverse site.history) site.state upholds.legal first

use Rattle.std.proofs.lemmas.Slice.Eq.{slice_eq-Decides}
use Rattle.site_core.proofs.Pairs.{pairs-same}
use Rattle.site_core.proofs.config.is_same_points.Goals as goal

pub returns : goal.returns
returns c = slice_eq-Decides pairs-same c.args.a.now c.args.b.now c.eq.result c.eq.ensures

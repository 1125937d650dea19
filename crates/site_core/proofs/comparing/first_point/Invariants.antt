use Rattle.std.proofs.Common.{◌≡◌, ℕ, ◌<◌, get_or}
use Rattle.bpf_model.specs.declared.machine.PointView.{PointView}
use Rattle.site_core.proofs.comparing.first_point.Given as goal

abbrev pub invariant-loop-i : goal.invariant-loop-i
invariant-loop-i l = (k : ℕ) (d : PointView) → k < l.i → get_or l.a k d ≡ get_or l.b k d

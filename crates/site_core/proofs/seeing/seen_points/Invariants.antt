use Rattle.std.proofs.Common.{◌≡◌, ◌-◌, ◌++◌, take, map, replicate}
use Rattle.bpf_model.specs.Machine.{no_point}
use Rattle.site_core.specs.State.{seen}
use Rattle.site_core.proofs.seeing.seen_points.Given as goal

abbrev pub invariant-loop-i : goal.invariant-loop-i
invariant-loop-i l = l.all ≡ map seen (take l.i l.fn.points) ++ replicate (32 - l.i) no_point

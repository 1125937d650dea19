use Rattle.std.proofs.Common.{◌≡◌, suc, ◌+◌, ◌-◌, ◌<◌, ◌++◌, length, take, map, replicate, set, get_or, arith, ap, ◌∙◌, add-one}
use Rattle.std.proofs.lemmas.Grind.{common_steps}
use Rattle.std.proofs.lemmas.List.{take_all}
use Rattle.bpf_model.specs.Machine.{no_point}
use Rattle.fuelling_point.specs.Table.{PointState}
use Rattle.site_core.specs.State.{seen_points, seen}
use Rattle.site_core.proofs.Filling.{fill-more}
use Rattle.site_core.proofs.seeing.seen_points.Goals as goal

pub loop-i-preserved : goal.loop-i-preserved
loop-i-preserved c =
    let points = c.args.points.now in
    let d : PointState = c.index-points-i.result in
    let i = c.loop-i.i in
    let is : c.seen.result ≡ seen (get_or points i d) = c.seen.ensures ∙ ap seen c.index-points-i.is in
    let lt : i < length points = c.loop-i-test.true in
    let gap : 32 - i ≡ suc (32 - suc i) = omega (arith, c.requires) in
    let more : set c.loop-i.all i c.seen.result ≡ map seen (take (i + 1) points) ++ replicate (32 - (i + 1)) no_point =
    rw (c.loop-i.invariant, is, add-one, gap) (fill-more seen no_point points d i (32 - suc i) lt) in
    more

pub returns : goal.returns
unfolding seen_points
returns c =
    let points = c.args.points.now in
    let i = c.loop-i.i in
    let at : i ≡ length points = grind (arith, common_steps) in
    let whole : take i points ≡ points = take_all i points (omega (arith, at)) in
    c.loop-i.invariant ∙ (λ j. map seen (whole j) ++ replicate (32 - at j) no_point)

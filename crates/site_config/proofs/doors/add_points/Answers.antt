use Rattle.std.proofs.Common.{ℤ, pos, w64, FitsSigned, rules}
use Rattle.std.proofs.Math.ListN.{get_or}
use Rattle.std.proofs.lemmas.Int.{to_z-of_z}
use Rattle.std.proofs.lemmas.List.{drop_more}
use Rattle.site_config.proofs.Failing.{fails_points}
use Rattle.site_config.proofs.doors.add_points.Goals as goal

pub returns-in-Err-clause-read : goal.returns-in-Err-clause-read
returns-in-Err-clause-read c =
    let value : ℤ = get_or c.args.values.now c.loop-value.value-index (pos 0) in
    let fits : FitsSigned w64 value = search rules in
    fails_points c.args.list c.loop-value.place c.args.points c.loop-value.bits c.in-Err.flaw _ _ _ _ c.loop-value.invariant.read
    (drop_more c.args.values.now c.loop-value.value-index (pos 0) c.loop-value-test.true) (rw (to_z-of_z w64 value fits) at c.in-Err.ensures.read)

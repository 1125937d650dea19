use Rattle.std.proofs.Common.{rules, ◌<◌, length}
use Rattle.site_lock.specs.Passes.{PassView}
use Rattle.site_lock.specs.Merge.{AgreesFrom}
use Rattle.site_lock.proofs.Loops.{all_more}
use Rattle.site_lock.proofs.check.wrong_pass.Goals as goal

pub loop-pass-preserved : goal.loop-pass-preserved
loop-pass-preserved g c =
    let P : PassView → Type 0 = λ p. AgreesFrom c.args.history.now p.id c.args.base p.receipts in
    let here : P c.pass-item.result = search rules in
    let lt : c.loop-pass.pass-index < length c.args.passes.now = search rules in
    all_more P c.args.passes.now c.loop-pass.pass-index c.pass-item.result lt c.pass-item.is c.loop-pass.invariant here

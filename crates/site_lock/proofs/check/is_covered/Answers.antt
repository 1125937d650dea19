use Rattle.std.proofs.Common.{rules, ◌<◌, length}
use Rattle.site_lock.specs.Passes.{PassView}
use Rattle.site_lock.specs.Merge.{Covers}
use Rattle.site_lock.proofs.Loops.{all_more, none_of}
use Rattle.site_lock.proofs.check.is_covered.Goals as goal

pub loop-pass-preserved : goal.loop-pass-preserved
loop-pass-preserved g c =
    let P : PassView → Type 0 = λ p. Covers c.args.entry.now p → ⊥ in
    let lt : c.loop-pass.pass-index < length c.args.passes.now = search rules in
    let here : P c.pass-item.result = search rules in
    all_more P c.args.passes.now c.loop-pass.pass-index c.pass-item.result lt c.pass-item.is c.loop-pass.invariant here

pub returns : goal.returns
returns g c = none_of (Covers c.args.entry.now) c.args.passes.now c.loop-pass.pass-index c.loop-pass-test.false c.loop-pass.invariant

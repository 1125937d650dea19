use Rattle.std.proofs.Common.{subst, slice_index_or, ◌∙◌, ◌<◌, arith, length, drop, ◌++◌, sym}
use Rattle.std.proofs.lemmas.List.{get_or-take}
use Rattle.std.proofs.Math.ListN.{get_or-append}
use Rattle.site_lock.specs.Verdicts.{IsVerified}
use Rattle.site_lock.proofs.programs.verify_all.Goals as goal

pub returns-clause-each : goal.returns-clause-each
returns-clause-each g c = λ i d e h.
    let count = c.in_ok-verdicts.verdicts.len in
    let new = c.for_each_mut.new.s in
    let behind = drop (length new) c.in_ok-verdicts.verdicts.items in
    let within : i < count = omega (arith, c.in_ok-verdicts.ensures) in
    let old : i < length c.as_mut_slice.result.now = omega (arith, c.as_mut_slice.ensures.len, c.in_ok-verdicts.ensures) in
    let changed = (c.for_each_mut.ensures i e old).1 in
    let item = slice_index_or c.args.items.now i d in
    subst (IsVerified item.0.items item.1 item.2)
    (changed.left ∙ sym (get_or-append new behind e i (omega (arith, c.for_each_mut.auto.s))) ∙ sym (get_or-take count (new ++ behind) i e within))
    (changed.call d)

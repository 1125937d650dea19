use Rattle.std.proofs.Common.{length, sym, ap, arith}
use Rattle.site_core.specs.declared.context.Field.TheVariants.{Four}
use Rattle.site_core.proofs.Laying.{laid-none, laid-room, laid-put}
use Rattle.site_core.proofs.context.lay.Goals as goal

pub loop-field-init : goal.loop-field-init
loop-field-init c = record { at_is = ap length (sym laid-none); many = c.requires; front = sym laid-none }

pub slice_bounds-put-end : goal.slice_bounds-put-end
slice_bounds-put-end c =
    let room = laid-room c.args.fields.now c.loop-field.field-index (Four 0) c.loop-field-test.true in
    let i = c.loop-field.invariant in
    omega (arith, room, i.at_is, i.many, c.size.ensures)

pub loop-field-preserved : goal.loop-field-preserved
loop-field-preserved c =
    let i = c.loop-field.invariant in
    let put = laid-put c.args.fields.now c.loop-field.field-index c.loop-field.at c.size.result (Four 0) c.loop-field.bytes c.put.new.bytes
    c.loop-field-test.true i.at_is i.many i.front c.size.ensures c.put.ensures in
    record { at_is = put.0; many = put.1; front = put.2 }

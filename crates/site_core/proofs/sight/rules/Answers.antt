use Rattle.std.proofs.Common.{◌++◌, sym, ◌∙◌, arith}
use Rattle.std.specs.Prelude.{option_to_list}
use Rattle.site_core.specs.SightRooms.{slot_row}
use Rattle.site_core.proofs.Sights.{filter_more}
use Rattle.site_core.proofs.sight.rules.Goals as goal

pub loop-slot-preserved : goal.loop-slot-preserved
loop-slot-preserved c =
    let slot = c.loop-slot.slot in
    record {
      rows = c.push_some.ensures.items
          ∙ (λ i. c.loop-slot.invariant.rows i ++ option_to_list (c.slot_row.ensures i))
          ∙ sym (filter_more (slot_row c.args.slots.now) 0 slot slot (omega arith));
      few = omega (arith, c.push_some.ensures.len, c.loop-slot.invariant.few);
      room = omega (arith, c.push_some.ensures.capacity, c.loop-slot.invariant.room);
    }

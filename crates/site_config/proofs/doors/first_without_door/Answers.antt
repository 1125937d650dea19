use Rattle.std.proofs.Common.{rules, arith, refl, ◌+◌}
use Rattle.site_config.proofs.Taking.{one_left}
use Rattle.site_config.proofs.doors.first_without_door.Goals as goal

pub returns-then-not-is_taken-clause-found : goal.returns-then-not-is_taken-clause-found
returns-then-not-is_taken-clause-found c =
    one_left c.args.side c.args.doors.now c.loop-number.number (c.loop-number.number + 1) c.args.most refl (omega arith) c.loop-number.invariant.taken
    (search rules)

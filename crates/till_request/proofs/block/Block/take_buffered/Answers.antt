use Rattle.std.proofs.Common.{rules, ◌-◌, arith, length, refl}
use Rattle.till_request.proofs.Pieces.{buffered_lacks_room, buffered_moved}
use Rattle.till_request.proofs.block.Block.take_buffered.Goals as goal

pub returns-clause-taken : goal.returns-clause-taken
returns-clause-taken g c =
    buffered_moved c.args.self.now c.args.line.now.items c.extend_from_slice.new.self.items c.skip.new.self (8400 - length c.args.line.now.items) c.belongs.result
    c.min-count.result c.requires refl (search rules) (omega (arith, c.min-count.ensures)) (search rules) c.skip.ensures

pub returns-then-is_err-clause-memory : goal.returns-then-is_err-clause-memory
returns-then-is_err-clause-memory g c =
    buffered_lacks_room c.args.self.now c.args.line.now.items (8400 - length c.args.line.now.items) c.belongs.result c.min-count.result c.args.line.now.cap
    c.args.most c.requires refl (search rules) (omega (arith, c.min-count.ensures)) (omega (arith, c.min-count.ensures)) (omega (arith, c.args.line.now.ok.0, c.args.line.now.ok.1)) (search (rules, c.extend_from_slice.ensures.full))

use Rattle.std.specs.Io.KnownBytes.{prepend_known}
use Rattle.till_request.proofs.Pieces.{buffered_with_device, lacks_ahead}
use Rattle.till_request.proofs.Taken.{goes_on}
use Rattle.till_request.proofs.block.Block.next_byte_after_buffered.Goals as goal

pub returns-in-Ok-clause-some : goal.returns-in-Ok-clause-some
returns-in-Ok-clause-some g c =
    let ahead = g.I.LineIn.remaining c.args.input.now in
    goes_on (prepend_known c.args.self.now ahead) (prepend_known c.take_buffered.new.self ahead)
    (prepend_known c.next_byte.new.self (g.I.LineIn.remaining c.next_byte.new.input)) c.args.line.now.items c.take_buffered.new.line.items c.next_byte.result
    (buffered_with_device ahead _ _ _ _ _ c.in-Ok.ensures.taken) c.next_byte.ensures.some

pub returns-in-Err-clause-memory : goal.returns-in-Err-clause-memory
returns-in-Err-clause-memory g c = λ is. lacks_ahead (g.I.LineIn.remaining c.args.input.now) _ _ _ _ c.in-Err.ensures.memory

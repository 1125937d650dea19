use Rattle.till_request.proofs.Pieces.{buffered_with_device, lacks_ahead}
use Rattle.till_request.proofs.Taken.{on_err_always}
use Rattle.till_request.proofs.devices.AheadLineIn.read_buffered.Goals as goal

pub returns-clause-taken : goal.returns-clause-taken
returns-clause-taken g c = buffered_with_device _ _ _ _ _ _ c.in_ok-count.ensures.taken

pub returns-in_err-count-clause-memory : goal.returns-in_err-count-clause-memory
returns-in_err-count-clause-memory g c = on_err_always _ (lacks_ahead _ _ _ _ _ c.in_err-count.ensures.memory)

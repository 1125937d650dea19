use Rattle.std.proofs.Common.{length, arith, sym}
use Rattle.verifier.proofs.Jumps.{fault_stays}
use Rattle.verifier.proofs.flow.first_jump_fault.Goals as goal

pub returns-in-Some : goal.returns-in-Some
returns-in-Some c =
    let us = c.args.units.now in
    sym (fault_stays us c.loop-pc.pc (length us) c.in-Some.fault (omega arith) c.loop-pc.invariant (sym c.in-Some.ensures))

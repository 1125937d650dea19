use Rattle.std.proofs.Common.{◌≡◌, ◌-◌, length}
use Rattle.verifier.specs.LoadOptions.{options_of}
use Rattle.interp.specs.Operating.{IsRunningOperations, machine}
use Rattle.explaining.proofs.Completing.{Completes}
use Rattle.explaining.proofs.tracing.trace_on.Given as goal

abbrev pub decreases-loop-next : goal.decreases-loop-next
decreases-loop-next l = length l.ops - l.pc

abbrev pub invariant-loop-next : goal.invariant-loop-next
invariant-loop-next l =
    record {
      many : length l.frame.words ≡ 11;
      room : length l.frame.stack ≡ 512;
      run : IsRunningOperations l.program.bytes (options_of l.program) l.ops l.context l.view l.fn.before l.pc (machine l.frame l.counters);
      completes : Completes l.program l.context l.view l.fn.before l.states.items run.running.reached.state;
    }

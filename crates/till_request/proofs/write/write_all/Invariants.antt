use Rattle.std.proofs.Common.{◌≤◌, ◌-◌, length, take}
use Rattle.std.specs.Io.KnownBytes.{Appends}
use Rattle.till_request.specs.Count.{RoseBy}
use Rattle.till_request.proofs.write.write_all.Given as goal

-- the bytes before place `at` were written, and no write failed
abbrev pub invariant-loop-at : goal.invariant-loop-at
invariant-loop-at g l = record {
  out : Appends (g.O.LineOut.written l.initial.output) (g.O.LineOut.written l.output) (take l.at l.bytes);
  within : l.at ≤ length l.bytes;
  failed : RoseBy 0 (g.O.LineOut.failures l.initial.output) (g.O.LineOut.failures l.output);
}

abbrev pub decreases-loop-at : goal.decreases-loop-at
decreases-loop-at g l = length l.bytes - l.at

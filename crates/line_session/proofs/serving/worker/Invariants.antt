use Rattle.std.proofs.Common.{◌≤◌}
use Rattle.line_session.specs.Serving.{RunsDeskSession, ServesConnection}
use Rattle.line_session.proofs.Visiting.{ServesAll}
use Rattle.line_session.proofs.serving.worker.Given as goal

-- the worker has served `counter` connections, and `clean` of them ended without a SessionFault
abbrev pub invariant-loop : goal.invariant-loop
invariant-loop g l = record {
  serves : ServesAll
      (ServesConnection g.S.Doors.opens g.S.Doors.fails g.S.Doors.reported (RunsDeskSession g.D.Desk.step g.D.Desk.looks g.C.Clock.tick l.role g.S.In.LineIn.remaining g.S.In.LineIn.reads
      g.S.In.LineIn.failures g.S.Out.LineOut.written g.S.Out.LineOut.failures))
      l.counter l.clean l.initial.doors (l.initial.clock, l.initial.desk) l.doors (l.clock, l.desk);
  few : l.clean ≤ l.counter;
  closes : g.S.Doors.may_close l.doors → g.S.Doors.may_close l.initial.doors;
}

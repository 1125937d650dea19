use Rattle.std.proofs.Common.{◌≤◌, ◌+◌, ◌-◌}
use Rattle.till_request.specs.Count.{RoseBy}
use Rattle.line_session.specs.Buffering.{HoldsWithBuffered}
use Rattle.line_session.specs.Session.{desk_answers}
use Rattle.line_session.proofs.Buffered.{Answers}
use Rattle.line_session.proofs.pipelined.Progress.answer_lines.Given as goal

-- the lines so far were read and answered, and the answers were written or are buffered
abbrev pub invariant-turns : goal.invariant-turns
invariant-turns g l = record {
  answering : HoldsWithBuffered (Answers (desk_answers g.D.Desk.step g.D.Desk.looks g.C.Clock.tick l.role) (l.initial.clock, l.initial.desk) (l.clock, l.desk)
      (g.S.In.LineIn.remaining l.initial.connection.input) (g.S.In.LineIn.remaining l.connection.input) l.count)
      (g.S.Out.LineOut.written l.initial.connection.output) (g.S.Out.LineOut.written l.connection.output) l.self.pending.held.items;
  within : l.count + l.self.left ≤ l.initial.self.left;
  reads : RoseBy (l.initial.self.left - l.self.left) (g.S.In.LineIn.reads l.initial.connection.input) (g.S.In.LineIn.reads l.connection.input);
  asked : RoseBy (l.initial.self.left - l.self.left) (g.S.In.LineIn.asked l.initial.connection.input) (g.S.In.LineIn.asked l.connection.input);
  read : RoseBy 0 (g.S.In.LineIn.failures l.initial.connection.input) (g.S.In.LineIn.failures l.connection.input);
  write : RoseBy 0 (g.S.Out.LineOut.failures l.initial.connection.output) (g.S.Out.LineOut.failures l.connection.output);
}

abbrev pub decreases-turns : goal.decreases-turns
decreases-turns g l = l.self.left

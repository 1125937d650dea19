use Rattle.std.proofs.Common.{◌≤◌, ◌+◌, ◌-◌, []}
use Rattle.till_request.specs.Count.{RoseBy}
use Rattle.line_session.specs.Answering.{AnswersLines}
use Rattle.line_session.proofs.answering.answer_lines_within.Given as goal

-- the lines so far were read and answered, and the answers were written
abbrev pub invariant-turns : goal.invariant-turns
invariant-turns g l = record {
  answering : AnswersLines (g.S.LineHandler.answers_with l.handler) (l.initial.clock, l.initial.desk) (l.clock, l.desk) (g.I.LineIn.remaining l.initial.input)
      (g.I.LineIn.remaining l.input) (g.O.LineOut.written l.initial.output) (g.O.LineOut.written l.output) l.count [] [];
  within : l.count + l.left ≤ l.initial.left;
  reads : RoseBy (l.initial.left - l.left) (g.I.LineIn.reads l.initial.input) (g.I.LineIn.reads l.input);
  asked : RoseBy (l.initial.left - l.left) (g.I.LineIn.asked l.initial.input) (g.I.LineIn.asked l.input);
  read : RoseBy 0 (g.I.LineIn.failures l.initial.input) (g.I.LineIn.failures l.input);
  write : RoseBy 0 (g.O.LineOut.failures l.initial.output) (g.O.LineOut.failures l.output);
}

abbrev pub decreases-turns : goal.decreases-turns
decreases-turns g l = l.left

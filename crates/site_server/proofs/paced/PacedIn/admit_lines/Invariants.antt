use Rattle.std.proofs.Common.{◌<◌}
use Rattle.site_server.proofs.paced.PacedIn.admit_lines.Given as goal

-- each line so far was reported
abbrev pub invariant-loop-line : goal.invariant-loop-line
invariant-loop-line g l = 0 < l._line → g.N.Notices.line_reported l.self.role l.self.pass

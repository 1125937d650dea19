use Rattle.std.specs.Io.KnownBytes.{Keeps}
use Rattle.site_server.specs.Guarding.{ahead_of}
use Rattle.site_server.proofs.Ahead.{left_to_judge}
use Rattle.site_server.proofs.guard.judge_peer.Given as goal

abbrev pub invariant-loop-beginning : goal.invariant-loop-beginning
invariant-loop-beginning g l =
    Keeps (ahead_of l.initial.beginning (g.R.Read.remaining l.initial.reader)) (ahead_of l.beginning (g.R.Read.remaining l.reader))

abbrev pub decreases-loop-beginning : goal.decreases-loop-beginning
decreases-loop-beginning g l = left_to_judge l.beginning.verdict l.beginning.kept

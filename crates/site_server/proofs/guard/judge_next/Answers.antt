use Rattle.std.proofs.Common.{rules}
use Rattle.site_server.proofs.Ahead.{appended, finished}
use Rattle.site_server.proofs.guard.judge_next.Goals as goal

pub returns-in-Ok-eq0-clause-ahead : goal.returns-in-Ok-eq0-clause-ahead
returns-in-Ok-eq0-clause-ahead g c = finished _ _ _ _ _ _ (search rules) (search rules) (search rules) c.finish.ensures.kept c.finish.ensures.verdict

pub returns-in-Ok-clause-ahead : goal.returns-in-Ok-clause-ahead
returns-in-Ok-clause-ahead g c =
    appended _ _ _ _ _ _ _ (search rules) (search rules) c.append.ensures.kept c.append.ensures.verdict

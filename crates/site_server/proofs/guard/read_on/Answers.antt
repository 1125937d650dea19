use Rattle.std.proofs.Common.{rules}
use Rattle.site_server.proofs.Ahead.{passed_on}
use Rattle.site_server.proofs.guard.read_on.Goals as goal

pub returns-clause-bytes : goal.returns-clause-bytes
returns-clause-bytes g c =
    passed_on _ _ c.pass_on.new.buffer c.pass_on.result _ _ _ (search rules) c.pass_on.ensures.verdict (search rules) c.pass_on.ensures.count
    c.pass_on.ensures.passed c.pass_on.ensures.kept

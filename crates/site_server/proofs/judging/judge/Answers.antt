use Rattle.site_server.proofs.Paths.{joined_so}
use Rattle.site_server.proofs.judging.judge.Goals as goal

pub returns : goal.returns
returns c =
    joined_so c.args.bytes.now c.judge_opening.result c.judge_path.result c.either.result c.judge_opening.ensures c.judge_path.ensures c.either.ensures

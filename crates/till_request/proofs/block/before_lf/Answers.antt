use Rattle.till_request.proofs.Pieces.{ends_behind}
use Rattle.till_request.proofs.block.before_lf.Goals as goal

pub returns : goal.returns
returns c = ends_behind c.args.bytes.now c.memchr.result c.memchr.ensures

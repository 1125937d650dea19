use Rattle.site_server.proofs.Paths.{path_so, too_long}
use Rattle.site_server.proofs.judging.judge_path.Goals as goal

pub returns-then-length-gt-WORD_BYTES : goal.returns-then-length-gt-WORD_BYTES
returns-then-length-gt-WORD_BYTES c =
    too_long c.args.bytes.now c.word_length-length.result c.word_length-length.ensures.length c.if-length-gt-WORD_BYTES.true

pub returns : goal.returns
returns c =
    path_so c.args.bytes.now c.word_length-length.result c.judge_behind.result c.word_length-length.ensures.length c.if-length-gt-WORD_BYTES.false
    c.judge_behind.ensures

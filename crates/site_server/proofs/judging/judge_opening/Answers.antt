use Rattle.std.proofs.Common.{rules, [], arith, refl, sym, ◌∙◌}
use Rattle.std.proofs.Math.ListN.{drop_of_length-le}
use Rattle.site_server.proofs.FirstWords.{ended_so, is_other, unended_so}
use Rattle.site_server.proofs.Paths.{lacks_line}
use Rattle.site_server.proofs.judging.judge_opening.Goals as goal
use Rattle.site_server.proofs.judging.judge_opening.Goals.{else-bytes-lt8-via-then-bytes-lt8+else-are_capitals, else-bytes-lt8-via-else-bytes-lt8}

pub returns-then-length-bytes : goal.returns-then-length-bytes
returns-then-length-bytes c =
    ended_so c.args.bytes.now c.word_length-length.result c.is_method.result c.verdict_on.result (search rules) c.word_length-length.ensures.length
    c.if-length-bytes.true c.is_method.ensures c.verdict_on.ensures

pub returns-then-are_capitals : goal.returns-then-are_capitals
returns-then-are_capitals c =
    let few = c.if-bytes-lt8.true in (
      omega (arith, few),
      lacks_line c.args.bytes.now [] c.word_length-length.result c.word_length-length.ensures.length (drop_of_length-le c.args.bytes.now c.if-length-bytes.false) refl,
    )

pub returns-else-bytes-lt8 : goal.returns-else-bytes-lt8
returns-else-bytes-lt8 c =
    unended_so c.args.bytes.now c.word_length-length.result (search rules) c.word_length-length.ensures.length c.if-length-bytes.false
    (λ short. elim c.else-bytes-lt8.branch [
      | else-bytes-lt8-via-then-bytes-lt8+else-are_capitals w ↦ is_other _ (sym w.are_capitals.ensures ∙ w.if-are_capitals.false) short.0
      | else-bytes-lt8-via-else-bytes-lt8 w ↦ (let long = w.if-bytes-lt8.false in omega (arith, long, short.1))
    ])

use Rattle.till_request.proofs.Numerals.{digits_more, no_value}
use Rattle.till_request.proofs.numbers.value_of.Goals as goal

pub returns-in_err-value-clause-none : goal.returns-in_err-value-clause-none
returns-in_err-value-clause-none c =
    rw c.from_residual.ensures
    (no_value c.args.word.now c.loop-byte.byte-index c.loop-byte.value c.loop-byte-test.true c.loop-byte.invariant.value c.in_err-value.ensures.none)

pub loop-byte-preserved : goal.loop-byte-preserved
loop-byte-preserved c =
    let more = digits_more c.args.word.now c.loop-byte.byte-index c.loop-byte.value c.in_ok-value.value c.loop-byte-test.true c.loop-byte.invariant.digits
    c.loop-byte.invariant.value c.in_ok-value.ensures.some.0 c.in_ok-value.ensures.some.1 in
    record { digits = more.0; value = more.1 }

use Rattle.std.proofs.Common.{◌++◌, ◌∷◌, [], arith, rules}
use Rattle.till_request.proofs.Taken.{consumes_more, given_so}
use Rattle.site_config.proofs.Reading.{open_so}
use Rattle.site_config.proofs.head.read_head.Goals as goal

pub returns-in_err-push-in-Some-clause-given : goal.returns-in_err-push-in-Some-clause-given
returns-in_err-push-in-Some-clause-given g c =
    given_so _ _ _ (c.loop-bytes.bytes.items ++ c.in-Some.byte ∷ [])
    (consumes_more _ _ _ c.loop-bytes.bytes.items (c.in-Some.byte ∷ []) c.loop-bytes.invariant.taken (rw c.in-Some.is at c.in_ok-next_byte.ensures.some))

pub returns-in_err-push-in-Some-clause-memory : goal.returns-in_err-push-in-Some-clause-memory
returns-in_err-push-in-Some-clause-memory g c = λ is.
    let old = c.loop-bytes.bytes.items in
    let byte = c.in-Some.byte in (
      old,
      byte,
      consumes_more _ _ _ old (byte ∷ []) c.loop-bytes.invariant.taken (rw c.in-Some.is at c.in_ok-next_byte.ensures.some),
      open_so old c.loop-bytes.invariant.first (search rules) (omega arith),
      omega (arith, c.loop-bytes.invariant.each, c.in_ok-next_byte.ensures.used),
    )

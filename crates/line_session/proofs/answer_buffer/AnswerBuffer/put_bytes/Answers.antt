use Rattle.till_request.proofs.Taken.{on_err_always}
use Rattle.line_session.proofs.Sending.{lost_after, lost_behind}
use Rattle.line_session.proofs.answer_buffer.AnswerBuffer.put_bytes.Goals as goal

pub returns-in_err-flush-clause-err : goal.returns-in_err-flush-clause-err
returns-in_err-flush-clause-err g c =
    on_err_always _ (lost_behind _ _ _ _ (rw (c.hold.ensures.same c.if-hold.false) at c.in_err-flush.ensures.err))

pub returns-clause-err : goal.returns-clause-err
returns-clause-err g c =
    lost_after _ _ _ _ _ _ (rw (c.hold.ensures.same c.if-hold.false) at c.in_ok-flush.ensures.ok) c.write_now.ensures.err

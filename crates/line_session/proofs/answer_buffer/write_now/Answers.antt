use Rattle.line_session.proofs.Sending.{front_out}
use Rattle.line_session.proofs.answer_buffer.write_now.Goals as goal

pub returns-in-Err-clause-err : goal.returns-in-Err-clause-err
returns-in-Err-clause-err g c = front_out _ _ _ c.in-Err.ensures.err

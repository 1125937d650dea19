use Rattle.std.proofs.Common.{Ok, Err, refl, subst}
use Rattle.line_session.specs.Deciding.{Decides, with_room}
use Rattle.line_session.specs.declared.desk_handler.ToWrite.{ToWrite}
use Rattle.line_session.proofs.Deciding.{written_answers}
use Rattle.line_session.proofs.desk_handler.written_answer.Goals as goal

pub returns-in-Some-Room-clause-ok : goal.returns-in-Some-Room-clause-ok
returns-in-Some-Room-clause-ok g c =
    written_answers g.D.Desk.step g.D.Desk.looks g.C.Clock.tick c.args.role _ _ _ _ _ (Ok c.answer_to.new.room.items)
    (subst (λ (w : ToWrite). Decides g.D.Desk.step g.D.Desk.looks g.C.Clock.tick c.args.role c.args.line.now c.args.clock.now c.args.desk.now
    (with_room w c.answer_to.new.room.items) c.answer_to.new.clock c.answer_to.new.desk) c.in-Some-Room.field-0-is c.in-Some-Room.ensures.some) refl

pub returns-in-None-unwritten_error-clause-ok : goal.returns-in-None-unwritten_error-clause-ok
returns-in-None-unwritten_error-clause-ok g c =
    written_answers g.D.Desk.step g.D.Desk.looks g.C.Clock.tick c.args.role _ _ _ _ _ (Err c.in-Some-Answer.answer)
    (subst (λ (w : ToWrite). Decides g.D.Desk.step g.D.Desk.looks g.C.Clock.tick c.args.role c.args.line.now c.args.clock.now c.args.desk.now
    (with_room w c.answer_to.new.room.items) c.answer_to.new.clock c.answer_to.new.desk) c.in-Some-Answer.field-0-is c.in-Some-Answer.ensures.some)
    c.in-None-unwritten_error.ensures.none

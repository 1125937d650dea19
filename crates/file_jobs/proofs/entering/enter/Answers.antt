use Rattle.std.proofs.Common.{ap, subst, sym}
use Rattle.file_jobs.specs.declared.entering.Entered.{Entered}
use Rattle.file_jobs.specs.Loading.{IsLoadRefusal}
use Rattle.file_jobs.specs.Play.{ActAnswered, EventAnswered}
use Rattle.file_jobs.proofs.ActAnswers.{act_entered, act_not_refused, act_refused, act_shows_refusal}
use Rattle.file_jobs.proofs.entering.enter.Goals as goal

pub returns-in-Ok-clause-answered : goal.returns-in-Ok-clause-answered
returns-in-Ok-clause-answered c =
    let event : EventAnswered c.args.site.now c.args.moment c.args.act.now c.enter_event.result c.enter_event.new.site =
    subst (λ act. EventAnswered c.args.site.now c.args.moment act c.enter_event.result c.enter_event.new.site) c.in-Ok.ensures.act c.enter_event.ensures in
    subst (λ answer. ActAnswered c.args.site.now c.args.moment c.args.act.now answer c.enter_event.new.site) (sym (ap (λ (e : Entered). e.answer) c.unrefused.ensures))
    (act_entered c.args.site.now c.args.moment c.args.act.now c.enter_event.result c.enter_event.new.site event c.in-Ok.ensures.good c.in-Ok.ensures.accepted
    c.in-Ok.ensures.begins)

pub returns-in-Ok-clause-refused : goal.returns-in-Ok-clause-refused
returns-in-Ok-clause-refused c =
    subst (λ (e : Entered). IsLoadRefusal c.args.act.now e.answer e.refusal) (sym c.unrefused.ensures)
    (act_not_refused c.args.act.now c.enter_event.result c.in-Ok.ensures.good c.in-Ok.ensures.accepted)

pub returns-in-Err-clause-answered : goal.returns-in-Err-clause-answered
returns-in-Err-clause-answered c =
    act_refused c.args.site.now c.args.moment c.args.act.now c.in-Err.refusal c.refuse_load.result.answer
    (λ slot p. c.refuse_load.ensures.answered c.args.site.now c.args.moment slot p) c.in-Err.ensures.refused c.in-Err.ensures.exact c.in-Err.ensures.memory

pub returns-in-Err-clause-refused : goal.returns-in-Err-clause-refused
returns-in-Err-clause-refused c =
    act_shows_refusal c.args.act.now c.in-Err.refusal c.refuse_load.result.answer c.refuse_load.result.refusal c.refuse_load.ensures.refused
    c.in-Err.ensures.refused c.in-Err.ensures.exact

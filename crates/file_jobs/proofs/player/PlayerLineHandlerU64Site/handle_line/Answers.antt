use Rattle.std.proofs.Common.{rules}
use Rattle.till_request.specs.declared.act.Answer.TheVariants.{Line}
use Rattle.till_request.specs.Answer.{answer_line}
use Rattle.file_jobs.specs.Play.{AnswersScriptLine, TakesMemory}
use Rattle.file_jobs.proofs.Fronts.{falls_short}
use Rattle.file_jobs.proofs.player.PlayerLineHandlerU64Site.handle_line.Goals as goal

pub returns-in-Ok-Act-clause-err : goal.returns-in-Ok-Act-clause-err
returns-in-Ok-Act-clause-err g c =
    falls_short g.O.LineOut.written AnswersScriptLine c.args.line.now (answer_line c.enter-entered.result.answer) (c.args.moment.now, c.args.site.now)
    (c.args.moment.now, c.enter-entered.new.site) c.args.output.now c.write_play_answer.new.output (search rules) TakesMemory c.write_play_answer.result c.write_play_answer.ensures.err
    c.write_play_answer.ensures.cause

pub returns-in-Err-clause-err : goal.returns-in-Err-clause-err
returns-in-Err-clause-err g c =
    falls_short g.O.LineOut.written AnswersScriptLine c.args.line.now (answer_line (Line c.in-Err.fault)) (c.args.moment.now, c.args.site.now)
    (c.args.moment.now, c.args.site.now) c.args.output.now c.write_play_answer-in-Err.new.output (search rules) TakesMemory c.write_play_answer-in-Err.result
    c.write_play_answer-in-Err.ensures.err c.write_play_answer-in-Err.ensures.cause

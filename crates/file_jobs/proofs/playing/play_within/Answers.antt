use Rattle.site_core.specs.Site.{new_site}
use Rattle.line_session.specs.Answering.{drops_none}
use Rattle.file_jobs.specs.Play.{AnswersScriptLine, TakesMemory}
use Rattle.file_jobs.proofs.Fronts.{breaks_none, stops_none, no_journal, said_from, broken_from, stopped_from}
use Rattle.file_jobs.proofs.playing.play_within.Goals as goal

pub returns-in_default-clause-broken : goal.returns-in_default-clause-broken
returns-in_default-clause-broken g c =
    record { moment = 0; left = new_site c.args.config; breaks = breaks_none AnswersScriptLine drops_none (0, new_site c.args.config) _ _ }

pub returns-clause-all_answered : goal.returns-clause-all_answered
returns-clause-all_answered g c =
    said_from c.answer_lines_within.result c.in-Ok.site (new_site c.args.config) c.answer_lines_within.new.clock c.answer_lines_within.new.desk _ _ _ _ c.in-Ok.ensures
    c.answer_lines_within.ensures.all_answered

pub returns-clause-broken : goal.returns-clause-broken
returns-clause-broken g c =
    broken_from c.answer_lines_within.result c.in-Ok.site (new_site c.args.config) c.answer_lines_within.new.clock c.answer_lines_within.new.desk _ _ _ _ c.in-Ok.ensures
    c.answer_lines_within.ensures.broken

pub returns-clause-journal : goal.returns-clause-journal
returns-clause-journal g c =
    no_journal c.answer_lines_within.result c.in-Ok.site c.answer_lines_within.new.clock c.answer_lines_within.new.desk _ _ _ _ c.answer_lines_within.ensures.stopped

pub returns-in_default-clause-stopped : goal.returns-in_default-clause-stopped
returns-in_default-clause-stopped g c =
    λ _. record { moment = 0; left = new_site c.args.config; stops = stops_none AnswersScriptLine drops_none TakesMemory (0, new_site c.args.config) _ _ }

pub returns-clause-stopped : goal.returns-clause-stopped
returns-clause-stopped g c =
    stopped_from c.answer_lines_within.result c.in-Ok.site (new_site c.args.config) c.answer_lines_within.new.clock c.answer_lines_within.new.desk _ _ _ _ c.in-Ok.ensures
    c.answer_lines_within.ensures.stopped

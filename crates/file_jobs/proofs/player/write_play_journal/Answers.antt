use Rattle.decision_journal.specs.Text.{journal_text}
use Rattle.file_jobs.proofs.Fronts.{front_taken}
use Rattle.file_jobs.proofs.player.write_play_journal.Goals as goal

pub returns-in-Err-Device-clause-err : goal.returns-in-Err-Device-clause-err
returns-in-Err-Device-clause-err g c = front_taken _ _ (journal_text c.args.entries.now) c.in-Err-Device.ensures.err

pub returns-in-Err-BadEntry-clause-err : goal.returns-in-Err-BadEntry-clause-err
returns-in-Err-BadEntry-clause-err g c = front_taken _ _ (journal_text c.args.entries.now) c.in-Err-BadEntry.ensures.err

pub returns-in-Err-Cut-clause-err : goal.returns-in-Err-Cut-clause-err
returns-in-Err-Cut-clause-err g c = front_taken _ _ (journal_text c.args.entries.now) c.in-Err-Cut.ensures.err

pub returns-in-Err-OutOfMemory-clause-err : goal.returns-in-Err-OutOfMemory-clause-err
returns-in-Err-OutOfMemory-clause-err g c = front_taken _ _ (journal_text c.args.entries.now) c.in-Err-OutOfMemory.ensures.err

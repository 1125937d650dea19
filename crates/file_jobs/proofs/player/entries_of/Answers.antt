use Rattle.std.proofs.Common.{All, ◌≤◌, length, sym, subst}
use Rattle.decision_journal.specs.declared.entries.Entry.{Entry}
use Rattle.decision_journal.specs.Text.{entry_text}
use Rattle.file_jobs.proofs.Journals.{journal-of, short-lines}
use Rattle.file_jobs.proofs.player.entries_of.Goals as goal

pub returns-clause-journal : goal.returns-clause-journal
returns-clause-journal c = journal-of c.args.site.now c.history.ensures.upholds c.history.ensures.written

pub returns-clause-short : goal.returns-clause-short
returns-clause-short c = subst (All (λ (e : Entry). length (entry_text e) ≤ 8400)) (sym c.history.ensures.entries) (short-lines c.args.site.now.history c.history.ensures.written)

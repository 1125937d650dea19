-- Definitions: the words for why a session failed (source: this project).
use Rattle.std.specs.Prelude.{ℕ, List, codes}
use Rattle.line_session.specs.declared.answering.SessionFault.{SessionFault}
use Rattle.line_session.specs.declared.answering.SessionFault.TheVariants.{Read, Write, ReadsSpent, OutOfMemory, Journal, NextDay}

abbrev pub session_fault_text : SessionFault → List ℕ
session_fault_text Read = codes "a read failed"
session_fault_text Write = codes "a write failed"
session_fault_text ReadsSpent = codes "the reads ran out"
session_fault_text OutOfMemory = codes "out of memory"
session_fault_text Journal = codes "the journal failed"
session_fault_text NextDay = codes "the day ends"

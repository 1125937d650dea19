-- Definitions: what `fc audit` prints for a journal (source: this project).
use Rattle.std.specs.Prelude.{ℕ, List, [], ◌++◌, codes, Option, Some, None}
use Rattle.std.specs.Fmt.{decimal}
use Rattle.till_request.specs.declared.act.Answer.TheVariants.{Program}
use Rattle.till_request.specs.Answer.{answer_line}
use Rattle.verifier.specs.Refusals.{refusal_numbers}
use Rattle.site_core.specs.declared.flaw.EntryFlaw.{EntryFlaw}
use Rattle.site_core.specs.declared.flaw.EntryFlaw.TheVariants as flaw

-- The line for a load whose program is refused; empty if the refusal has no numbers. The line has, in this order:
-- - F2
-- - the number of the load's entry
-- - the verifier's fault (V1 to V20)
-- - the number of the unit, if the fault names a unit
-- - the number of the register or argument, if the fault names one
abbrev pub program_text : ℕ → Option (ℕ × (Option ℕ) × (Option ℕ)) → List ℕ
program_text number None = []
program_text number (Some p) = codes "F2 " ++ (decimal number ++ (codes " " ++ answer_line (Program p.0 p.1 p.2)))

abbrev pub line_of_flaw : EntryFlaw → List ℕ
line_of_flaw (flaw.Number place number) = codes "F1 " ++ decimal place ++ codes "\n"
line_of_flaw (flaw.Program place slot bytes refusal) = program_text place (refusal_numbers refusal)
line_of_flaw (flaw.Entry place difference) = codes "F3 " ++ decimal place ++ codes "\n"
line_of_flaw (flaw.Full place) = codes "F3 " ++ decimal place ++ codes "\n"

-- The line for a legal journal with this many entries.
abbrev pub legal_text : ℕ → List ℕ
legal_text entries = codes "legal " ++ decimal entries ++ codes "\n"

use Rattle.std.proofs.Common.{suc, [], length}
use Rattle.std.specs.Option.{option_map_or}
use Rattle.days.specs.declared.file.OpeningFile.{OpeningFile}
use Rattle.days.specs.Reading.{Reads, pieces}
use Rattle.days.proofs.reading.take_lines.Given as goal

abbrev pub invariant-loop-rest : goal.invariant-loop-rest
invariant-loop-rest l =
    (new : OpeningFile) → Reads l.reading (option_map_or (λ r. pieces r.now) l.rest []) new → Reads l.initial.reading (pieces l.text) new

abbrev pub decreases-loop-rest : goal.decreases-loop-rest
decreases-loop-rest l = option_map_or (λ r. suc (length r.now)) l.rest 0

use Rattle.std.proofs.Common.{◌≡◌, ◌++◌, length, map, string_bytes}
use Rattle.file_jobs.proofs.command_line.copies_of.Given as goal

-- Copying the rest of the texts and appending it to the copies so far gives the same as copying all texts.
abbrev pub invariant-loop-rest : goal.invariant-loop-rest
invariant-loop-rest l = map string_bytes l.copies.items ++ map (λ t. t.now) l.rest ≡ map (λ t. t.now) l.texts

abbrev pub decreases-loop-rest : goal.decreases-loop-rest
decreases-loop-rest l = length l.rest

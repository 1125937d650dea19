use Rattle.std.proofs.Common.{◌≡◌, drop}
use Rattle.file_jobs.specs.Days.{without_zeros}
use Rattle.file_jobs.proofs.folder.without_zeros.Given as goal

abbrev pub invariant-loop-at : goal.invariant-loop-at
invariant-loop-at l = without_zeros (drop l.at l.digits) ≡ without_zeros l.digits

use Rattle.std.proofs.Common.{◌≡◌, drop, bytes_eq}
use Rattle.std.specs.Map.{lookup}
use Rattle.file_jobs.specs.Days.{texts_of}
use Rattle.file_jobs.proofs.memory_folder.bytes_in.Given as goal

abbrev pub invariant-loop-file : goal.invariant-loop-file
invariant-loop-file l = lookup (bytes_eq l.name) (texts_of (drop l.file-index l.files)) ≡ lookup (bytes_eq l.name) (texts_of l.files)

use Rattle.std.proofs.Common.{◌≡◌, drop, fold}
use Rattle.file_jobs.specs.Days.{span_of, texts_of, with_found, day_named}
use Rattle.file_jobs.proofs.memory_folder.span_in.Given as goal

abbrev pub invariant-loop-file : goal.invariant-loop-file
invariant-loop-file l =
    fold (λ span file. with_found span (day_named file.0)) l.span (texts_of (drop l.file-index l.files)) ≡ span_of (texts_of l.files)

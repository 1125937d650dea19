use Rattle.std.proofs.Common.{◌≡◌, drop}
use Rattle.clap.specs.Words.{app_of}
use Rattle.file_jobs.specs.JobRequest.{top_app}
use Rattle.file_jobs.specs.Described.{with_words}
use Rattle.file_jobs.proofs.subcommands.with_words.Given as goal

-- Invariant of the loop: adding the remaining subcommands to `command` gives the program's command with all of `words`.
abbrev pub invariant-loop-word : goal.invariant-loop-word
invariant-loop-word l = with_words (app_of l.command) (drop l.word-index l.words) ≡ with_words top_app l.words

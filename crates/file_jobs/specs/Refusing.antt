-- Promises: which job or which fault a command line leads to.
use Rattle.std.specs.Prelude.{◌≡◌, ◌≢◌, ◌⊎◌, List, Option, Some, None, IsSome, Result, Ok, IsErr, String, string_bytes}
use Rattle.std.specs.Global.{Global}
use Rattle.std.specs.declared.alloc.AllocError.{AllocError}
use Rattle.clap.specs.Words.{Row, Text}
use Rattle.clap.specs.declared.error.kind.ErrorKind.{ErrorKind}
use Rattle.clap.specs.declared.error.kind.ErrorKind.TheVariants as kind
use Rattle.file_jobs.specs.JobRequest.{JobRequest, HasNoJob, IsHelpOrVersion, requested, subcommand_request, parsed_request, files_in, unasked_text}
use Rattle.file_jobs.specs.declared.job.Job.{Job}
use Rattle.file_jobs.specs.declared.job.CommandFault.{CommandFault}
use Rattle.file_jobs.specs.declared.job.CommandFault.TheVariants as refusal

-- `FindsFiles first second rows result`: `result` is the two files that the arguments `first` and `second` give, or
-- None if one of them isn't given.
abbrev pub FindsFiles : Text → Text → List Row → Option (String Global × String Global) → Type 0
FindsFiles first second rows (Some p) =
    (ask : Text → Text → JobRequest) → files_in first second ask rows ≡ Some (ask (string_bytes p.0) (string_bytes p.1))
FindsFiles first second rows None = (ask : Text → Text → JobRequest) → files_in first second ask rows ≡ None

-- The second argument is the job that the first argument asks for. If the second argument is None, so is the first.
abbrev pub Asks : Option JobRequest → Option Job → Type 0
Asks wanted (Some job) = (wanted ≡ requested job) × IsSome (requested job)
Asks wanted None = wanted ≡ None

-- `Finds name rows result`: `result` is the job that the subcommand `name` with the values `rows` asks for. It is None
-- only if there is no job for these values.
abbrev pub Finds : Text → List Row → Option Job → Type 0
Finds name rows (Some job) = (subcommand_request name rows ≡ requested job) × IsSome (requested job)
Finds name rows None = subcommand_request name rows ≡ None

abbrev pub IsJobOfLine : Option (Text × List Row) → Option Job → Type 0
IsJobOfLine found (Some job) = (parsed_request found ≡ requested job) × IsSome (requested job)
IsJobOfLine found None = HasNoJob found

-- When a parsed command line can be refused with this fault:
-- - `Usage` with the message about wrong, contradictory or incomplete values (`unasked_text`): if there is no job for
--   the command line (`HasNoJob`)
-- - `OutOfMemory`: always
abbrev pub IsNoJobMessage : Option (Text × List Row) → CommandFault → Type 0
IsNoJobMessage found (refusal.Usage text) = HasNoJob found × (string_bytes text ≡ unasked_text found)
IsNoJobMessage found refusal.OutOfMemory = Unit {0}

-- The fault that follows from an error of `clap`, given the kind of the error and its text:
-- - `Usage` with this text: only if the kind isn't the help, the version or `OutOfMemory`
-- - `OutOfMemory`: only if that is the kind, or if memory ran out when the text was made
abbrev pub IsRefusalOf : ErrorKind → Result (String Global) AllocError → CommandFault → Type 0
IsRefusalOf k made (refusal.Usage text) = (¬ IsHelpOrVersion k) × (k ≢ kind.OutOfMemory) × (made ≡ Ok text)
IsRefusalOf k made refusal.OutOfMemory = (k ≡ kind.OutOfMemory) ⊎ IsErr made

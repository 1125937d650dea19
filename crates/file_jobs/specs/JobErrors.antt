-- Definitions: what is printed of a job that ends before it is done, and its exit status (source: this project). The
-- exit statuses:
-- - 0: the job was done
-- - 1: the input was refused
-- - 2: the command line names no job that can be done
-- - 3: a file or another device couldn't be used, the next day had begun already, memory ran out, or more reads were
--   needed than are allowed
use Rattle.std.specs.Prelude.{◌≡◌, ◌⊎◌, ◌++◌, ℕ, ⊤, List, [], Option, Some, None, MatchOption, String, codes, decimal, string_bytes}
use Rattle.std.specs.Global.{Global}
use Rattle.pages.specs.Printing.{printable}
use Rattle.file_jobs.specs.StandardInput.{name_of}
use Rattle.file_jobs.specs.declared.messages.Place.{Place}
use Rattle.file_jobs.specs.declared.job_error.JobError.{JobError}
use Rattle.file_jobs.specs.declared.job_error.JobError.TheVariants as job_error

abbrev pub status_of : JobError → ℕ
status_of job_error.OutOfMemory = 3
status_of (job_error.Refused refusal) = refusal.status

-- what is printed of a message for which there may have been no memory
abbrev pub message_bytes : Option (String Global) → List ℕ
message_bytes None = codes "fc: out of memory\n"
message_bytes (Some message) = string_bytes message

-- what is printed on standard error
abbrev pub message_of : JobError → List ℕ
message_of job_error.OutOfMemory = message_bytes None
message_of (job_error.Refused refusal) = message_bytes refusal.message

-- what is printed on standard output
abbrev pub output_of : JobError → List ℕ
output_of job_error.OutOfMemory = []
output_of (job_error.Refused refusal) = string_bytes refusal.output

-- The job ends with this status and prints this on standard output.
abbrev pub Ends : ℕ → List ℕ → JobError → Type 0
Ends status output error = (status_of error ≡ status) × (output_of error ≡ output)

-- The same, or memory ran out and the job ends with 3.
abbrev pub EndsOrRunsOut : ℕ → List ℕ → JobError → Type 0
EndsOrRunsOut status output job_error.OutOfMemory = ⊤
EndsOrRunsOut status output (job_error.Refused refusal) = (refusal.status ≡ status) × (string_bytes refusal.output ≡ output)

-- The job ends with this status or with 3, or memory ran out.
abbrev pub Refuses : ℕ → JobError → Type 0
Refuses status job_error.OutOfMemory = ⊤
Refuses status (job_error.Refused refusal) = (refusal.status ≡ status) ⊎ (refusal.status ≡ 3)

-- The message has these words, with control characters escaped.
abbrev pub HasWords : List ℕ → String Global → Type 0
HasWords words message = string_bytes message ≡ codes "fc: " ++ (printable words ++ codes "\n")

-- The job prints these words on standard error, or that memory ran out.
abbrev pub Says : List ℕ → JobError → Type 0
Says words job_error.OutOfMemory = ⊤
Says words (job_error.Refused refusal) = MatchOption refusal.message ⊤ (HasWords words)

abbrev pub after_colon : Option ℕ → List ℕ
after_colon None = []
after_colon (Some number) = codes ":" ++ decimal number

-- a place as messages name it: the file, and behind colons the line and the column, if they are given
abbrev pub named_place : List ℕ → Option ℕ → Option ℕ → List ℕ
named_place name line column = name ++ (after_colon line ++ after_colon column)

abbrev pub place_text : Place → List ℕ
place_text place = named_place place.name.now place.line place.column

-- the words of a message about this place
abbrev pub words_at : Place → List ℕ → List ℕ
words_at place words = place_text place ++ (codes ": " ++ words)

-- the words of a message about a fault, with the fault's number, such as `K1`
abbrev pub numbered_words : List ℕ → List ℕ → List ℕ
numbered_words words code = words ++ (codes " (" ++ (code ++ codes ")"))

-- The job prints these words about the file that the argument `word` names, and about this line of it, if one is given.
abbrev pub SaysOf : List ℕ → Option ℕ → List ℕ → JobError → Type 0
SaysOf word line words error = Says (named_place (name_of word) line None ++ (codes ": " ++ words)) error

-- Definitions: what `fc run` prints of a rule's run (source: this project).
use Rattle.std.specs.Prelude.{◌≡◌, ◌⊎◌, ◌++◌, ◌∷◌, [], ℕ, List, codes}
use Rattle.std.specs.Fmt.{decimal}
use Rattle.bpf_model.specs.Machine.{Counters}
use Rattle.bpf_model.specs.Layouts.{bytes_of}
use Rattle.bpf_model.specs.Program.{ProgramText, outcome}
use Rattle.bpf_model.specs.Runs.{Ended}
use Rattle.explaining.specs.declared.request.Request.{Request}
use Rattle.file_jobs.specs.JobErrors.{Ends}
use Rattle.file_jobs.specs.declared.job_error.JobError.{JobError}
use Rattle.file_jobs.specs.declared.job_error.JobError.TheVariants as job_error

-- the text begins with the line that has the answer with which the program's run on this request ends
pub record SaysOutcome (p : ProgramText) (request : Request) (text : List ℕ) : Type 0 where
  pub answer : ℕ
  pub after : Counters
  pub rest : List ℕ
  pub ends : outcome p (bytes_of request.context) request.view request.counters ≡ Ended answer after
  pub says : text ≡ codes "answer " ++ (decimal answer ++ (10 ∷ rest))

-- a call with a word that is refused: status 2, and nothing is printed; or memory ran out
abbrev pub IsWrongWord : JobError → Type 0
IsWrongWord error = (error ≡ job_error.OutOfMemory) ⊎ Ends 2 [] error

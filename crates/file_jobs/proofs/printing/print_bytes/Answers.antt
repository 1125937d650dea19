use Rattle.std.proofs.Common.{ℕ, List, Result, Ok, Err, [], inl, inr}
use Rattle.std.specs.Prelude.{IfErr, string_bytes}
use Rattle.file_jobs.specs.declared.job_error.JobError.{JobError}
use Rattle.file_jobs.specs.JobErrors.{Ends}
use Rattle.file_jobs.specs.declared.printing.PrintRequest.{PrintRequest}
use Rattle.file_jobs.specs.PrintRequests.{Accepts, PrintsAsked}
use Rattle.file_jobs.proofs.printing.print_bytes.Goals as goal

-- What is asked for was printed, or standard output can't be written.
asked : {U : Type 0} → (request : PrintRequest) (file printed : List ℕ) (r : Result U JobError) → Accepts request file printed → IfErr r (Ends 3 [])
    → PrintsAsked request file r
asked request file printed (Ok done) accepts ends = (printed, accepts)
asked request file printed (Err error) accepts ends = λ some. inr (printed, accepts, ends)

pub returns-in-Ok : goal.returns-in-Ok
returns-in-Ok c =
    asked c.args.request c.args.file.now (string_bytes c.in-Ok.text) c.print_text.result c.in-Ok.ensures.text c.print_text.ensures

pub returns-in-Err : goal.returns-in-Err
returns-in-Err c =
    λ some. inl (c.in-Err.flaw, c.in-Err.ensures.flaw, (λ e. some (c.refuse_file.ensures.memory e)), c.refuse_file.ensures.ends)

-- Definitions: what `fc asm`, `fc dis` and `fc verify` print (source: this project).
use Rattle.std.specs.Prelude.{◌≢◌, ◌⊎◌, ℕ, List, [], Result, Ok, Err}
use Rattle.bpf_asm.specs.Numbered.{numbered_from}
use Rattle.bpf_asm.specs.ProgramFile.{program_in}
use Rattle.bpf_asm.specs.Text.{canonical_text}
use Rattle.file_jobs.specs.declared.file_flaws.FileFlaw.{FileFlaw}
use Rattle.file_jobs.specs.declared.file_flaws.FileFlaw.TheVariants as flaws
use Rattle.file_jobs.specs.FileFlaws.{IsAsmFlaw, IsDisFlaw, IsVerifyFlaw, line_of}
use Rattle.file_jobs.specs.Printed.{Assembles, Disassembles, Verifies}
use Rattle.file_jobs.specs.declared.printing.PrintRequest.{PrintRequest}
use Rattle.file_jobs.specs.declared.printing.PrintRequest.TheVariants as request
use Rattle.file_jobs.specs.declared.job_error.JobError.{JobError}
use Rattle.file_jobs.specs.declared.job_error.JobError.TheVariants as job_error
use Rattle.file_jobs.specs.JobErrors.{Ends, EndsOrRunsOut}

-- The request accepts a file with these bytes, and prints this text of it.
abbrev pub Accepts : PrintRequest → List ℕ → List ℕ → Type 0
Accepts request.Asm file printed = Assembles file printed
Accepts request.Dis file printed = Disassembles canonical_text (program_in file) printed
Accepts request.DisUnits file printed = Disassembles (numbered_from 0) (program_in file) printed
Accepts (request.Verify counters layout) file printed = Verifies (program_in file) counters layout printed

-- The request refuses a file with these bytes for this flaw. Memory can run out at any time.
abbrev pub IsFlaw : PrintRequest → List ℕ → FileFlaw → Type 0
IsFlaw request.Asm file flaw = IsAsmFlaw file flaw
IsFlaw request.Dis file flaw = IsDisFlaw (program_in file) flaw
IsFlaw request.DisUnits file flaw = IsDisFlaw (program_in file) flaw
IsFlaw (request.Verify counters layout) file flaw = IsVerifyFlaw (program_in file) counters layout flaw

-- The request refuses a file with these bytes, and the error has the line of its flaw.
abbrev pub IsRefusal : PrintRequest → List ℕ → JobError → Type 0
IsRefusal request file error =
    (flaw : FileFlaw) × IsFlaw request file flaw × (flaw ≢ flaws.OutOfMemory) × EndsOrRunsOut 1 (line_of flaw) error

-- The request accepts a file with these bytes, but standard output can't be written.
abbrev pub IsUnwritten : PrintRequest → List ℕ → JobError → Type 0
IsUnwritten request file error = (printed : List ℕ) × Accepts request file printed × Ends 3 [] error

-- What the request prints of a file with these bytes is printed; or the file is refused, or standard output can't be
-- written. An error that memory ran out can come in any case.
abbrev pub PrintsAsked : {U : Type 0} → PrintRequest → List ℕ → Result U JobError → Type 0
PrintsAsked request file (Ok done) = (printed : List ℕ) × Accepts request file printed
PrintsAsked request file (Err error) =
    error ≢ job_error.OutOfMemory → IsRefusal request file error ⊎ IsUnwritten request file error

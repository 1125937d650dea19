-- Promises: that no two openings have the same text, and why a text isn't that of an opening.
use Rattle.std.specs.Prelude.{◌≡◌, ◌≢◌, ℕ, ◌+◌, ◌<◌, min, List, [], ◌∷◌, ◌++◌, length, Some, Result, Ok}
use Rattle.bpf_model.specs.Program.{as_loaded}
use Rattle.verifier.specs.RefusedPrograms.{refusal_of}
use Rattle.verifier.specs.declared.refusal.Refusal.{Refusal}
use Rattle.till_request.specs.declared.act.LineFault.{LineFault}
use Rattle.days.specs.declared.file.OpeningFile.{OpeningFile}
use Rattle.days.specs.declared.file.OpeningFlaw.{OpeningFlaw}
use Rattle.days.specs.declared.file.OpeningFlaw.TheVariants.{BadLine, Ends, CutLine, BadProgram, OutOfMemory}
use Rattle.days.specs.declared.line.Line.{Line}
use Rattle.days.specs.declared.line.Line.TheVariants as lines
use Rattle.days.specs.File.{IsOpeningFile}
use Rattle.days.specs.Parsing.{line_read}
use Rattle.days.specs.Ranges.{FileFits}
use Rattle.days.specs.Reading.{Reads, blank_file, pieces}
use Rattle.days.specs.Text.{opening_text}

-- The text is that of no other opening than `file`.
abbrev pub IsOnly : List ℕ → OpeningFile → Type 0
IsOnly text file = (f : OpeningFile) → IsOpeningFile f → FileFits f → opening_text f ≡ text → f ≡ file

-- No opening has this text.
abbrev pub HasNoOpening : List ℕ → Type 0
HasNoOpening text = (f : OpeningFile) → IsOpeningFile f → FileFits f → opening_text f ≡ text → ⊥

-- The same whole lines come before `rest` in the text and before `left` in the other text. `number` is the number of the
-- next line. Lines are counted from 1, and a number above 4,294,967,295 is given as 4,294,967,295.
pub record HaveAlike (text other rest left : List ℕ) (number : ℕ) : Type 0 where
  pub before : List (List ℕ)
  pub text_is : pieces text ≡ before ++ pieces rest
  pub other_is : pieces other ≡ before ++ pieces left
  pub number_is : number ≡ min (length before + 1) 4294967295

-- The text doesn't begin with this line and its LF.
abbrev pub LacksLine : List ℕ → List ℕ → Type 0
LacksLine text line = (behind : List ℕ) → pieces text ≡ line ∷ pieces behind → ⊥

-- What was read of a line is the line of a version in this slot, with a program of these bytes, which the verifier
-- refuses for this reason.
abbrev pub IsRefusedVersion : ℕ → List ℕ → Refusal → Result Line LineFault → Type 0
IsRefusedVersion slot program refusal (Ok (lines.Version s number mask layout bytes)) =
    (s < 16) × (s ≡ slot) × (bytes ≡ program) × (refusal_of (as_loaded bytes mask layout) ≡ Some refusal)
IsRefusedVersion slot program refusal read = ⊥

-- The flaw is right for line `number`, which isn't the one that it should be; `read` is what was read of it. The flaw is
-- `BadProgram` if the line is that of a version with a refused program, and `BadLine` if it isn't. If memory ran out,
-- nothing is claimed.
abbrev pub IsLineFlaw : ℕ → Result Line LineFault → OpeningFlaw → Type 0
IsLineFlaw number read (BadLine n) =
    (n ≡ number) × ((slot : ℕ) (program : List ℕ) (refusal : Refusal) → IsRefusedVersion slot program refusal read → ⊥)
IsLineFlaw number read (BadProgram n slot program refusal) = (n ≡ number) × IsRefusedVersion slot program.items refusal read
IsLineFlaw number read OutOfMemory = Unit {0}
IsLineFlaw number read flaw = ⊥

-- The text `rest` differs from `left` in its first line, and the flaw says how. `number` is the number of this line.
-- - `BadLine` and `BadProgram`: `left` doesn't begin with this line.
-- - `Ends`: there is no line.
-- - `CutLine`: the line has no LF.
abbrev pub Begins : List ℕ → List ℕ → ℕ → OpeningFlaw → Type 0
Begins rest left number (Ends n) = (n ≡ number) × (rest ≡ [])
Begins rest left number (CutLine n) = (n ≡ number) × (0 < length rest) × (pieces rest ≡ rest ∷ [])
Begins rest left number flaw =
    (line behind : List ℕ) × (pieces rest ≡ line ∷ pieces behind) × LacksLine left line × IsLineFlaw number (line_read line) flaw

-- The flaw names the first line in which the text differs from the other one, and says how it differs.
pub record Differs (text other : List ℕ) (flaw : OpeningFlaw) : Type 0 where
  pub rest : List ℕ
  pub left : List ℕ
  pub number : ℕ
  pub alike : HaveAlike text other rest left number
  pub begins : Begins rest left number flaw

-- The text isn't that of an opening. `read` is the opening that was read of it, whose own text differs from it as the
-- flaw says: so the lines before the flaw's line are the first lines of an opening.
pub record ShowsFlaw (text : List ℕ) (flaw : OpeningFlaw) : Type 0 where
  pub none : HasNoOpening text
  pub read : OpeningFile
  pub reads : Reads blank_file (pieces text) read
  pub good : IsOpeningFile read
  pub differs : Differs text (opening_text read) flaw

-- The text has this flaw. If memory ran out, nothing is claimed.
abbrev pub IsFlaw : List ℕ → OpeningFlaw → Type 0
IsFlaw text flaw = flaw ≢ OutOfMemory → ShowsFlaw text flaw

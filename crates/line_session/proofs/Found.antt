-- A session ends where no whole line is found, as `IsCut` says: at a line that is too long, at a last line without LF,
-- or at the end of the input.
use Rattle.std.proofs.Common.{◌≡◌, ℕ, List, [], Option, refl}
use Rattle.std.specs.Io.KnownBytes.{Consumes}
use Rattle.till_request.specs.declared.line.Found.{Found}
use Rattle.till_request.specs.declared.line.Found.TheVariants.{Line, TooLong, Cut, End}
use Rattle.till_request.specs.Line.{ReadsFound}
use Rattle.line_session.specs.Answering.{IsCut}
use Rattle.line_session.specs.Found.{cut_by}

pub cut_found : (found : Found) (old now : Option (List ℕ)) (line : List ℕ) → (found ≡ Line → ⊥) → ReadsFound old now line found
    → (more : List ℕ) × Consumes old now more × IsCut (cut_by found) now more
cut_found Line old now line other h = absurd (other refl)
cut_found TooLong old now line other h = (h.0, h.1, (h.2, h.3))
cut_found Cut old now line other h = (h.0, h.1, (h.2, h.3, h.4))
cut_found End old now line other h = ([], h.0, (refl, h.1))

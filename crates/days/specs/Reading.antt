-- Promises: what is read of an opening's text. Each line is read loosely: some texts that are no line of an opening are
-- read as lines too, the lines may stand in any order, and what is no line is skipped. A text is that of the opening that
-- was read of it only if that opening's own text is the same.
use Rattle.std.specs.Prelude.{◌≡◌, ◌==◌, ℕ, ◌-◌, ◌≤◌, ◌<◌, ◌^◌, List, [], ◌∷◌, ◌++◌, Bool, true, false}
use Rattle.std.specs.Prelude.{length, replicate, slice_set, slice_index_or, Option, Some, None, Result, Ok, Err}
use Rattle.std.specs.List.{slice_split}
use Rattle.bpf_model.specs.Program.{ProgramText, as_loaded, IsGood}
use Rattle.fuelling_point.specs.declared.kinds.Transaction.{Transaction}
use Rattle.fuelling_point.specs.Snapshot.{IsPointState, IsSnapshot, snapshot_state}
use Rattle.fuelling_point.specs.Table.{PointState, fresh_point}
use Rattle.site_core.specs.Slots.{IsRule}
use Rattle.site_core.specs.SlotsValue.{Version}
use Rattle.verifier.specs.RefusedPrograms.{refusal_of}
use Rattle.site_core.specs.Opening.{OpeningValue, IsNewNumber}
use Rattle.till_request.specs.declared.act.LineFault.{LineFault}
use Rattle.days.specs.declared.file.OpeningFile.{OpeningFile}
use Rattle.days.specs.declared.line.Line.{Line}
use Rattle.days.specs.declared.line.Line.TheVariants as lines
use Rattle.days.specs.Parsing.{line_read}

-- What has been read before the first line. What hasn't been read is blank: 0, None, or an empty list. The day is 2, the
-- first one that has an opening.
abbrev pub blank_file : OpeningFile
blank_file = record {
  day = 2;
  opening = record {
    points = [];
    prices = replicate 8 0;
    counters = replicate 32 (0, 0);
    cleared = 0;
    clears = 0;
    versions = 0;
    rules = replicate 16 None;
  };
  entries = 0;
  digest = replicate 32 0;
}

-- The point with one more unpaid transaction after its others.
abbrev pub with_unpaid : PointState → Transaction → PointState
with_unpaid p t = record p { unpaid = p.unpaid ++ t ∷ [] }

-- The point with this number, counted from 1. If there are fewer points, it is a new one.
abbrev pub point_at : List PointState → ℕ → PointState
point_at points n = slice_index_or points (n - 1) fresh_point

-- The line is taken: what it says is still blank in what has been read, and is allowed in an opening.
abbrev pub CanTake : OpeningFile → Line → Type 0
CanTake f (lines.Day n) = (f.day ≡ 2) × (2 ≤ n)
CanTake f (lines.Cleared total count) =
    (f.opening.cleared ≡ 0) × (f.opening.clears ≡ 0) × (total ≤ 1000000000000000000) × (count ≤ 1000000000000000000)
CanTake f (lines.Versions n) = (f.opening.versions ≡ 0) × (n ≤ 4290000000)
CanTake f (lines.Version slot number mask layout bytes) =
    (slot < 16) × (slice_index_or f.opening.rules slot None ≡ None) × IsNewNumber f.opening.rules number
    × IsRule f.opening.versions (Some (record { number = number; program = as_loaded bytes mask layout }))
CanTake f (lines.Price product price) = (1 ≤ product) × (product ≤ 8) × (slice_index_or f.opening.prices (product - 1) 0 ≡ 0) × (price ≤ 9999999)
CanTake f (lines.Counter c value bound) =
    (c < 32) × ((slice_index_or f.opening.counters c (0, 0)).1 ≡ 0) × (value ≤ bound) × (bound < 2 ^ 64)
CanTake f (lines.Point n s) = (s.last ≤ 4290000000) × IsSnapshot s
CanTake f (lines.Unpaid n t) = (1 ≤ n) × (n ≤ length f.opening.points) × IsPointState (with_unpaid (point_at f.opening.points n) t)
CanTake f (lines.Journal entries digest) = f.entries ≡ 0

-- What has been read, but with the given `opening`.
abbrev pub with_opening : OpeningFile → OpeningValue → OpeningFile
with_opening f opening = record f { opening = opening }

-- What has been read once this line is taken too.
abbrev pub after_line : OpeningFile → Line → OpeningFile
after_line f (lines.Day n) = record f { day = n }
after_line f (lines.Cleared total count) = with_opening f (record f.opening { cleared = total; clears = count })
after_line f (lines.Versions n) = with_opening f (record f.opening { versions = n })
after_line f (lines.Version slot number mask layout bytes) =
    with_opening f (record f.opening { rules = slice_set f.opening.rules slot (Some (record { number = number; program = as_loaded bytes mask layout })) })
after_line f (lines.Price product price) = with_opening f (record f.opening { prices = slice_set f.opening.prices (product - 1) price })
after_line f (lines.Counter c value bound) = with_opening f (record f.opening { counters = slice_set f.opening.counters c (value, bound) })
after_line f (lines.Point n s) = with_opening f (record f.opening { points = f.opening.points ++ snapshot_state s ∷ [] })
after_line f (lines.Unpaid n t) =
    with_opening f (record f.opening { points = slice_set f.opening.points (n - 1) (with_unpaid (point_at f.opening.points n) t) })
after_line f (lines.Journal entries digest) = record f { entries = entries; digest = digest }

-- What has been read was `old` before the line, and is `new` after it. The Bool is whether the line was taken.
abbrev pub Takes : OpeningFile → Line → Bool → OpeningFile → Type 0
Takes old line true new = CanTake old line × (new ≡ after_line old line)
Takes old line false new = (CanTake old line → ⊥) × (new ≡ old)

-- What has been read was `old` before a line of the text, and is `new` after it. `read` is the line, if it can be read.
abbrev pub TakesRead : OpeningFile → Result Line LineFault → OpeningFile → Type 0
TakesRead old (Ok line) new = (taken : Bool) × Takes old line taken new
TakesRead old (Err fault) new = new ≡ old

-- The pieces between a text's LFs: its lines, and what comes after the last LF.
abbrev pub pieces : List ℕ → List (List ℕ)
pieces text = slice_split (λ b. b == 10) text

-- What has been read was `old` before these pieces of the text, and is `new` after them.
abbrev pub Reads : OpeningFile → List (List ℕ) → OpeningFile → Type 0
Reads old [] new = old ≡ new
Reads old (piece ∷ more) new = (next : OpeningFile) × TakesRead old (line_read piece) next × Reads next more new

-- Taking the line may need memory: it is that of a version or of a point.
abbrev pub TakesMemory : Line → Type 0
TakesMemory (lines.Version slot number mask layout bytes) = Unit {0}
TakesMemory (lines.Point n s) = Unit {0}
TakesMemory line = ⊥

-- What the result of verifying the program `p` means. None: the verifier refuses `p`. Otherwise the result is the version
-- with this number and `p`, and the verifier accepts `p`. The runs of `p` end and are never stuck, as `IsGood` says.
abbrev pub Verified : ℕ → ProgramText → Option Version → Type 0
Verified number p None = refusal_of p ≡ None → ⊥
Verified number p (Some v) = (v ≡ record { number = number; program = p }) × IsGood p × (refusal_of p ≡ None)

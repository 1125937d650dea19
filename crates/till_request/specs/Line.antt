-- Promises: which bytes are read from an input that is read line by line. `old` is the bytes that the input has left
-- before the reads, and `new` those that it has left after the reads. Each is None if the bytes aren't known. A line
-- has no LF and is allowed at most 8,400 bytes. With more it is too long. A line is cut if the input ends after at
-- least one of its bytes and before its LF. `IsLine` (what a line is) and `ReadsFound` (what was read, for each result
-- of reading a line) are also definitions, so only a reader can check that they say what is meant.
use Rattle.std.specs.Prelude.{◌≡◌, ◌≢◌, ◌⊎◌, ℕ, ◌+◌, ◌<◌, ◌≤◌, List, [], ◌∷◌, ◌++◌, length, Option, Some, None, Result, Ok, Err, Bool, true, false}
use Rattle.std.specs.List.{AllByRecursion}
use Rattle.std.specs.Io.KnownBytes.{Consumes, IsAtEnd}
use Rattle.till_request.specs.Grammar.{IsLoad, line_read, words}
use Rattle.till_request.specs.declared.act.Act.{Act}
use Rattle.till_request.specs.declared.act.Role.{Role}
use Rattle.till_request.specs.declared.act.LineFault.{LineFault}
use Rattle.till_request.specs.declared.act.LineFault.TheVariants as line
use Rattle.till_request.specs.declared.line.Found.{Found}
use Rattle.till_request.specs.declared.line.Found.TheVariants as found
use Rattle.till_request.specs.declared.line.InputFault.{InputFault}
use Rattle.till_request.specs.declared.line.InputFault.TheVariants as input
use Rattle.till_request.specs.declared.line.LineReadFault.{LineReadFault}
use Rattle.till_request.specs.declared.line.LineReadFault.TheVariants as reading

-- none of the bytes is an LF
abbrev pub HasNoLf : List ℕ → Type 0
HasNoLf bytes = AllByRecursion (λ b. b ≢ 10) bytes

-- at most 8,400 bytes, and no LF: a line without its LF, or the beginning of one
abbrev pub IsLine : List ℕ → Type 0
IsLine bytes = HasNoLf bytes × (length bytes ≤ 8400)

-- the first 8,401 bytes of a line that is too long were read
abbrev pub TakesTooLong : Option (List ℕ) → Option (List ℕ) → Type 0
TakesTooLong old new = (bytes : List ℕ) × Consumes old new bytes × HasNoLf bytes × (length bytes ≡ 8401)

-- at least one byte of a line was read, but not its LF, and the input has ended
abbrev pub TakesCut : Option (List ℕ) → Option (List ℕ) → Type 0
TakesCut old new = (bytes : List ℕ) × Consumes old new bytes × IsLine bytes × (0 < length bytes) × IsAtEnd new

-- zero or more bytes of a line were read, and not its LF
abbrev pub TakesPart : Option (List ℕ) → Option (List ℕ) → Type 0
TakesPart old new = (bytes : List ℕ) × Consumes old new bytes × IsLine bytes

-- more than `room` bytes of a line come next
abbrev pub HasLongerLine : Option (List ℕ) → ℕ → Type 0
HasLongerLine old room = (bytes : List ℕ) × (rest : Option (List ℕ)) × Consumes old rest bytes × IsLine bytes × (room < length bytes)

-- `line` is the beginning of a line. One or more further bytes of this line come next in the input `old`, and with them
-- the line is longer than `room`. `before` and `after` are numbers of reads of one byte: how many were still allowed
-- when the input was `old`, and how many are still allowed now, after some reads. The further bytes are at least as
-- many as the reads that were made in between, and at most `before`.
abbrev pub LacksRoom : Option (List ℕ) → List ℕ → ℕ → ℕ → ℕ → Type 0
LacksRoom old line room before after =
    (bytes : List ℕ) × (rest : Option (List ℕ)) × Consumes old rest bytes × IsLine (line ++ bytes) × (0 < length bytes)
    × (room < length (line ++ bytes)) × (before ≤ after + length bytes) × (length bytes ≤ before)

-- What was read until memory ran out. `old` is what the input had left before the reads, and `new` what it had left
-- after them. `before` and `after` are how many more reads of one byte were allowed before and after. Either zero or
-- more bytes of a line were read, and there was no memory for one or more of its bytes, as `LacksRoom` says. Or a whole
-- line with its LF was read that has the form of a load, and there was no memory for the load's program.
abbrev pub ReadsUntilOutOfMemory : Option (List ℕ) → Option (List ℕ) → Role → ℕ → ℕ → Type 0
ReadsUntilOutOfMemory old new role before after =
    (TakesPart old new × LacksRoom old [] 0 before after)
    ⊎ ((line : List ℕ) × Consumes old new (line ++ 10 ∷ []) × IsLine line × IsLoad role (words line))

-- zero or more bytes were read and appended to the line, which then has at most 8,400 bytes and no LF
abbrev pub ReadsIntoLine : Option (List ℕ) → Option (List ℕ) → List ℕ → List ℕ → Type 0
ReadsIntoLine old new line grown = (bytes : List ℕ) × Consumes old new bytes × (grown ≡ line ++ bytes) × IsLine grown

-- Zero or more bytes were read and appended to the line. After that the input has ended (None), or one more byte was
-- read (Some).
abbrev pub ReadsIntoLineThenByte : Option (List ℕ) → Option (List ℕ) → List ℕ → List ℕ → Option ℕ → Type 0
ReadsIntoLineThenByte old new line grown None = ReadsIntoLine old new line grown × IsAtEnd new
ReadsIntoLineThenByte old new line grown (Some byte) = (bytes : List ℕ) × Consumes old new (bytes ++ byte ∷ []) × (grown ≡ line ++ bytes) × IsLine grown

-- zero or more bytes were read that belong to the line; whether they were appended to it isn't stated
abbrev pub ReadsBytesOfLine : Option (List ℕ) → Option (List ℕ) → List ℕ → Type 0
ReadsBytesOfLine old new line = (bytes : List ℕ) × Consumes old new bytes × IsLine (line ++ bytes)

-- zero or more bytes were read
abbrev pub TakesSome : Option (List ℕ) → Option (List ℕ) → Type 0
TakesSome old new = (bytes : List ℕ) × Consumes old new bytes

-- what was read, for each result of reading a line into the buffer `line`
abbrev pub ReadsFound : Option (List ℕ) → Option (List ℕ) → List ℕ → Found → Type 0
ReadsFound old new line found.Line = Consumes old new (line ++ 10 ∷ []) × IsLine line
ReadsFound old new line found.TooLong = TakesTooLong old new
ReadsFound old new line found.Cut = TakesCut old new
ReadsFound old new line found.End = Consumes old new [] × IsAtEnd new

-- a line was read with its LF, and `given` is its act or its fault
abbrev pub TakesLine : Option (List ℕ) → Option (List ℕ) → Role → Result Act LineFault → Type 0
TakesLine old new role given = (line : List ℕ) × Consumes old new (line ++ 10 ∷ []) × IsLine line × (line_read role line ≡ given)

-- What was read, if reading an act gave this result. If it is an act, a line with its LF was read, and the line is read
-- as this act. If it is None, nothing was read, and the input has ended.
abbrev pub TakesAct : Option (List ℕ) → Option (List ℕ) → Role → Option Act → Type 0
TakesAct old new role (Some act) = TakesLine old new role (Ok act)
TakesAct old new role None = Consumes old new [] × IsAtEnd new

-- What was read, if reading an act failed with this fault. `old` is what the input had left before the reads, and `new`
-- what it had left after them. `before` and `after` are how many more reads of one byte were allowed before and after.
abbrev pub TakesFault : Option (List ℕ) → Option (List ℕ) → Role → ℕ → ℕ → LineReadFault → Type 0
TakesFault old new role before after (reading.Line line.TooLong) = TakesTooLong old new
TakesFault old new role before after (reading.Line line.BadLine) = TakesLine old new role (Err line.BadLine)
TakesFault old new role before after (reading.Line line.BadNumber) = TakesLine old new role (Err line.BadNumber)
TakesFault old new role before after (reading.Line line.CutLine) = TakesCut old new
TakesFault old new role before after (reading.Line line.OtherDoor) = ⊥
TakesFault old new role before after (reading.Line line.OutOfMemory) = ReadsUntilOutOfMemory old new role before after
TakesFault old new role before after reading.Read = TakesPart old new
TakesFault old new role before after reading.ReadsSpent = TakesPart old new

-- whether the result is that the device failed
abbrev pub is_input_fault : {T : Type 0} → Result T InputFault → Bool
is_input_fault (Err input.Read) = true
is_input_fault (Err input.ReadsSpent) = false
is_input_fault (Err input.OutOfMemory) = false
is_input_fault (Ok x) = false

-- whether the result is that the device failed
abbrev pub is_read_fault : {T : Type 0} → Result T LineReadFault → Bool
is_read_fault (Err reading.Read) = true
is_read_fault (Err reading.ReadsSpent) = false
is_read_fault (Err (reading.Line fault)) = false
is_read_fault (Ok x) = false

-- turns a fault of an input into the fault of reading a line from this input
abbrev pub read_fault : InputFault → LineReadFault
read_fault input.Read = reading.Read
read_fault input.ReadsSpent = reading.ReadsSpent
read_fault input.OutOfMemory = reading.Line line.OutOfMemory

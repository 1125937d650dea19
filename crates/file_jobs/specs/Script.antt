-- Definitions: the lines of a script (source: this project). A line is an act of any role, a look (as in `look day`),
-- `moment N`, `counter C` or `journal`. A line of none of these forms is bad. N is read as a number of 64 bits, and C as
-- one of 32 bits.
use Rattle.std.specs.Prelude.{ℕ, List, [], ◌∷◌, codes, length, nat_lt, Bool, ◌&&◌, Option, Some, None, Result, Ok, Err, if◌then◌else◌}
use Rattle.std.specs.Str.{bytes_eq}
use Rattle.till_request.specs.declared.act.LineFault.{LineFault}
use Rattle.till_request.specs.declared.act.LineFault.TheVariants.{TooLong, BadLine}
use Rattle.till_request.specs.declared.act.Role.TheVariants.{All}
use Rattle.till_request.specs.declared.look.Asked.{Asked}
use Rattle.till_request.specs.declared.look.Asked.TheVariants as asks
use Rattle.till_request.specs.Grammar.{words, number, is_some_word, ◌>>=◌}
use Rattle.till_request.specs.Looks.{words_asked}
use Rattle.file_jobs.specs.declared.script.ScriptLine.{ScriptLine}
use Rattle.file_jobs.specs.declared.script.ScriptLine.TheVariants as lines

-- The line that asks for this. No line of a script ends a day.
abbrev pub line_for : Asked → Result ScriptLine LineFault
line_for (asks.Act act) = Ok (lines.Act act)
line_for (asks.Look look) = Ok (lines.Look look)
line_for asks.NextDay = Err BadLine

-- Parses the words of a line as an act of any role, or as a look.
abbrev pub asking_line : List (List ℕ) → Result ScriptLine LineFault
asking_line ws = do
  asked ← words_asked All ws
  line_for asked

-- The word is this name, and the value after it isn't empty.
abbrev pub is_named : List ℕ → List ℕ → List ℕ → Bool
is_named word name value = bytes_eq word name && is_some_word value

abbrev pub moment_line : List ℕ → Result ScriptLine LineFault
moment_line value = do
  n ← number 64 value
  Ok (lines.Moment n)

abbrev pub counter_line : List ℕ → Result ScriptLine LineFault
counter_line value = do
  c ← number 32 value
  Ok (lines.Counter c)

-- Parses a name and its value, if only scripts have such a line.
abbrev pub own_pair : List ℕ → List ℕ → Option (Result ScriptLine LineFault)
own_pair word value =
    if is_named word (codes "moment") value then Some (moment_line value)
    else if is_named word (codes "counter") value then Some (counter_line value)
    else None

-- Parses the words of a line that only scripts have. None for any other words.
abbrev pub own_line : List (List ℕ) → Option (Result ScriptLine LineFault)
own_line (word ∷ []) = if bytes_eq word (codes "journal") then Some (Ok lines.Journal) else None
own_line (word ∷ value ∷ []) = own_pair word value
own_line ws = None

abbrev pub line_or : Option (Result ScriptLine LineFault) → Result ScriptLine LineFault → Result ScriptLine LineFault
line_or None other = other
line_or (Some own) other = own

-- Parses the words of a line of a script.
abbrev pub words_line : List (List ℕ) → Result ScriptLine LineFault
words_line ws = line_or (own_line ws) (asking_line ws)

-- Parses a line of a script. A line of more than 8,400 bytes is too long.
abbrev pub line_of : List ℕ → Result ScriptLine LineFault
line_of line = if nat_lt 8400 (length line) then Err TooLong else words_line (words line)

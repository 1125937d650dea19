-- Definitions: how the value of a label is written in a text of metrics (Prometheus' text-based format, version 0.0.4: a
-- value may be any UTF-8 text, in which a backslash, a double quote and a line feed are escaped).
use Rattle.std.specs.Prelude.{ℕ, ◌==◌, ◌||◌, ◌∷◌, if◌then◌else◌, List}
use Rattle.std.specs.List.{flat_map}
use Rattle.std.specs.Str.{chars}
use Rattle.std.specs.Char.{is_control}
use Rattle.pages.specs.Printing.{printable_char}

-- A character as it is written in a label's value. The text that the value stands for has control characters escaped as
-- messages have them, and each backslash (92) and each quote (34) of that text has a backslash before it.
abbrev pub label_char : ℕ → List ℕ
label_char c = if c == 92 || c == 34 || is_control c then 92 ∷ printable_char c else printable_char c

unfoldable pub label_value : List ℕ → List ℕ
label_value text = flat_map label_char (chars text)

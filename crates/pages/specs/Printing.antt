-- Definitions: how text is written for people. Its control characters (Unicode's general category Cc: U+0000 to U+001F,
-- and U+007F to U+009F) are escaped, so that a terminal takes none of them for a command or for the end of a line.
use Rattle.std.specs.Prelude.{ℕ, ◌==◌, ◌++◌, if◌then◌else◌, false, List, codes}
use Rattle.std.specs.List.{flat_map}
use Rattle.std.specs.Str.{chars}
use Rattle.std.specs.Char.{encode_utf8, is_control}
use Rattle.std.specs.Fmt.{radix_digits}

-- A character as it is written for people: a control character as an escape, all others unchanged, in UTF-8. The
-- escapes are \n, \r and \t, and for the others the character's number in hexadecimal digits, as in \u{1b}.
abbrev pub printable_char : ℕ → List ℕ
printable_char c =
    if c == 10 then codes "\\n" else
    if c == 13 then codes "\\r" else
    if c == 9 then codes "\\t" else
    if is_control c then codes "\\u{" ++ (radix_digits 16 false c ++ codes "}") else encode_utf8 c

-- A text with each of its control characters escaped.
unfoldable pub printable : List ℕ → List ℕ
printable text = flat_map printable_char (chars text)

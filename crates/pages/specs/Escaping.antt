-- Definitions: how text is escaped for a page of HTML. Special characters are written as character references (HTML
-- Standard, "Character references"). So nothing in the original text is parsed as a tag, a reference or the end of an
-- attribute.
use Rattle.std.specs.Prelude.{ℕ, ◌==◌, if◌then◌else◌, List, codes}
use Rattle.std.specs.List.{flat_map}
use Rattle.std.specs.Str.{chars}
use Rattle.pages.specs.Printing.{printable_char}

-- A character as it is written in HTML: < > & " ' as character references, all others as in a text for people: control
-- characters escaped, the others unchanged, in UTF-8.
abbrev pub escaped_char : ℕ → List ℕ
escaped_char c =
    if c == 60 then codes "&lt;" else
    if c == 62 then codes "&gt;" else
    if c == 38 then codes "&amp;" else
    if c == 34 then codes "&quot;" else
    if c == 39 then codes "&#39;" else printable_char c

-- A text with each of its characters < > & " ' replaced by a character reference, and its control characters escaped.
unfoldable pub escaped : List ℕ → List ℕ
escaped text = flat_map escaped_char (chars text)

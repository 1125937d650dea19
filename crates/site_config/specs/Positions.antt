-- Definitions: the line and the column of a place in a text, both counted from 1 (source: this project). A line ends
-- with its LF. The column counts characters: the bytes 128 to 191 continue a character, and every other byte begins
-- one.
use Rattle.std.specs.Prelude.{ℕ, ◌+◌, ◌==◌, ◌&&◌, nat_le, if◌then◌else◌, List, [], ◌∷◌, take}

-- the position (line and column) after a byte that is at the position `at`
abbrev pub past : ℕ × ℕ → ℕ → ℕ × ℕ
past at byte =
    if byte == 10 then (at.0 + 1, 1)
    else if nat_le 128 byte && nat_le byte 191 then at
    else (at.0, at.1 + 1)

abbrev pub position_from : ℕ × ℕ → List ℕ → ℕ × ℕ
position_from at [] = at
position_from at (byte ∷ bytes) = position_from (past at byte) bytes

-- the position (line and column) of the end of a text
unfoldable pub position_behind : List ℕ → ℕ × ℕ
position_behind text = position_from (1, 1) text

-- the position (line and column) of the byte at this index, which counts from 0, or the position of the end if the text
-- has no such index
abbrev pub position_at : List ℕ → ℕ → ℕ × ℕ
position_at bytes index = position_behind (take index bytes)

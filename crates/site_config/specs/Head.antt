-- Definitions: a configuration that comes before a script in one stream (source: this project). A line `---` ends it.
use Rattle.std.specs.Prelude.{◌≡◌, ◌⊎◌, ℕ, ◌<◌, ◌≤◌, ◌+◌, ◌-◌, ◌++◌, ◌||◌, nat_le, Bool, true, false, if◌then◌else◌, List, [], ◌∷◌, length, take, drop, Option, Some, None}
use Rattle.std.specs.Str.{bytes_eq}
use Rattle.std.specs.Io.KnownBytes.{Consumes, IsAtEnd}

-- The bytes are a line `---` with its LF, or end with one.
abbrev pub ends_head : List ℕ → Bool
ends_head bytes =
    bytes_eq bytes (45 ∷ 45 ∷ 45 ∷ 10 ∷ []) || bytes_eq (drop (length bytes - 5) bytes) (10 ∷ 45 ∷ 45 ∷ 45 ∷ 10 ∷ [])

-- The bytes without the line `---` that they end with, or all bytes if they don't end with such a line.
abbrev pub before_end : List ℕ → List ℕ
before_end bytes = if ends_head bytes then take (length bytes - 4) bytes else bytes

-- The configuration in the bytes: what comes before the line `---` that they end with, or all bytes if they don't end
-- with such a line. None if it has over 65,536 bytes.
abbrev pub head_part : List ℕ → Option (List ℕ)
head_part bytes = if nat_le (length (before_end bytes)) 65536 then Some (before_end bytes) else None

-- `bytes`, at most 65,541 of them, were taken from the input. A whole line `---` with its LF comes only at their end,
-- if at all. They end with this line, or the input ends after them, or there are exactly 65,541 of them.
pub record IsHead (old new : Option (List ℕ)) (bytes : List ℕ) : Type 0 where
  pub taken : Consumes old new bytes
  pub first : (k : ℕ) → k < length bytes → ends_head (take k bytes) ≡ false
  pub few : length bytes ≤ 65541
  pub ended : (ends_head bytes ≡ true) ⊎ IsAtEnd new ⊎ (65540 < length bytes)

-- These bytes are no whole head (a configuration and its line `---`) yet: there are at most 65,540 of them, and they
-- contain no whole line `---` with its LF.
abbrev pub IsOpen : List ℕ → Type 0
IsOpen bytes = ((k : ℕ) → k ≤ length bytes → ends_head (take k bytes) ≡ false) × (length bytes ≤ 65540)

-- The bytes that were taken from the input are no whole head (a configuration and its line `---`) yet (`IsOpen`).
abbrev pub TakesOpen : Option (List ℕ) → Option (List ℕ) → Type 0
TakesOpen old new = (bytes : List ℕ) × Consumes old new bytes × IsOpen bytes

-- One or more bytes were taken from the input, each by a read of its own. Without the last one they are no whole head
-- (a configuration and its line `---`) yet (`IsOpen`). `before` reads were allowed, and `after` of them are left.
abbrev pub TakesByReads : Option (List ℕ) → Option (List ℕ) → ℕ → ℕ → Type 0
TakesByReads old new before after =
    (bytes : List ℕ) × (byte : ℕ) × Consumes old new (bytes ++ byte ∷ []) × IsOpen bytes × (length bytes + 1 + after ≡ before)

-- Each of `count` bytes was read by a read of its own. One more read may have been made, if it found that the input is
-- at its end. `before` reads were allowed, and `after` of them are left.
abbrev pub TakesReads : Option (List ℕ) → ℕ → ℕ → ℕ → Type 0
TakesReads new count before after = (count + after ≡ before) ⊎ ((count + after + 1 ≡ before) × IsAtEnd new)

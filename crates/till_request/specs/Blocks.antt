-- Promises: which bytes are removed from a block, a buffer in front of a device. The unread bytes are those in the
-- block, and then those that the device still has.
use Rattle.std.specs.Prelude.{◌≡◌, ◌⊎◌, ℕ, ◌+◌, ◌*◌, ◌<◌, ◌≤◌, List, [], ◌∷◌, ◌++◌, length, take, drop}
use Rattle.till_request.specs.Line.{HasNoLf, IsLine}
use Rattle.till_request.specs.declared.line.InputFault.{InputFault}
use Rattle.till_request.specs.declared.line.InputFault.TheVariants.{Read, ReadsSpent, OutOfMemory}

-- the most bytes that can still be removed: those that are in the block, and 4,096 for each read that is still allowed
abbrev pub most_ahead : ℕ → List ℕ → ℕ
most_ahead left unread = 4096 * left + length unread

-- After the fault `Read` or `ReadsSpent` the block, whose bytes are `unread`, is empty. After `OutOfMemory` nothing is
-- stated.
abbrev pub IsEmptyAfterInputFault : InputFault → List ℕ → Type 0
IsEmptyAfterInputFault Read unread = unread ≡ []
IsEmptyAfterInputFault ReadsSpent unread = unread ≡ []
IsEmptyAfterInputFault OutOfMemory unread = Unit {0}

-- the first LF in `bytes` comes after `count` bytes
abbrev pub HasFirstLfAt : ℕ → List ℕ → Type 0
HasFirstLfAt count bytes = (count < length bytes) × HasNoLf (take count bytes) × (bytes ≡ take count bytes ++ 10 ∷ drop (count + 1) bytes)

-- `count` is how many of the bytes belong to the line: those before the first LF, or all if there is no LF, but at most
-- `room`
abbrev pub Belongs : List ℕ → ℕ → ℕ → Type 0
Belongs bytes room count =
    (count ≤ length bytes) × HasNoLf (take count bytes) × (count ≤ room)
    × ((count ≡ room) ⊎ (drop count bytes ≡ []) ⊎ (drop count bytes ≡ 10 ∷ drop (count + 1) bytes))

-- `count` bytes were moved from the block to the end of the line. Before, the block had the bytes `there` and the line
-- was `line`; now the block has `left` and the line is `grown`, which has no LF and at most 8,400 bytes.
abbrev pub MovesIntoLine : List ℕ → List ℕ → List ℕ → List ℕ → ℕ → Type 0
MovesIntoLine there line left grown count = (bytes : List ℕ) × (there ≡ bytes ++ left) × (grown ≡ line ++ bytes) × IsLine grown × (length bytes ≡ count)

-- no more bytes can be moved from the block to the line: the line has 8,400 bytes, the block is empty, or an LF is next
abbrev pub CannotMoveMore : List ℕ → List ℕ → Type 0
CannotMoveMore left grown = (length grown ≡ 8400) ⊎ (left ≡ []) ⊎ ((rest : List ℕ) × (left ≡ 10 ∷ rest))

-- The position (line and column) of a text's end can be found byte by byte: each further byte moves the position past
-- this byte (`past`).
use Rattle.std.proofs.Common.{◌≡◌, ℕ, ◌+◌, ◌<◌, ◌≤◌, ◌==◌, ◌&&◌, nat_le, Bool, true, false, cond, List, [], ◌∷◌, ◌++◌, length, take, get_or}
use Rattle.std.proofs.Common.{refl, sym, ◌∙◌, ap, subst, arith}
use Rattle.std.proofs.lemmas.List.{take_more, take_all}
use Rattle.site_config.specs.Positions.{past, position_from, position_behind}

from_more : (at : ℕ × ℕ) (bytes : List ℕ) (byte : ℕ) → position_from at (bytes ++ byte ∷ []) ≡ past (position_from at bytes) byte
from_more at [] byte = refl
from_more at (b ∷ bytes) byte = from_more (past at b) bytes byte

pub behind_none : (1, 1) ≡ position_behind []
unfolding position_behind
behind_none = refl

pub behind_more : (text : List ℕ) (i : ℕ) (at next : ℕ × ℕ) → i < length text → at ≡ position_behind (take i text) → next ≡ past at (get_or text i 0)
    → next ≡ position_behind (take (i + 1) text)
unfolding position_behind
behind_more text i at next lt so is =
    is ∙ ap (λ (p : ℕ × ℕ). past p (get_or text i 0)) so ∙ sym (from_more (1, 1) (take i text) (get_or text i 0))
    ∙ ap (position_from (1, 1)) (sym (take_more text i 0 lt))

pub all_behind : (text : List ℕ) (i : ℕ) (at : ℕ × ℕ) → length text ≤ i → at ≡ position_behind (take i text) → at ≡ position_behind text
all_behind text i at long so = so ∙ ap position_behind (take_all i text long)

fits_by : (c d : Bool) (at : ℕ × ℕ) (n : ℕ) → (at.0 ≤ n) × (at.1 ≤ n)
    → let p : ℕ × ℕ = cond c (at.0 + 1, 1) (cond d at (at.0, at.1 + 1)) in (p.0 ≤ n + 1) × (p.1 ≤ n + 1)
fits_by true d at n h = (omega (arith, h.0), omega arith)
fits_by false true at n h = (omega (arith, h.0), omega (arith, h.1))
fits_by false false at n h = (omega (arith, h.0), omega (arith, h.1))

pub past_fits : (at next : ℕ × ℕ) (byte n : ℕ) → (at.0 ≤ n) × (at.1 ≤ n) → next ≡ past at byte → (next.0 ≤ n + 1) × (next.1 ≤ n + 1)
past_fits at next byte n h is =
    let P : ℕ × ℕ → Type 0 = λ p. (p.0 ≤ n + 1) × (p.1 ≤ n + 1) in
    subst P (sym is) (fits_by (byte == 10) (nat_le 128 byte && nat_le byte 191) at n h)

-- The bytes that are removed piece by piece from a block, a buffer in front of a device, add up to a line.
use Rattle.std.proofs.Common.{◌≡◌, ◌≤◌, ◌<◌, ◌+◌, ◌-◌, ℕ, zero, suc, List, [], ◌∷◌, ◌++◌, Option, Some, None, MatchOption}
use Rattle.std.proofs.Common.{refl, sym, ap, subst, ◌∙◌, arith, append_assoc, length, length-append, length-take}
use Rattle.std.proofs.Common.{take, take-append-drop, drop, drop-drop, slice_range, slice_set}
use Rattle.std.proofs.lemmas.List.{drop_more, drop-take, take_all}
use Rattle.std.proofs.lemmas.Bool.{eq-eqb, eqb-true}
use Rattle.memchr.specs.Find.{IsFirstByte, Nowhere, Passes, is_byte}
use Rattle.std.specs.Io.KnownBytes.{Consumes, append_known, prepend_known}
use Rattle.till_request.specs.Line.{HasNoLf, IsLine, LacksRoom, ReadsIntoLine}
use Rattle.till_request.specs.Blocks.{Belongs, HasFirstLfAt, MovesIntoLine}

-- if no place before n has an LF, the first n bytes have no LF
no_lf_before : (bytes : List ℕ) (n : ℕ) → n ≤ length bytes → Nowhere (Passes (is_byte 10) bytes) 0 n → HasNoLf (take n bytes)
no_lf_before bytes zero l h = tt
no_lf_before [] (suc n) l h = tt
no_lf_before (x ∷ xs) (suc n) l h = (
  λ e. h 0 (omega arith) (omega arith) (eq-eqb x 10 e),
  no_lf_before xs n (omega arith) (λ k low high passes. h (suc k) (omega arith) (omega arith) passes),
)

pub ends_behind : (bytes : List ℕ) (found : Option ℕ) → IsFirstByte (is_byte 10) bytes found
    → MatchOption found (HasNoLf bytes) (λ count. HasFirstLfAt count bytes)
ends_behind bytes None h = subst (λ l. HasNoLf l) (take_all (length bytes) bytes (omega arith)) (no_lf_before bytes (length bytes) (omega arith) h)
ends_behind bytes (Some k) h = (
  h.0.high,
  no_lf_before bytes k (omega (arith, h.0.high)) h.0.before,
  sym (take-append-drop k bytes)
      ∙ ap (λ l. take k bytes ++ l) (drop_more bytes k 0 h.0.high ∙ ap (λ b. b ∷ drop (k + 1) bytes) (eqb-true _ 10 h.1)),
)

-- if the range from `at` to `end` has at least `count` bytes, then the range from `at` + `count` to `end` is that range
-- without its first `count` bytes
pub moved_on : (bytes : List ℕ) (at end count : ℕ) → count ≤ length (slice_range bytes at end)
    → slice_range bytes (at + count) end ≡ drop count (slice_range bytes at end)
moved_on bytes at end count l =
    let e : end - at ≡ count + (end - (at + count)) = omega (arith, l, length-take (end - at) (drop at bytes)) in
    sym (ap (λ n. drop count (take n (drop at bytes))) e ∙ drop-take count (end - (at + count)) (drop at bytes)
    ∙ ap (λ l. take (end - (at + count)) l) (drop-drop count at bytes))

-- if a buffer isn't empty, a byte that is written to its beginning is its first byte
pub put_alone : (byte : ℕ) (buffer rest : List ℕ) → 1 ≤ length buffer → byte ∷ rest ≡ take 1 (slice_set buffer 0 byte) ++ rest
put_alone byte [] rest l = absurd (omega (arith, l))
put_alone byte (b ∷ bs) rest l = refl

no_lf_both : (xs ys : List ℕ) → HasNoLf xs → HasNoLf ys → HasNoLf (xs ++ ys)
no_lf_both [] ys h k = k
no_lf_both (x ∷ xs) ys h k = (h.0, no_lf_both xs ys h.1 k)

no_lf_less : (n k : ℕ) (xs : List ℕ) → k ≤ n → HasNoLf (take n xs) → HasNoLf (take k xs)
no_lf_less n zero xs l h = tt
no_lf_less zero (suc k) xs l h = absurd (omega (arith, l))
no_lf_less (suc n) (suc k) [] l h = tt
no_lf_less (suc n) (suc k) (x ∷ xs) l h = (h.0, no_lf_less n k xs (omega (arith, l)) h.1)

-- if the block's first `count` bytes belong to the line and were moved to its end, then the line has no LF and at most
-- 8,400 bytes now, as `MovesIntoLine` says
pub buffered_moved : (there line grown left : List ℕ) (room n count : ℕ) → IsLine line → room ≡ 8400 - length line → Belongs there room n → count ≤ n
    → grown ≡ line ++ take count there → left ≡ drop count there → MovesIntoLine there line left grown count
buffered_moved there line grown left room n count l e belongs within_limit is rest =
    let bytes : List ℕ = take count there in
    let long : length bytes ≡ count = omega (arith, within_limit, belongs.0, length-take count there) in
    let whole : IsLine (line ++ bytes) = (
      no_lf_both line bytes l.0 (no_lf_less n count there within_limit belongs.1),
      omega (arith, length-append line bytes, long, within_limit, belongs.2, e, l.1),
    ) in
    (bytes, sym (ap (λ r. bytes ++ r) rest ∙ take-append-drop count there), is, subst (λ w. IsLine w) (sym is) whole, long)

-- If the line fits into a vector with room for `place` bytes, but the line with the block's first `count` bytes
-- doesn't, then the vector lacks room for bytes that come next in the block, as `LacksRoom` says. These `count` bytes
-- must belong to the line, and `count` must be at most `most`, the number of bytes that may be moved. `free` is how
-- many more bytes the line can have.
pub buffered_lacks_room : (there line : List ℕ) (free n count place most : ℕ) → IsLine line → free ≡ 8400 - length line → Belongs there free n
    → count ≤ n → count ≤ most → length line ≤ place → place < length line + count → LacksRoom (Some there) line place most most
buffered_lacks_room there line free n count place most l e belongs within_limit within fits full =
    let bytes : List ℕ = take count there in
    let long : length bytes ≡ count = omega (arith, within_limit, belongs.0, length-take count there) in
    let both : length (line ++ bytes) ≡ length line + length bytes = length-append line bytes in (
      bytes,
      Some (drop count there),
      sym (take-append-drop count there),
      (no_lf_both line bytes l.0 (no_lf_less n count there within_limit belongs.1), omega (arith, both, long, within_limit, belongs.2, e, l.1)),
      omega (arith, long, fits, full),
      omega (arith, both, long, full),
      omega arith,
      omega (arith, long, within),
    )

consumes_ahead : (there rest bytes : List ℕ) (left : Option (List ℕ)) → Consumes (Some there) left bytes
    → Consumes (Some (there ++ rest)) (append_known left rest) bytes
consumes_ahead there rest bytes None h = absurd h
consumes_ahead there rest bytes (Some left) h = ap (λ t. t ++ rest) h ∙ append_assoc bytes left rest

-- if `LacksRoom` says that the line has no room for bytes that come next in a block, it says the same for the block and
-- the device together
pub lacks_ahead : (ahead : Option (List ℕ)) (there line : List ℕ) (place most : ℕ) → LacksRoom (Some there) line place most most
    → LacksRoom (prepend_known there ahead) line place most most
lacks_ahead None there line place most h = (h.0, None, tt, h.3, h.4, h.5, h.6, h.7)
lacks_ahead (Some rest) there line place most h =
    (h.0, append_known h.1 rest, consumes_ahead there rest h.0 h.1 h.2, h.3, h.4, h.5, h.6, h.7)

-- if bytes were moved from a block to the end of the line (`MovesIntoLine`), then they were read from the input, which
-- is the block and the device together, and appended to the line (`ReadsIntoLine`)
pub buffered_with_device : (ahead : Option (List ℕ)) (there line left grown : List ℕ) (count : ℕ) → MovesIntoLine there line left grown count
    → ReadsIntoLine (prepend_known there ahead) (prepend_known left ahead) line grown
buffered_with_device None there line left grown count h = (h.0, tt, h.2, h.3)
buffered_with_device (Some rest) there line left grown count h = (h.0, ap (λ t. t ++ rest) h.1 ∙ append_assoc h.0 left rest, h.2, h.3)

-- If the first i bytes of a text were written, and then its next n bytes, then its first i + n bytes were written.
use Rattle.std.proofs.Common.{◌≡◌, ℕ, ◌≤◌, ◌+◌, ◌-◌, List, length, take, drop, Option, arith, ap, length-drop}
use Rattle.std.proofs.Math.Seq.{take-add}
use Rattle.std.proofs.lemmas.Grind.{common_steps}
use Rattle.std.specs.Io.KnownBytes.{Appends}
use Rattle.till_request.proofs.Taken.{appends_more}

rest_whole : (xs : List ℕ) (i : ℕ) → take (length xs - i) (drop i xs) ≡ drop i xs
rest_whole xs i = grind (arith, common_steps)

pub written_more : (a b c : Option (List ℕ)) (xs : List ℕ) (i n : ℕ) → Appends a b (take i xs) → Appends b c (take n (take (length xs - i) (drop i xs)))
    → Appends a c (take (i + n) xs)
written_more a b c xs i n h k =
    let t : take n (take (length xs - i) (drop i xs)) ≡ take n (drop i xs) = ap (take n) (rest_whole xs i) in
    rw (take-add i n xs) (appends_more a b c (take i xs) (take n (drop i xs)) h (rw t at k))

pub within_more : (xs : List ℕ) (i n : ℕ) → i ≤ length xs → n ≤ length (take (length xs - i) (drop i xs)) → i + n ≤ length xs
within_more xs i n h k = let t : n ≤ length (drop i xs) = rw (rest_whole xs i) at k in omega (arith, length-drop i xs)

-- Promises: the answers of a session while some of them are buffered to be written together.
use Rattle.std.specs.Prelude.{◌≡◌, ℕ, List, [], ◌++◌, Option, Some}
use Rattle.std.specs.Io.KnownBytes.{Appends}

-- a beginning of `bytes` was written, and `rest`, which is all bytes after it, was not
pub record Sends (bytes rest : List ℕ) (out_old out_new : Option (List ℕ)) : Type 0 where
  pub sent : List ℕ
  pub out : Appends out_old out_new sent
  pub in_order : sent ++ rest ≡ bytes

-- `promise` relates what an output had before and what it has now. It holds as if the output had been empty before, and
-- now had the bytes that were written between `out_old` and `out_new`, followed by the buffered bytes `pending`.
pub record HoldsWithBuffered (promise : Option (List ℕ) → Option (List ℕ) → Type 0) (out_old out_new : Option (List ℕ)) (pending : List ℕ) : Type 0 where
  pub sent : List ℕ
  pub as_if_out : promise (Some []) (Some (sent ++ pending))
  pub out : Appends out_old out_new sent

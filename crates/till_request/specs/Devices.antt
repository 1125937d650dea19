-- Definitions: how many bytes a device in memory moves at a call, and when it fails (source: this project).
use Rattle.std.specs.Prelude.{ℕ, ◌-◌, List, Option, max, slice_index_or}
use Rattle.std.specs.Option.{option_map}

-- The most bytes that a call may move. `call` is the number of the call, counted from 0. The result is the number at
-- the index `call` in `sizes`, or `each` if there is no such index. If this would be 0, the result is 1.
abbrev pub piece_size : List ℕ → ℕ → ℕ → ℕ
piece_size sizes each call = max (slice_index_or sizes call each) 1

-- `successes_left` is the number of calls before the first that is made to fail, or None if no call is made to fail.
-- The result is its value after one more call: one less, but 0 stays 0, and None stays None.
abbrev pub one_less : Option ℕ → Option ℕ
one_less successes_left = option_map (λ k. k - 1) successes_left

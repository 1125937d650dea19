-- Definitions: how long a connection to the page port may last.
use Rattle.std.specs.Prelude.{ℕ, nat_le, Bool, not, ◌&&◌, ◌||◌}

-- Whether a connection is over, in milliseconds since its answer was made, or else since it was opened. It is over after
-- 5 seconds in any case, and after 1 second if it isn't answered yet and no further connection can be served beside it.
abbrev pub is_over : ℕ → Bool → Bool → Bool
is_over milliseconds is_answered are_all_taken =
    nat_le 5000 milliseconds || (nat_le 1000 milliseconds && are_all_taken && not is_answered)

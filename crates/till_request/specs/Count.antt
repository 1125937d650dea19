-- Promises: how a device's counters rise. They have 64 bits and wrap, so the promises compare them modulo 2^64.
use Rattle.std.specs.Prelude.{◌≡◌, ℕ, ◌+◌, ◌%◌, ◌^◌, Bool, true, false}

-- the counter rose by k, modulo 2^64
pub record RoseBy (k old new : ℕ) : Type 0 where
  pub same : new % 2 ^ 64 ≡ (old + k) % 2 ^ 64

-- one if the condition is true, else zero
abbrev pub one_if : Bool → ℕ
one_if true = 1
one_if false = 0

-- Definitions: how many lines an operator gets in a period, such as a second (source: this project). At most `most` lines
-- are printed. The others are counted, and their number is printed with the first line of a later period.
use Rattle.std.specs.Prelude.{ℕ, ◌+◌, ◌==◌, nat_lt, min, if◌then◌else◌, Option, Some, None}

-- How many lines of a period are let through at most, the last period in which a line came, how many lines were let
-- through in it, and how many were held back since one was let through.
pub record LimiterValue : Type 0 where
  pub most : ℕ
  pub period : ℕ
  pub allowed : ℕ
  pub held : ℕ

-- how many lines of this period were let through so far
abbrev pub allowed_in : LimiterValue → ℕ → ℕ
allowed_in l period = if period == l.period then l.allowed else 0

-- The answer to a line that comes in this period:
-- - Some n: the line is let through, and n lines were held back since the last one that was let through
-- - None: the line is held back
abbrev pub may_print : LimiterValue → ℕ → Option ℕ
may_print l period = if nat_lt (allowed_in l period) l.most then Some l.held else None

-- the limiter after a line came in this period; its count `held` goes up to 2^64 - 1 at most
abbrev pub after_line : LimiterValue → ℕ → LimiterValue
after_line l period =
    if nat_lt (allowed_in l period) l.most then record { most = l.most; period = period; allowed = allowed_in l period + 1; held = 0 }
    else record { most = l.most; period = period; allowed = allowed_in l period; held = min (l.held + 1) 18446744073709551615 }

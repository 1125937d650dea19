-- Representation: bounds on a site's numbers after a given number of entries.
use Rattle.std.specs.Prelude.{ℕ, ◌+◌, ◌*◌, ◌≤◌, All}
use Rattle.fuelling_point.specs.Table.{PointState}
use Rattle.site_core.specs.State.{SiteState}

-- The site's numbers are within their bounds after n entries of a day. A bound is the limit of the number in an
-- opening, plus what n entries can add: n to the number of each point's newest transaction, 999,999,999 times n cents
-- to the total of cleared amounts, and n to the count of cleared transactions.
pub record Bounded (n : ℕ) (s : SiteState) : Type 0 where
  pub last : All (λ (p : PointState). p.last ≤ 4290000000 + n) s.points
  pub cleared : s.cleared ≤ 1000000000000000000 + 999999999 * n
  pub clears : s.clears ≤ 1000000000000000000 + n

-- The site's numbers are within the bounds for 1,048,575 entries. These bounds leave room for one more entry.
abbrev pub HasRoom : SiteState → Type 0
HasRoom s = Bounded 1048575 s

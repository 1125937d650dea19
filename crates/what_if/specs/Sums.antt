-- Definitions: what rows come to (source: this project).
use Rattle.std.specs.Prelude.{ℕ, ◌+◌, ◌-◌, ◌/◌, ◌%◌, ◌^◌, ◌==◌, ◌&&◌, min, Bool, true, not, if◌then◌else◌, List, fold, unwrap_or}
use Rattle.what_if.specs.Rows.{change_of}
use Rattle.what_if.specs.declared.decisions.Kind.{Kind}
use Rattle.what_if.specs.declared.decisions.Kind.TheVariants as kind
use Rattle.what_if.specs.declared.rows.Row.{Row}
use Rattle.what_if.specs.declared.rows.RowChange.{RowChange}
use Rattle.what_if.specs.declared.rows.RowChange.TheVariants as change
use Rattle.what_if.specs.declared.summary.ChangeCounts.{ChangeCounts}
use Rattle.what_if.specs.declared.summary.RowsPart.{RowsPart}
use Rattle.what_if.specs.declared.summary.RowsPart.TheVariants as part

-- A number of 64 bits stays its greatest.
abbrev pub plus : ℕ → ℕ → ℕ
plus a b = min (a + b) (2 ^ 64 - 1)

abbrev pub counted : ChangeCounts → RowChange → ChangeCounts
counted counts change.Same = record counts { same = plus counts.same 1 }
counted counts change.More = record counts { more = plus counts.more 1 }
counted counts change.Less = record counts { less = plus counts.less 1 }
counted counts change.Denied = record counts { denied = plus counts.denied 1 }
counted counts change.Allowed = record counts { allowed = plus counts.allowed 1 }

abbrev pub no_counts : ChangeCounts
no_counts = record { same = 0; more = 0; less = 0; denied = 0; allowed = 0 }

-- The row is in this part. Prices are of point 0, and a moment of 0 is none.
abbrev pub is_in : RowsPart → Row → Bool
is_in part.All row = true
is_in (part.Till till) row = row.asking.till == till
is_in (part.Point point) row = row.asking.point == point
is_in part.Prices row = row.asking.point == 0
is_in (part.Hour hour) row = not (row.moment == 0) && (row.moment / 3600 % 24 == hour)
is_in part.NoMoment row = row.moment == 0

abbrev pub counted_in : RowsPart → ChangeCounts → Row → ChangeCounts
counted_in part counts row = if is_in part row then counted counts (change_of row) else counts

-- How many rows of a part show each change, with those that are counted already.
abbrev pub counts_from : RowsPart → ChangeCounts → List Row → ChangeCounts
counts_from part counts rows = fold (counted_in part) counts rows

-- The same in the rows of one journal or of many.
abbrev pub counts_in : RowsPart → List (List Row) → ChangeCounts
counts_in part all = fold (counts_from part) no_counts all

-- By how many cents less would be released.
abbrev pub withheld_of : Kind → ℕ → ℕ → ℕ
withheld_of kind.Release granted would = granted - would
withheld_of _ granted would = 0

abbrev pub withheld_by : Row → ℕ
withheld_by row = withheld_of row.asking.kind (unwrap_or row.granted 0) (unwrap_or row.would 0)

-- How many cents that were released would not have been.
abbrev pub withheld_from : ℕ → List Row → ℕ
withheld_from cents rows = fold (λ cents row. plus cents (withheld_by row)) cents rows

abbrev pub withheld_in : List (List Row) → ℕ
withheld_in all = fold withheld_from 0 all

-- By how many cents a release or a preset would be changed.
abbrev pub changed_by : Kind → ℕ → ℕ → ℕ
changed_by kind.Price granted would = 0
changed_by _ granted would = (granted - would) + (would - granted)

abbrev pub difference_of : Row → ℕ
difference_of row = changed_by row.asking.kind (unwrap_or row.granted 0) (unwrap_or row.would 0)

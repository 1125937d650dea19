-- Definitions: what a site keeps from one day to the next (source: this project).
use Rattle.std.specs.Prelude.{◌≡◌, ℕ, ◌≤◌, ◌==◌, List, [], ◌∷◌, length, Option, Some, None, false, All}
use Rattle.std.specs.List.{AllByRecursion, IsDistinct}
use Rattle.fuelling_point.specs.Table.{PointState}
use Rattle.bpf_model.specs.Machine.{Counters}
use Rattle.bpf_model.specs.Runs.{AreCounters}
use Rattle.site_core.specs.SlotsValue.{Version}
use Rattle.site_core.specs.Slots.{IsRule}

-- The state in which a day begins: the points, prices in thousandths of the currency per litre, counters with their
-- bounds, the total in cents of all amounts that were ever cleared, and how many transactions were ever cleared.
-- `versions` is how many versions were ever loaded. `rules` has for each slot the version in force, if there is one.
pub record OpeningValue : Type 0 where
  pub points : List PointState
  pub prices : List ℕ
  pub counters : Counters
  pub cleared : ℕ
  pub clears : ℕ
  pub versions : ℕ
  pub rules : List (Option Version)

-- The numbers of the versions in the slots, in the order of slots.
abbrev pub rule_numbers : List (Option Version) → List ℕ
rule_numbers [] = []
rule_numbers (None ∷ rest) = rule_numbers rest
rule_numbers (Some v ∷ rest) = v.number ∷ rule_numbers rest

-- No slot has a version of this number.
abbrev pub IsNewNumber : List (Option Version) → ℕ → Type 0
IsNewNumber rules number = AllByRecursion (λ n. (number == n) ≡ false) (rule_numbers rules)

-- No two slots have versions with the same number.
abbrev pub HaveOwnNumbers : List (Option Version) → Type 0
HaveOwnNumbers rules = IsDistinct (λ a b. a == b) (rule_numbers rules)

-- A site with `count` points can begin with the opening: it has that many points, no price over 9,999,999 thousandths,
-- and no counter over its bound. Each of the 16 slots has no version, or one that was loaded and that the verifier
-- accepts. No two slots have versions with the same number. The numbers that only grow are small enough for one more
-- day: the number of each point's newest transaction, the total of cleared amounts in cents, the count of cleared
-- transactions, and the count of versions.
pub record IsOpening (count : ℕ) (o : OpeningValue) : Type 0 where
  pub points : length o.points ≡ count
  pub prices : All (λ price. price ≤ 9999999) o.prices
  pub counters : AreCounters o.counters
  pub last : All (λ (p : PointState). p.last ≤ 4290000000) o.points
  pub cleared : o.cleared ≤ 1000000000000000000
  pub clears : o.clears ≤ 1000000000000000000
  pub versions : o.versions ≤ 4290000000
  pub slots : length o.rules ≡ 16
  pub rules : All (IsRule o.versions) o.rules
  pub distinct : HaveOwnNumbers o.rules

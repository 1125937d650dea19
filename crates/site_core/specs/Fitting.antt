-- Promises: which fault an opening has, if a site can't begin with it.
use Rattle.std.specs.Prelude.{◌≡◌, ℕ, ◌≤◌, List, [], ◌∷◌, length, Option, Some, None, All}
use Rattle.std.specs.List.{AllByRecursion}
use Rattle.fuelling_point.specs.Table.{PointState}
use Rattle.site_core.specs.Slots.{IsRule}
use Rattle.site_core.specs.Opening.{OpeningValue, HaveOwnNumbers}
use Rattle.site_core.specs.declared.opening.OpeningFault.{OpeningFault}
use Rattle.site_core.specs.declared.opening.OpeningFault.TheVariants as fault

-- The opening doesn't have this fault for a site with `count` points. `OutOfMemory` isn't a fault of an opening. For it
-- `LacksFault` is always false, so that `Misfits` below, which says that `LacksFault` is false, claims nothing.
abbrev pub LacksFault : ℕ → OpeningValue → OpeningFault → Type 0
LacksFault count o fault.Points = length o.points ≡ count
LacksFault count o fault.Prices = All (λ price. price ≤ 9999999) o.prices
LacksFault count o fault.Transactions = All (λ (p : PointState). p.last ≤ 4290000000) o.points
LacksFault count o fault.Cleared = o.cleared ≤ 1000000000000000000
LacksFault count o fault.Clears = o.clears ≤ 1000000000000000000
LacksFault count o fault.Versions = o.versions ≤ 4290000000
LacksFault count o fault.Slots = length o.rules ≡ 16
LacksFault count o fault.Rules = All (IsRule o.versions) o.rules
LacksFault count o fault.DuplicateVersion = HaveOwnNumbers o.rules
LacksFault count o fault.OutOfMemory = ⊥

-- The faults that come before this one in the order of `OpeningFault`; none for `OutOfMemory`.
abbrev pub faults_before : OpeningFault → List OpeningFault
faults_before fault.Points = []
faults_before fault.Prices = fault.Points ∷ []
faults_before fault.Transactions = fault.Points ∷ fault.Prices ∷ []
faults_before fault.Cleared = fault.Points ∷ fault.Prices ∷ fault.Transactions ∷ []
faults_before fault.Clears = fault.Points ∷ fault.Prices ∷ fault.Transactions ∷ fault.Cleared ∷ []
faults_before fault.Versions = fault.Points ∷ fault.Prices ∷ fault.Transactions ∷ fault.Cleared ∷ fault.Clears ∷ []
faults_before fault.Slots = fault.Points ∷ fault.Prices ∷ fault.Transactions ∷ fault.Cleared ∷ fault.Clears ∷ fault.Versions ∷ []
faults_before fault.Rules =
    fault.Points ∷ fault.Prices ∷ fault.Transactions ∷ fault.Cleared ∷ fault.Clears ∷ fault.Versions ∷ fault.Slots ∷ []
faults_before fault.DuplicateVersion =
    fault.Points ∷ fault.Prices ∷ fault.Transactions ∷ fault.Cleared ∷ fault.Clears ∷ fault.Versions ∷ fault.Slots ∷ fault.Rules ∷ []
faults_before fault.OutOfMemory = []

-- The fault is the first one that the opening has for a site with `count` points. For `OutOfMemory` nothing is claimed.
abbrev pub Misfits : ℕ → OpeningValue → OpeningFault → Type 0
Misfits count o fault = AllByRecursion (LacksFault count o) (faults_before fault) × ¬ LacksFault count o fault

-- The fault is Transactions, Cleared, Clears or Versions (a number that only grows is too great), or OutOfMemory.
abbrev pub IsLimitOrMemoryFault : OpeningFault → Type 0
IsLimitOrMemoryFault fault.Points = ⊥
IsLimitOrMemoryFault fault.Prices = ⊥
IsLimitOrMemoryFault fault.Transactions = Unit {0}
IsLimitOrMemoryFault fault.Cleared = Unit {0}
IsLimitOrMemoryFault fault.Clears = Unit {0}
IsLimitOrMemoryFault fault.Versions = Unit {0}
IsLimitOrMemoryFault fault.Slots = ⊥
IsLimitOrMemoryFault fault.Rules = ⊥
IsLimitOrMemoryFault fault.DuplicateVersion = ⊥
IsLimitOrMemoryFault fault.OutOfMemory = Unit {0}

-- Each point's newest transaction has a number that an opening can have: at most 4,290,000,000.
abbrev pub AreLastNumbersWithinLimit : List PointState → Type 0
AreLastNumbersWithinLimit points = All (λ (p : PointState). p.last ≤ 4290000000) points

-- `Some fault` names the first number that is too great for an opening. None means that no number is. The order is: the
-- number of each point's newest transaction, the total of cleared amounts in cents, the count of cleared transactions,
-- and the count of versions.
abbrev pub IsFirstLimitFault : List PointState → ℕ → ℕ → ℕ → Option OpeningFault → Type 0
IsFirstLimitFault points cleared clears versions None =
    AreLastNumbersWithinLimit points × (cleared ≤ 1000000000000000000) × (clears ≤ 1000000000000000000) × (versions ≤ 4290000000)
IsFirstLimitFault points cleared clears versions (Some fault.Transactions) = ¬ AreLastNumbersWithinLimit points
IsFirstLimitFault points cleared clears versions (Some fault.Cleared) = AreLastNumbersWithinLimit points × ¬ (cleared ≤ 1000000000000000000)
IsFirstLimitFault points cleared clears versions (Some fault.Clears) =
    AreLastNumbersWithinLimit points × (cleared ≤ 1000000000000000000) × ¬ (clears ≤ 1000000000000000000)
IsFirstLimitFault points cleared clears versions (Some fault.Versions) =
    AreLastNumbersWithinLimit points × (cleared ≤ 1000000000000000000) × (clears ≤ 1000000000000000000) × ¬ (versions ≤ 4290000000)
IsFirstLimitFault points cleared clears versions (Some other) = ⊥

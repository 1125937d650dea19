-- Representation: what the fields of `Slots` mean, and its invariant.
use Rattle.std.specs.Prelude.{◌≡◌, ℕ, ◌+◌, ◌≤◌, ◌<◌, length, map, Option, Some, None, All}
use Rattle.std.specs.Arc.{arc_value}
use Rattle.site_core.specs.SlotsValue.{SlotsValue}
use Rattle.site_core.specs.Slots.{IsRule}
use Rattle.site_core.specs.declared.slots.Slots.TheInside.{Inside}

abbrev pub slots_view : Inside → SlotsValue
slots_view s = record {
  before = s.before;
  opened = s.opened.items;
  installed = s.installed;
  since = s.since;
  programs = map (λ program. arc_value program) s.programs.items;
}

-- Nothing was installed in the slot, or the number of the version installed there is over `before` and at most
-- `before + count`.
abbrev pub IsVersion : ℕ → ℕ → Option ℕ → Type 0
IsVersion before count None = Unit {0}
IsVersion before count (Some n) = (before < n) × (n ≤ before + count)

-- There are 16 slots. Each stores None, or the number of a version that was installed in these slots, and the number of
-- an entry. At most 4,096
-- versions were installed, and there were at most 4,290,000,000 before. Each slot began with no version, or with one
-- whose number is from 1 to `before` and whose program the verifier accepts. That program is also good: it can be
-- decoded, and each run of it ends and changes only declared counters.
pub record AreSlots (s : Inside) : Type 0 where
  pub slots : length s.installed ≡ 16
  pub entries : length s.since ≡ 16
  pub count : length s.programs.items ≤ 4096
  pub named : All (IsVersion s.before (length s.programs.items)) s.installed
  pub before : s.before ≤ 4290000000
  pub places : length s.opened.items ≤ 16
  pub rules : All (IsRule s.before) s.opened.items

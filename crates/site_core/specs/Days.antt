-- Definitions: how one day of a site follows another (source: this project).
use Rattle.std.specs.Prelude.{◌≡◌, ℕ, ◌+◌, ◌<◌, ◌≤◌, ◌↔◌, List, ◌++◌, length, map, reverse, Some, All}
use Rattle.std.specs.List.{range_with_len}
use Rattle.fuelling_point.specs.Table.{PointState}
use Rattle.fuelling_point.specs.declared.kinds.Transaction.{Transaction}
use Rattle.bpf_model.specs.Machine.{Counters, counter}
use Rattle.decision_journal.specs.declared.entries.Entry.{Entry}
use Rattle.till_request.specs.declared.act.Act.{Act}
use Rattle.site_core.specs.Opening.{OpeningValue}
use Rattle.site_core.specs.Limits.{ConfigValue, IsConfig}
use Rattle.site_core.specs.State.{SiteState, opening_state}
use Rattle.site_core.specs.History.{in_force, versions, versions_before}
use Rattle.site_core.specs.Step.{effect}
use Rattle.site_core.specs.Legal.{LegalHistory}
use Rattle.site_core.specs.Site.{SiteValue, Upholds}

-- What a site leaves for the next day: its state, how many versions were ever loaded, and the version in force in each
-- of slots 0 to 15.
abbrev pub carried : SiteValue → OpeningValue
carried site = record {
  points = site.state.points;
  prices = site.state.prices;
  counters = site.state.counters;
  cleared = site.state.cleared;
  clears = site.state.clears;
  versions = versions_before site.config + versions (reverse site.history);
  rules = map (λ slot. in_force site.config slot (reverse site.history)) (range_with_len 0 16);
}

-- The configuration of the next day's site: this site's configuration, with what this site leaves as the opening.
abbrev pub next_day : SiteValue → ConfigValue
next_day site = record site.config { opening = Some (carried site) }

-- The entry, with its number raised by k.
abbrev pub with_number_raised : ℕ → Entry → Entry
with_number_raised k entry = record entry { number = entry.number + k }

-- The law of the day's end: closing a day changes nothing but the numbers of entries. A list of entries, oldest first,
-- is a legal history of the next day exactly if it could have followed the site's own history, with numbers raised by
-- that history's length. It leads to the same state either way. This holds as long as both days together have at most
-- 1,048,576 entries and fewer than 4,096 versions.
abbrev pub ClosingChangesOnlyNumbers : Type 0
ClosingChangesOnlyNumbers = (site : SiteValue) (day : List Entry) (state : SiteState) → IsConfig site.config → Upholds site
    → length site.history + length day ≤ 1048576 → versions (reverse site.history) + versions (reverse day) < 4096
    → LegalHistory (next_day site) day state ↔ LegalHistory site.config (site.history ++ map (with_number_raised (length site.history)) day) state

-- The law of each event: an event of the next day has the effect that it would have had if the day before had gone on,
-- however many entries both days have. This holds while both days together have fewer than 4,096 versions. `later` has
-- the entries of the next day so far, newest first.
abbrev pub EventEffectIsSameNextDay : Type 0
EventEffectIsSameNextDay = (site : SiteValue) (later : List Entry) (s : SiteState) (moment : ℕ) (act : Act) → IsConfig site.config
    → versions (reverse site.history) + versions later < 4096
    → effect (next_day site) later s moment act
    ≡ effect site.config (map (with_number_raised (length site.history)) later ++ reverse site.history) s moment act

-- Each counter has the same bound in both lists.
abbrev pub HaveSameBounds : Counters → Counters → Type 0
HaveSameBounds a b = (c : ℕ) → (counter a c).1 ≡ (counter b c).1

-- The law of bounds: the counters that a site leaves for the next day have the bounds that the counters had when the
-- site began.
abbrev pub BoundsStay : Type 0
BoundsStay = (site : SiteValue) → Upholds site → HaveSameBounds (carried site).counters (opening_state site.config).counters

-- Each unpaid transaction of the point is held by nobody, or by a till whose number is at most `tills`.
abbrev pub IsHeldWithin : ℕ → PointState → Type 0
IsHeldWithin tills p = All (λ (t : Transaction). t.holder ≤ tills) p.unpaid

-- The law of holders: if each unpaid transaction with which a site begins is held by nobody or by one of the site's
-- tills, then so is each unpaid transaction that the site leaves.
abbrev pub HoldersStay : Type 0
HoldersStay = (site : SiteValue) → Upholds site → All (IsHeldWithin site.config.tills) (opening_state site.config).points
    → All (IsHeldWithin site.config.tills) (carried site).points

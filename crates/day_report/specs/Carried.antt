-- Definitions: which rules a site carries in from the day before.
use Rattle.std.specs.Prelude.{◌≡◌, ℕ, ◌+◌, List, [], ◌∷◌, length, Option, Some, None}
use Rattle.std.specs.List.{cons_option}
use Rattle.site_core.specs.SlotsValue.{Version}
use Rattle.site_core.specs.Opening.{OpeningValue, IsOpening}
use Rattle.site_core.specs.Limits.{ConfigValue}
use Rattle.day_report.specs.declared.opening.CarriedRule.{CarriedRule}

-- The rule that a slot carries in from the day before, with the slot's number; None if the slot is empty.
abbrev pub carried_at : ℕ → Option Version → Option CarriedRule
carried_at slot None = None
carried_at slot (Some v) = Some (record { slot = slot; version = v.number })

-- The rules in the slots that aren't empty, in the order of the slots. `slot` is the number of the list's first slot.
abbrev pub carried_from : ℕ → List (Option Version) → List CarriedRule
carried_from slot [] = []
carried_from slot (rule ∷ rules) = cons_option (carried_at slot rule) (carried_from (slot + 1) rules)

-- The rules that a site of this configuration begins with: those of its opening, or none without an opening.
abbrev pub carried_rules : ConfigValue → List CarriedRule
carried_rules config = elim config.opening [ None ↦ [] | Some o ↦ carried_from 0 o.rules ]

-- The configuration has no opening, or one that a site with the configuration's points can begin with. This is so for
-- every `Config`, since its invariant `IsConfig` includes it.
abbrev pub HasValidOpening : ConfigValue → Type 0
HasValidOpening config = (o : OpeningValue) → config.opening ≡ Some o → IsOpening (length config.points) o

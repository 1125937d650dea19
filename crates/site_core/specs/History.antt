-- Definitions: how many versions a history has loaded, which version is in force in a slot after it, and since which
-- entry. In these definitions a history has its newest entry first.
use Rattle.std.specs.Prelude.{ℕ, ◌+◌, List, [], ◌∷◌, Option, Some, None, ◌==◌, if◌then◌else◌, slice_index_or}
use Rattle.decision_journal.specs.declared.entries.Entry.{Entry}
use Rattle.till_request.specs.declared.act.Act.{Act}
use Rattle.till_request.specs.declared.act.Act.TheVariants as act
use Rattle.till_request.specs.declared.act.Reply.{Reply}
use Rattle.till_request.specs.declared.act.Reply.TheVariants as reply
use Rattle.bpf_model.specs.Program.{ProgramText, as_loaded}
use Rattle.site_core.specs.SlotsValue.{Version}
use Rattle.site_core.specs.Limits.{ConfigValue}

-- The slot and the program of a load that was answered with a version. None for any other act or reply.
abbrev pub loaded : Act → Reply → Option (ℕ × ProgramText)
loaded (act.Load slot mask layout bytes) (reply.Version v) = Some (slot, as_loaded bytes mask layout)
loaded _ _ = None

-- How many loads in the history were answered with a version.
abbrev pub versions : List Entry → ℕ
versions [] = 0
versions (entry ∷ earlier) =
    elim (loaded entry.act entry.reply) [ Some _ ↦ versions earlier + 1 | None ↦ versions earlier ]

-- How many versions were loaded before the history begins: as many as the opening counts, or 0 without an opening.
abbrev pub versions_before : ConfigValue → ℕ
versions_before config = elim config.opening [ None ↦ 0 | Some o ↦ o.versions ]

-- The version in force in a slot when the history begins: the one that the opening has for this slot. None if it has
-- none for the slot, or if there is no opening.
abbrev pub opening_rule : ConfigValue → ℕ → Option Version
opening_rule config slot = elim config.opening [ None ↦ None | Some o ↦ slice_index_or o.rules slot None ]

-- The version in force in a slot: the program of the last load into it that was answered with a version, or else the
-- version of the opening, if any. The number of a loaded version is 1 more than the count of all versions before it.
abbrev pub in_force : ConfigValue → ℕ → List Entry → Option Version
in_force config slot [] = opening_rule config slot
in_force config slot (entry ∷ earlier) =
    elim (loaded entry.act entry.reply) [
      | Some l ↦ if l.0 == slot then Some (record { number = versions_before config + versions earlier + 1; program = l.1 })
          else in_force config slot earlier
      | None ↦ in_force config slot earlier
    ]

-- The number of the entry that loaded the version in force in a slot. 0 if no load in this history did: then the version
-- is that of the opening, if any.
abbrev pub loaded_at : ℕ → List Entry → ℕ
loaded_at slot [] = 0
loaded_at slot (entry ∷ earlier) =
    elim (loaded entry.act entry.reply) [
      | Some l ↦ if l.0 == slot then entry.number else loaded_at slot earlier
      | None ↦ loaded_at slot earlier
    ]

-- Definitions: which version is in a slot. There are 16 slots, 0 to 15, and versions are numbered from 1 over all slots
-- (source: this project).
use Rattle.std.specs.Prelude.{◌≡◌, ◌≤◌, ℕ, ◌-◌, ◌==◌, nat_lt, if◌then◌else◌, List, [], ◌∷◌, slice_get, slice_index, slice_index_or, Option, option_map, Some, None}
use Rattle.std.specs.List.{repeat}
use Rattle.bpf_model.specs.Program.{ProgramText, IsGood}
use Rattle.verifier.specs.RefusedPrograms.{refusal_of}
use Rattle.site_core.specs.SlotsValue.{SlotsValue, Version}

-- Either there is no version, or the version's number is from 1 to `versions`, the verifier accepts its program, and
-- the program is good: it can be decoded, and each run of it ends and changes only declared counters.
abbrev pub IsRule : ℕ → Option Version → Type 0
IsRule versions None = Unit {0}
IsRule versions (Some v) = (1 ≤ v.number) × (v.number ≤ versions) × IsGood v.program × (refusal_of v.program ≡ None)

-- The value of slots that begin with the versions `opened`, after `before` versions were made.
abbrev pub opened_slots : ℕ → List (Option Version) → SlotsValue
opened_slots before opened = record {
  before = before;
  opened = opened;
  installed = repeat 16 (None ∷ []);
  since = repeat 16 (0 ∷ []);
  programs = [];
}

abbrev pub no_versions : SlotsValue
no_versions = opened_slots 0 []

-- The program that was installed in these slots as the version `number`; None if there is none. `number` must be over
-- `before`.
abbrev pub installed_program : SlotsValue → ℕ → Option ProgramText
installed_program v number = slice_get v.programs (number - v.before - 1)

-- The version in a slot: the one that was installed last, or else the one that the slot began with; None for an empty
-- slot.
abbrev pub version_in : SlotsValue → ℕ → Option Version
version_in v slot =
    elim (slice_index_or v.installed slot None) [
      | Some n ↦ option_map (λ program. record { number = n; program = program }) (installed_program v n)
      | None ↦ slice_index_or v.opened slot None
    ]

-- The number of the version in a slot; None for an empty slot.
abbrev pub number_in : SlotsValue → ℕ → Option ℕ
number_in v slot = option_map (λ (w : Version). w.number) (version_in v slot)

-- The number of the entry that installed the version in a slot; 0 if the slot has the version that it began with, or
-- none.
abbrev pub since_in : SlotsValue → ℕ → ℕ
since_in v slot = slice_index v.since slot

-- The program of the first of these versions that has this number; None if none has it.
abbrev pub program_among : List (Option Version) → ℕ → Option ProgramText
program_among [] number = None
program_among (None ∷ rest) number = program_among rest number
program_among (Some w ∷ rest) number = if w.number == number then Some w.program else program_among rest number

-- The program of the version `number`, if that version was installed in these slots, or if one of them began with it;
-- else None.
abbrev pub program_of : SlotsValue → ℕ → Option ProgramText
program_of v number = if nat_lt v.before number then installed_program v number else program_among v.opened number

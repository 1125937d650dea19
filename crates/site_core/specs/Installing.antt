-- Promises: what the installation of a new version changes, and when each error is returned.
use Rattle.std.specs.Prelude.{◌≡◌, ◌≢◌, ℕ, ◌+◌, ◌<◌, ◌≤◌, [], ◌∷◌, ◌++◌, length, slice_set, Some, Result, Ok, Err}
use Rattle.bpf_model.specs.Program.{ProgramText}
use Rattle.site_core.specs.SlotsValue.{SlotsValue}
use Rattle.site_core.specs.Slots.{version_in, since_in}
use Rattle.site_core.specs.declared.slots.SlotFault.{SlotFault}
use Rattle.site_core.specs.declared.slots.SlotFault.TheVariants.{NoSuchSlot, VersionsFull, OutOfMemory}

-- The program was installed in `slot` as a new version, with the next number, by this entry. Each other slot keeps its
-- version and its entry, and the versions that the slots began with stay the same.
pub record Installs (old : SlotsValue) (slot : ℕ) (program : ProgramText) (entry number : ℕ) (new : SlotsValue) : Type 0 where
  pub number_is : number ≡ old.before + length old.programs + 1
  pub programs_are : new.programs ≡ old.programs ++ program ∷ []
  pub installed_is : new.installed ≡ slice_set old.installed slot (Some number)
  pub since_is : new.since ≡ slice_set old.since slot entry
  pub before_is : new.before ≡ old.before
  pub opened_is : new.opened ≡ old.opened
  pub in_slot : version_in new slot ≡ Some (record { number = number; program = program })
  pub elsewhere : (other : ℕ) → other ≢ slot → version_in new other ≡ version_in old other
  pub since_slot : since_in new slot ≡ entry
  pub since_elsewhere : (other : ℕ) → other ≢ slot → since_in new other ≡ since_in old other

-- What must have been true before the call if `install` returned this result. A slot over 15 is reported first. Memory
-- can run out only if the slot is 0 to 15 and fewer than 4,096 versions were installed.
abbrev pub Refuses : SlotsValue → ℕ → Result ℕ SlotFault → Type 0
Refuses old slot (Ok number) = (slot < 16) × (length old.programs < 4096)
Refuses old slot (Err NoSuchSlot) = 16 ≤ slot
Refuses old slot (Err VersionsFull) = (slot < 16) × (4096 ≤ length old.programs)
Refuses old slot (Err OutOfMemory) = (slot < 16) × (length old.programs < 4096)

-- Definitions: the value of `Slots` in contracts.
use Rattle.std.specs.Prelude.{ℕ, List, Option}
use Rattle.bpf_model.specs.Program.{ProgramText}

-- A version: its number and its program.
pub record Version : Type 0 where
  pub number : ℕ
  pub program : ProgramText

-- The value of `Slots`. `before` is how many versions there were before these slots were made. `opened` has the
-- versions that the slots began with, slot 0 first. A slot began empty if its place there is None, or is past the end
-- of the list. `installed` has for each slot the number of the version that was installed in it last, or None if none
-- was. `since` has for each slot the number of the entry that installed this version, or 0. `programs` has the programs
-- of the versions `before` + 1, `before` + 2, and so on.
pub record SlotsValue : Type 0 where
  pub before : ℕ
  pub opened : List (Option Version)
  pub installed : List (Option ℕ)
  pub since : List ℕ
  pub programs : List ProgramText

-- Definitions: a pass and a forecourt, as contracts see them.
use Rattle.std.specs.Prelude.{◌≡◌, ℕ, ◌+◌, ◌<◌, ◌%◌, List, [], length, Bool, false, Option, Some, slice_get}
use Rattle.decision_journal.specs.declared.entries.Entry.{Entry}
use Rattle.site_core.specs.Limits.{ConfigValue}
use Rattle.site_lock.specs.declared.pass.Receipt.{Receipt}
use Rattle.site_lock.specs.declared.pass.TheConstants.{FULL_MARK}

-- how many answered calls an amount of the ledger counts: each of them adds 1 to it, and each answer that the history is
-- full adds `FULL_MARK`
abbrev pub calls_in : ℕ → ℕ
calls_in amount = amount % FULL_MARK

-- How many answered calls a pass's share of the ledger counts, and whether a call was answered that the history is full.
pub record CountView : Type 0 where
  pub amount : ℕ
  pub was_full : Bool

-- The number of a pass, its count (`CountView`), and its receipts, the oldest first.
pub record PassView : Type 0 where
  pub id : ℕ
  pub amount : ℕ
  pub was_full : Bool
  pub receipts : List Receipt

-- A forecourt's configuration, the number of its passes, the history that it started from, and the bytes that the
-- journal had taken before the start, if they are known.
pub record Opened : Type 0 where
  pub config : ConfigValue
  pub passes : ℕ
  pub base : List Entry
  pub taken : Option (List ℕ)

-- a pass without receipts
abbrev pub new_pass : ℕ → PassView
new_pass id = record { id = id; amount = 0; was_full = false; receipts = [] }

-- the passes 1 to n, without receipts
abbrev pub AreNew : ℕ → List PassView → Type 0
AreNew n passes = (length passes ≡ n) × ((k : ℕ) → k < n → slice_get passes k ≡ Some (new_pass (k + 1)))

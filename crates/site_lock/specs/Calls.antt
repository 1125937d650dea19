-- Definitions: the receipt of an answered call, a pass after an error, when an answer to an act fits in some legal
-- history, and by how much a count of calls rose.
use Rattle.std.specs.Prelude.{◌≡◌, ℕ, ◌+◌, ◌≤◌, List, [], ◌∷◌, ◌++◌, Bool, true, Result, Ok, Err}
use Rattle.decision_journal.specs.declared.entries.Entry.{Entry}
use Rattle.till_request.specs.Count.{RoseBy}
use Rattle.till_request.specs.declared.act.Act.{Act}
use Rattle.site_core.specs.declared.events.Answered.{Answered}
use Rattle.site_core.specs.declared.events.CallFault.{CallFault}
use Rattle.site_core.specs.declared.events.CallFault.TheVariants.{JournalFull, OutOfMemory}
use Rattle.site_core.specs.Limits.{ConfigValue}
use Rattle.site_core.specs.State.{SiteState}
use Rattle.site_core.specs.Legal.{LegalHistory}
use Rattle.site_lock.specs.declared.enter_fault.EnterFault.{EnterFault}
use Rattle.site_lock.specs.declared.enter_fault.EnterFault.TheVariants.{Call, Journal}
use Rattle.site_lock.specs.declared.pass.Receipt.{Receipt}
use Rattle.site_lock.specs.Passes.{CountView, PassView}

-- the receipt of an answer to an act at a moment
abbrev pub receipt_of : ℕ → Act → Answered → Receipt
receipt_of moment act a = record { number = a.number; moment = moment; act = act; reply = a.reply }

-- The pass counts one more call, and has one more receipt, that of this answer. The rest of it is the same.
pub record Gains (before now : PassView) (moment : ℕ) (act : Act) (a : Answered) : Type 0 where
  pub id : now.id ≡ before.id
  pub amount : now.amount ≡ before.amount + 1
  pub was_full : now.was_full ≡ before.was_full
  pub receipts : now.receipts ≡ before.receipts ++ receipt_of moment act a ∷ []

-- whether a call of a pass was answered that the history is full, after a further call got this error
abbrev pub full_after : EnterFault → Bool → Bool
full_after (Call JournalFull) was_full = true
full_after (Call OutOfMemory) was_full = was_full
full_after Journal was_full = was_full

-- the pass, and its count, after a call that got this error
abbrev pub pass_after : EnterFault → PassView → PassView
pass_after fault p = record { id = p.id; amount = p.amount; was_full = full_after fault p.was_full; receipts = p.receipts }

abbrev pub count_after : EnterFault → CountView → CountView
count_after fault c = record { amount = c.amount; was_full = full_after fault c.was_full }

-- Some legal history of this configuration ends with an entry that has this number, pass, moment, act and reply.
pub record FitsIn (config : ConfigValue) (pass moment : ℕ) (act : Act) (a : Answered) : Type 0 where
  pub before : List Entry
  pub last : Entry
  pub state : SiteState
  pub legal : LegalHistory config (before ++ last ∷ []) state
  pub numbered : last.number ≡ a.number
  pub by : last.pass ≡ pass
  pub at : last.moment ≡ moment
  pub does : last.act ≡ act
  pub answers : last.reply ≡ a.reply

-- a count of 64 bits, which wraps, rose by at least `least` and at most `most`
abbrev pub RoseWithin : ℕ → ℕ → ℕ → ℕ → Type 0
RoseWithin least most before now = (k : ℕ) × (least ≤ k) × (k ≤ most) × RoseBy k before now

-- The result of a call at a site whose journal can't fail: an error is changed to a `CallFault`. The error `Journal`
-- never comes at such a site, and is changed to `OutOfMemory`.
abbrev pub unjournalled_of : Result Answered EnterFault → Result Answered CallFault
unjournalled_of (Ok a) = Ok a
unjournalled_of (Err (Call fault)) = Err fault
unjournalled_of (Err Journal) = Err OutOfMemory

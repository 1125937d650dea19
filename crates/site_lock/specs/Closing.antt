-- Promises: the result of closing a forecourt (a site under its lock, which is called with passes). A close takes the
-- forecourt and passes. If these are all its passes, each once, and their receipts agree with the site's history, the
-- result is the site. Otherwise it is the reason, the passes, and the forecourt, which nobody can call until it is
-- reopened.
use Rattle.std.specs.Prelude.{◌≡◌, ℕ, ◌-◌, List, ◌++◌, length, sum_by, Any, slice_get, Option, Some, Bool, true, false}
use Rattle.std.specs.Io.KnownBytes.{Appends}
use Rattle.decision_journal.specs.declared.entries.Entry.{Entry}
use Rattle.decision_journal.specs.Text.{journal_text}
use Rattle.site_core.specs.Limits.{ConfigValue, most_entries}
use Rattle.site_core.specs.Site.{SiteValue, Upholds}
use Rattle.site_lock.specs.declared.close.CloseRefusal.{CloseRefusal}
use Rattle.site_lock.specs.declared.close.CloseRefusal.TheVariants.{PassMissing, NotInHistory, OtherConfig}
use Rattle.site_lock.specs.Passes.{PassView, Opened}
use Rattle.site_lock.specs.LockedSites.{LockedSiteValue, IsWhole, HeldMatchesJournal}
use Rattle.site_lock.specs.Merge.{AreAll, IsFault, IsFaultSince, IsMerge, IsMergeSince}

-- if a call of one of these passes was answered that the history is full, then this history is full (S29)
abbrev pub IsFullIfTold : List PassView → List Entry → Type 0
IsFullIfTold passes history = Any (λ p. p.was_full ≡ true) passes → length history ≡ most_entries

-- The forecourt `f` is closed with these passes, and leaves this site. The passes are all passes of the forecourt, each
-- once. The site has the forecourt's configuration. The site's history is legal, and is the merge of the passes'
-- receipts. Each pass counts its answered calls; the history has one entry for each of them. It is full if a call was
-- answered so.
pub record Closes (f : Opened) (passes : List PassView) (s : SiteValue) : Type 0 where
  pub all : AreAll f.passes passes
  pub config : s.config ≡ f.config
  pub legal : Upholds s
  pub calls : length s.history ≡ sum_by (λ (p : PassView). p.amount) passes
  pub merge : IsMerge s.history passes
  pub full : IsFullIfTold passes s.history

-- The forecourt `f`, which began with the history `f.base`, is closed with these passes, and leaves this site. The
-- passes are all passes of the forecourt, each once. The site has the forecourt's configuration. The site's history is
-- legal, and is `f.base`, followed by the merge of the passes' receipts. This merge has one entry for each answered
-- call that a pass counts, and the journal took exactly the text of these entries. The history is full if a call was
-- answered so.
pub record ClosesSince (f : Opened) (passes : List PassView) (s : SiteValue) (written : Option (List ℕ)) : Type 0 where
  pub all : AreAll f.passes passes
  pub config : s.config ≡ f.config
  pub legal : Upholds s
  pub since : List Entry
  pub history_is : s.history ≡ f.base ++ since
  pub calls : length since ≡ sum_by (λ (p : PassView). p.amount) passes
  pub merge : IsMergeSince (length f.base) s.history passes
  pub full : IsFullIfTold passes s.history
  pub kept : Appends f.taken written (journal_text since)

-- A forecourt that couldn't be closed, and which nobody can call: how it was opened, and what the lock protected.
pub record HaltedValue : Type 0 where
  pub opened : Opened
  pub locked_site : LockedSiteValue

-- What holds for a forecourt that couldn't be closed. Its site has the forecourt's configuration, and a legal history:
-- the history at the start, followed by the entries of the answered calls, whose text the journal took. If the journal
-- failed, there is one more entry. It wasn't answered, and the journal took a beginning of its line.
pub record IsHalted (may_fail : Type 0) (h : HaltedValue) : Type 0 where
  pub config : h.locked_site.site.config ≡ h.opened.config
  pub legal : Upholds h.locked_site.site
  pub matches_journal : HeldMatchesJournal h.opened.base h.opened.taken may_fail h.locked_site

-- the last entry has this pass and number
abbrev pub IsLast : List Entry → ℕ → ℕ → Type 0
IsLast history id number =
    (last : Entry) × (slice_get history (length history - 1) ≡ Some last) × (last.pass ≡ id) × (last.number ≡ number)

-- What the reason C2 (a wrong receipt, or an entry without a receipt) says of the pass `id` and this number. If the
-- journal failed, the last entry has this pass and number. Otherwise either the pass's first wrong receipt has this
-- number, or an entry after the first `base` ones has this pass and number, and has no receipt.
abbrev pub IsWrong : Bool → ℕ → List Entry → List PassView → ℕ → ℕ → Type 0
IsWrong false base history passes id number = IsFaultSince base history passes id number
IsWrong true base history passes id number = IsLast history id number

-- Why a forecourt can't be closed although all its passes are given. The reason is always C2 (a wrong receipt, or an
-- entry without a receipt). `IsWrong` says which pass and which number are named with C2.
abbrev pub PreventsClose : ℕ → LockedSiteValue → List PassView → CloseRefusal → Type 0
PreventsClose base v passes PassMissing = ⊥
PreventsClose base v passes (NotInHistory id number) = IsWrong v.journal_failed base v.site.history passes id number
PreventsClose base v passes OtherConfig = ⊥

-- Why a close with `passes` was refused:
-- - C1: they aren't all passes of the forecourt, each once.
-- - C2 (a wrong receipt, or an entry without a receipt): they are all passes of the forecourt, each once, and together
--   they count as many calls as were answered. The history is full if a call was answered so. The pass and the number
--   are those of the last entry if the journal failed, or else those of a pass's first wrong receipt or of an entry
--   without a receipt (`IsWrong`).
-- The reason is never C3 (another configuration).
abbrev pub RefusesSince : HaltedValue → List PassView → CloseRefusal → Type 0
RefusesSince h passes PassMissing = ¬ AreAll h.opened.passes passes
RefusesSince h passes (NotInHistory id number) =
    AreAll h.opened.passes passes
    × (h.locked_site.total ≡ sum_by (λ (p : PassView). p.amount) passes)
    × IsFullIfTold passes h.locked_site.site.history
    × IsWrong h.locked_site.journal_failed (length h.opened.base) h.locked_site.site.history passes id number
RefusesSince h passes OtherConfig = ⊥

-- Why a close with `passes` was refused, if the history at the start was empty and the journal can't fail:
-- - C1: they aren't all passes of the forecourt, each once.
-- - C2: they are all passes of the forecourt, each once, and together they count as many calls as the history has
--   entries. The history is full if a call was answered so. The pass and the number are those of a pass's first wrong
--   receipt or of an entry without a receipt (`IsFault`).
-- The reason is never C3 (another configuration).
abbrev pub Refuses : HaltedValue → List PassView → CloseRefusal → Type 0
Refuses h passes PassMissing = ¬ AreAll h.opened.passes passes
Refuses h passes (NotInHistory id number) =
    AreAll h.opened.passes passes
    × (length h.locked_site.site.history ≡ sum_by (λ (p : PassView). p.amount) passes)
    × IsFullIfTold passes h.locked_site.site.history
    × IsFault h.locked_site.site.history passes id number
Refuses h passes OtherConfig = ⊥

-- The site has this configuration, and a legal history: `base`, followed by as many entries as calls were answered. The
-- receipts of these passes agree with these later entries, each of which has a receipt. The journal took exactly the
-- text of these later entries. So the forecourt can be closed if these are all its passes, each once.
pub record IsClosable (base : List Entry) (taken : Option (List ℕ)) (v : LockedSiteValue) (config : ConfigValue) (passes : List PassView) : Type 0 where
  pub config_is : v.site.config ≡ config
  pub legal : Upholds v.site
  pub merge : IsMergeSince (length base) v.site.history passes
  pub whole : IsWhole base taken v.site.history v.total v.written

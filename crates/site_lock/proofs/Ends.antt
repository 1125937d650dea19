-- Lemmas on the checks that are made when a forecourt is to be closed. If they find no reason against it, then the
-- site, the passes and the journal are as they must be after a close (`ClosesSince`). If they find a reason, then this
-- reason is true (`RefusesSince`).
use Rattle.std.proofs.Common.{◌≡◌, ℕ, List, [], ◌++◌, length, Bool, true, false, IsTrue, ◌↔◌, Option, sym, ap, ◌∙◌, subst}
use Rattle.std.specs.Prelude.{sum_by, IfNone, IfSome, None, Some}
use Rattle.decision_journal.specs.declared.entries.Entry.{Entry}
use Rattle.site_core.specs.Limits.{ConfigValue}
use Rattle.site_core.specs.Site.{SiteValue}
use Rattle.site_lock.specs.declared.close.CloseRefusal.{CloseRefusal}
use Rattle.site_lock.specs.declared.close.CloseRefusal.TheVariants.{PassMissing, NotInHistory, OtherConfig}
use Rattle.site_lock.specs.Passes.{PassView, Opened}
use Rattle.site_lock.specs.Merge.{AreAll, IsMergeSince, IsFault, IsFaultSince}
use Rattle.site_lock.specs.LockedSites.{LockedSiteValue, MatchesJournal}
use Rattle.site_lock.specs.Closing.{Closes, ClosesSince, HaltedValue, PreventsClose, IsClosable, IsFullIfTold, IsHalted, IsWrong, Refuses, RefusesSince}

pub none_missing : (f : Opened) (n : ℕ) (xs ys : List PassView) (r : Bool) → r ≡ true → IsTrue r ↔ AreAll n xs → xs ≡ ys → n ≡ f.passes → AreAll f.passes ys
none_missing f n xs ys r e h same num =
    let P : List PassView → Type 0 = λ zs. AreAll n zs in
    let Q : ℕ → Type 0 = λ m. AreAll m ys in
    subst Q num (subst P same (h.0 e))

pub some_missing : (f : Opened) (n : ℕ) (xs ys : List PassView) (r : Bool) → r ≡ false → IsTrue r ↔ AreAll n xs → xs ≡ ys → n ≡ f.passes → ¬ AreAll f.passes ys
some_missing f n xs ys r e h same num all =
    let P : List PassView → Type 0 = λ zs. AreAll n zs in
    let Q : ℕ → Type 0 = λ m. AreAll m ys in
    let t = h.1 (subst P (sym same) (subst Q (sym num) all)) in
    absurd (cc)

-- what counting the passes' calls says of what the lock protects
abbrev Counted : LockedSiteValue → List PassView → Type 0
Counted v ys = (v.total ≡ sum_by (λ (p : PassView). p.amount) ys) × IsFullIfTold ys v.site.history

hinders : (h : HaltedValue) (ys : List PassView) (w : CloseRefusal) → AreAll h.opened.passes ys → Counted h.locked_site ys
    → PreventsClose (length h.opened.base) h.locked_site ys w → RefusesSince h ys w
hinders h ys PassMissing all total fault = absurd fault
hinders h ys (NotInHistory id n) all total fault = (all, total.0, total.1, fault)
hinders h ys OtherConfig all total fault = fault

refused : (h : HaltedValue) (base : List Entry) (xs ys : List PassView) (v : LockedSiteValue) (w : CloseRefusal)
    → AreAll h.opened.passes ys → xs ≡ ys → base ≡ h.opened.base → v ≡ h.locked_site → Counted v ys
    → PreventsClose (length base) v xs w → RefusesSince h ys w
refused h base xs ys v w all same from is total fault =
    let P : List PassView → Type 0 = λ zs. PreventsClose (length base) v zs w in
    let Q : LockedSiteValue → Type 0 = λ u. PreventsClose (length base) u ys w in
    let R : List Entry → Type 0 = λ b. PreventsClose (length b) h.locked_site ys w in
    hinders h ys w all (subst (λ (u : LockedSiteValue). Counted u ys) is total) (subst R from (subst Q is (subst P same fault)))

clear : (f : Opened) (ys : List PassView) (v : LockedSiteValue) → AreAll f.passes ys → Counted v ys
    → IsClosable f.base f.taken v f.config ys → ClosesSince f ys v.site v.written
clear f ys v all total h = record {
  all = all;
  config = h.config_is;
  legal = h.legal;
  since = h.whole.since;
  history_is = h.whole.history_is;
  calls = h.whole.counted ∙ total.0;
  merge = h.merge;
  full = total.1;
  kept = h.whole.kept;
}

closed : (h : HaltedValue) (base : List Entry) (taken : Option (List ℕ)) (xs ys : List PassView) (v : LockedSiteValue) (config : ConfigValue)
    → AreAll h.opened.passes ys → xs ≡ ys → config ≡ h.opened.config → base ≡ h.opened.base → taken ≡ h.opened.taken → v ≡ h.locked_site
    → Counted v ys
    → IsClosable base taken v config xs → ClosesSince h.opened ys h.locked_site.site h.locked_site.written
closed h base taken xs ys v config all same is from took locked_site total good =
    let P : List PassView → Type 0 = λ zs. IsClosable base taken v config zs in
    let Q : ConfigValue → Type 0 = λ k. IsClosable base taken v k ys in
    let R : List Entry → Type 0 = λ b. IsClosable b taken v h.opened.config ys in
    let T : Option (List ℕ) → Type 0 = λ t. IsClosable h.opened.base t v h.opened.config ys in
    let U : LockedSiteValue → Type 0 = λ u. ClosesSince h.opened ys u.site u.written in
    subst U locked_site (clear h.opened ys v all total (subst T took (subst R from (subst Q is (subst P same good)))))

pub refused_some : (h : HaltedValue) (base : List Entry) (xs ys : List PassView) (v : LockedSiteValue) (r : Option CloseRefusal)
    → AreAll h.opened.passes ys → xs ≡ ys → base ≡ h.opened.base → v ≡ h.locked_site → Counted v ys
    → IfSome r (λ w. PreventsClose (length base) v xs w) → IfSome r (λ w. RefusesSince h ys w)
refused_some h base xs ys v None all same from is total fault = tt
refused_some h base xs ys v (Some w) all same from is total fault = refused h base xs ys v w all same from is total fault

pub closed_none : (h : HaltedValue) (base : List Entry) (taken : Option (List ℕ)) (xs ys : List PassView) (v : LockedSiteValue) (config : ConfigValue)
    (r : Option CloseRefusal)
    → AreAll h.opened.passes ys → xs ≡ ys → config ≡ h.opened.config → base ≡ h.opened.base → taken ≡ h.opened.taken → v ≡ h.locked_site
    → Counted v ys
    → IfNone r (IsClosable base taken v config xs) → IfNone r (ClosesSince h.opened ys h.locked_site.site h.locked_site.written)
closed_none h base taken xs ys v config None all same is from took locked_site total good =
    closed h base taken xs ys v config all same is from took locked_site total good
closed_none h base taken xs ys v config (Some w) all same is from took locked_site total good = tt

-- if the history at the start is empty, then the history consists of the entries since the start
from_none : (base since history : List Entry) → base ≡ [] → history ≡ base ++ since → history ≡ since
from_none base since history none is = is ∙ ap (λ (b : List Entry). b ++ since) none

pub closes_new : (f : Opened) (ys : List PassView) (s : SiteValue) (written : Option (List ℕ)) → f.base ≡ [] → ClosesSince f ys s written → Closes f ys s
closes_new f ys s written none h = record {
  all = h.all;
  config = h.config;
  legal = h.legal;
  calls = ap length (from_none f.base h.since s.history none h.history_is) ∙ h.calls;
  merge = subst (λ (b : List Entry). IsMergeSince (length b) s.history ys) none h.merge;
  full = h.full;
}

wrong_new : (h : HaltedValue) (ys : List PassView) (id n : ℕ) (journal_failed : Bool) → h.opened.base ≡ []
    → MatchesJournal journal_failed h.opened.base h.opened.taken ⊥ h.locked_site.site.history h.locked_site.total h.locked_site.written
    → IsWrong journal_failed (length h.opened.base) h.locked_site.site.history ys id n
    → (length h.locked_site.site.history ≡ h.locked_site.total) × IsFault h.locked_site.site.history ys id n
wrong_new h ys id n false none matches_journal fault = (
  ap length (from_none h.opened.base matches_journal.since h.locked_site.site.history none matches_journal.history_is) ∙ matches_journal.counted,
  subst (λ (b : List Entry). IsFaultSince (length b) h.locked_site.site.history ys id n) none fault,
)
wrong_new h ys id n true none matches_journal fault = absurd matches_journal.0

pub refuses_new : (f : Opened) (h : HaltedValue) (ys : List PassView) (w : CloseRefusal) → f.base ≡ [] → h.opened ≡ f → IsHalted ⊥ h
    → RefusesSince h ys w → Refuses h ys w
refuses_new f h ys PassMissing none is halted why = why
refuses_new f h ys (NotInHistory id n) none is halted why =
    let wrong = wrong_new h ys id n h.locked_site.journal_failed (ap (λ (o : Opened). o.base) is ∙ none) halted.matches_journal why.3 in (why.0, wrong.0 ∙ why.1, why.2, wrong.1)
refuses_new f h ys OtherConfig none is halted why = why

-- Promises: what the contracts of `begin` and `commit` say.
--
-- For a caller: `run_now` is the run that the site's step would make now for a till's request, and `reply_now` is the
-- step's reply. Without such a run the reply is neither a grant nor S24 (a denial by a program).
--
-- If `begin` returns no error, it returns Direct exactly if the step would run no program or the history is full.
-- Otherwise it returns a draft with the request and all that the step's run would be made on (`IsFreshDraft`).
--
-- If `commit` returns no error, it returns Done exactly if nothing that the draft's run depends on differs (`IsFresh`).
-- The commit is then one step of the site for the draft's request at the draft's moment, and the run of its entry has
-- the draft's version and the answer that this version gave. Otherwise `commit` returns Stale with the first
-- difference, and nothing has changed.
use Rattle.std.specs.Prelude.{◌≡◌, ℕ, ◌<◌, ◌⊎◌, false, IsSome, length, reverse, Option, Some, None}
use Rattle.decision_journal.specs.declared.entries.Run.{Run}
use Rattle.till_request.specs.declared.act.Request.{Request}
use Rattle.till_request.specs.declared.act.Act.TheVariants as act
use Rattle.till_request.specs.declared.act.Reply.{Reply}
use Rattle.site_core.specs.declared.draft.Begin.{Begin}
use Rattle.site_core.specs.declared.draft.Begin.TheVariants as begin
use Rattle.site_core.specs.declared.draft.Commit.{Commit}
use Rattle.site_core.specs.declared.draft.Commit.TheVariants as commit
use Rattle.site_core.specs.History.{in_force}
use Rattle.site_core.specs.Decide.{is_decided}
use Rattle.site_core.specs.Step.{effect}
use Rattle.site_core.specs.Draft.{DraftValue, ReadyValue, Basis, basis_of, routed}
use Rattle.site_core.specs.Differences.{IsFresh, Differs}
use Rattle.site_core.specs.Site.{SiteValue, Enters, entered}

-- What the draft's run would be made on in the current state.
abbrev pub basis : SiteValue → DraftValue → Basis
basis site draft =
    basis_of (λ slot. in_force site.config slot (reverse site.history)) site.state draft.till draft.moment (routed site.config site.state draft.till draft.request)

-- The run that the site's step would make for a till's request now, or None if it would run no program.
abbrev pub run_now : SiteValue → ℕ → ℕ → Request → Option Run
run_now site till moment request = (effect site.config (reverse site.history) site.state moment (act.Till till request)).run

-- The reply that the site's step would give to a till's request now.
abbrev pub reply_now : SiteValue → ℕ → ℕ → Request → Reply
reply_now site till moment request = (effect site.config (reverse site.history) site.state moment (act.Till till request)).reply

-- The site's step for this till's request would run a program now, and the draft holds the request and all that this
-- run would be made on.
pub record IsFreshDraft (site : SiteValue) (till moment : ℕ) (request : Request) (draft : DraftValue) : Type 0 where
  pub till_is : draft.till ≡ till
  pub moment_is : draft.moment ≡ moment
  pub request_is : draft.request ≡ request
  pub runs : IsSome (run_now site till moment request)
  pub fresh : IsFresh (basis site draft) draft
  pub counters_are : draft.counters ≡ site.state.counters

-- The draft that `begin` returned, or None if it returned Direct.
abbrev pub drafted : Begin → Option DraftValue
drafted begin.Direct = None
drafted (begin.Run draft) = Some draft

-- The result of `begin` fits the site. Direct: the history is full, or the site's step for the request would run no
-- program now and reply neither with a grant nor with S24 (a denial by a program). Run: the history has room, and the
-- draft has the request and all that the step's run would be made on now (`IsFreshDraft`).
abbrev pub Begins : SiteValue → ℕ → ℕ → Request → Begin → Type 0
Begins site till moment request begin.Direct =
    (length site.history ≡ 1048576)
    ⊎ ((run_now site till moment request ≡ None) × (is_decided (reply_now site till moment request) ≡ false))
Begins site till moment request (begin.Run draft) = (length site.history < 1048576) × IsFreshDraft site till moment request draft

-- There is a run, with the version of the draft, and with the answer that the draft's program gave.
abbrev pub IsRunOf : ReadyValue → Option Run → Type 0
IsRunOf ready None = ⊥
IsRunOf ready (Some run) = (run.version ≡ ready.draft.version.number) × (run.r0 ≡ ready.r0)

abbrev pub Commits : SiteValue → ℕ → ReadyValue → Commit → SiteValue → Type 0
Commits old pass ready (commit.Done answered) new =
    IsFresh (basis old ready.draft) ready.draft
    × Enters old pass ready.draft.moment (act.Till ready.draft.till ready.draft.request) answered.number answered.reply new
    × IsRunOf ready (entered old pass ready.draft.moment (act.Till ready.draft.till ready.draft.request)).run
Commits old pass ready (commit.Stale why) new = (new ≡ old) × Differs (basis old ready.draft) ready.draft why

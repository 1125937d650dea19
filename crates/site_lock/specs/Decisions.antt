-- Definitions: which of a gate's runs decided an answer (source: this project).
use Rattle.std.specs.Prelude.{◌≡◌, ℕ, true, false, List, [], ◌∷◌}
use Rattle.std.specs.List.{AllByRecursion}
use Rattle.till_request.specs.declared.act.Request.{Request}
use Rattle.site_core.specs.declared.draft.Commit.TheVariants.{Done}
use Rattle.site_core.specs.declared.events.Answered.{Answered}
use Rattle.site_core.specs.Decide.{is_decided}
use Rattle.site_core.specs.Draft.{ReadyValue}
use Rattle.site_core.specs.Limits.{ConfigValue}
use Rattle.site_core.specs.Outside.{Commits}
use Rattle.site_core.specs.Site.{SiteValue}

-- these are the runs, the oldest first, that a gate made from state `before` to state `now`
abbrev pub Made : {G : Type 0} → (G → ReadyValue → G → Type 0) → G → List ReadyValue → G → Type 0
Made makes before [] now = now ≡ before
Made {G} makes before (run ∷ runs) now = (mid : G) × makes before run mid × Made makes mid runs now

-- the run is for this till's request at this moment
abbrev pub IsRunFor : ℕ → ℕ → Request → ReadyValue → Type 0
IsRunFor till moment request run = (run.draft.till ≡ till) × (run.draft.moment ≡ moment) × (run.draft.request ≡ request)

-- The answer `a` is that of the run: at some site of this configuration the run wasn't stale, and its commit made an
-- entry with the number and the reply of `a`. The entry has the version of the run's draft, and the answer that this
-- version's program gave in the run.
pub record IsAnswerOf (config : ConfigValue) (pass : ℕ) (run : ReadyValue) (a : Answered) : Type 0 where
  pub site : SiteValue
  pub after : SiteValue
  pub config_is : site.config ≡ config
  pub committed : Commits site pass run (Done a) after

-- What these runs say about the answer:
-- - No run: the answer isn't a program's.
-- - One run: if the answer is a program's, it is the answer that the commit of this run gives at some site of this
--   configuration (`IsAnswerOf`).
-- - Two runs: nothing is claimed of the answer.
-- There are never more than two runs.
abbrev pub DecidedAfter : ConfigValue → ℕ → List ReadyValue → Answered → Type 0
DecidedAfter config pass [] a = is_decided a.reply ≡ false
DecidedAfter config pass (run ∷ []) a = is_decided a.reply ≡ true → IsAnswerOf config pass run a
DecidedAfter config pass (first ∷ second ∷ []) a = Unit {0}
DecidedAfter config pass (first ∷ second ∷ third ∷ runs) a = ⊥

-- The gate made at most two runs, all of them for this till's request at this moment. If it made none, the answer isn't
-- a program's. If it made one, and the answer is a program's, the answer is that of the run (`IsAnswerOf`).
pub record DecidedBy {G : Type 0} (makes : G → ReadyValue → G → Type 0) (config : ConfigValue) (pass till moment : ℕ) (request : Request) (before now : G)
    (a : Answered) : Type 0 where
  pub runs : List ReadyValue
  pub made : Made makes before runs now
  pub each : AllByRecursion (IsRunFor till moment request) runs
  pub decided : DecidedAfter config pass runs a

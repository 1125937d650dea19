-- Representation: what a draft keeps of the state in which it was made, and definitions for the contracts of the
-- functions that `apply`, `begin` and `commit` call. No public contract cites these definitions, so nothing here has to
-- be trusted: if one of them were wrong, only a proof could fail.
use Rattle.std.specs.Prelude.{◌≡◌, ◌≢◌, ℕ, ◌<◌, ◌≤◌, ◌⊎◌, length, Option, Some, None, Result, Ok, Err}
use Rattle.fuelling_point.specs.Table.{PointState}
use Rattle.till_request.specs.declared.act.Act.{Act}
use Rattle.till_request.specs.declared.act.Act.TheVariants as act
use Rattle.till_request.specs.declared.act.Request.{Request}
use Rattle.bpf_model.specs.Layouts.{bytes_of}
use Rattle.site_core.specs.SlotsValue.{SlotsValue, Version}
use Rattle.site_core.specs.Slots.{version_in}
use Rattle.site_core.specs.declared.question.Question.{Question}
use Rattle.site_core.specs.declared.why.Why.{Why}
use Rattle.site_core.specs.declared.why.CommitFault.{CommitFault}
use Rattle.site_core.specs.declared.why.CommitFault.TheVariants as commit_fault
use Rattle.site_core.specs.Limits.{ConfigValue}
use Rattle.site_core.specs.State.{SiteState, busy_points, view_of}
use Rattle.site_core.specs.Context.{context, field_of_question_point}
use Rattle.site_core.specs.Decide.{asked_question, HasPointOrValidPrice}
use Rattle.site_core.specs.Draft.{DraftValue, Basis, basis_of, routed}
use Rattle.site_core.specs.Differences.{IsFresh, Differs}

-- The act can need memory before its entry is made. True for a load, false for a dispenser's event. For a till's
-- request true exactly if the request asks a program a question in this state.
abbrev pub TakesMemory : ConfigValue → SiteState → Act → Type 0
TakesMemory config s (act.Till till request) = asked_question config s till request ≢ None
TakesMemory config s (act.Dispenser point event) = ⊥
TakesMemory config s (act.Load slot mask layout bytes) = Unit {0}

-- A program would be run for this request in this state: the request asks it a question, and a version is installed in
-- the question's slot.
abbrev pub WouldRun : ConfigValue → SiteState → SlotsValue → ℕ → Request → Type 0
WouldRun config s slots till request =
    (q : Question) × (v : Version) × (asked_question config s till request ≡ Some q) × (version_in slots q.slot ≡ Some v)

-- The draft was made in a state with at most 32 points, in which its request asked a program a question. The draft has
-- the context and the view of this state.
pub record WasDrafted (draft : DraftValue) : Type 0 where
  pub config : ConfigValue
  pub state : SiteState
  pub within_point_limit : length state.points ≤ 32
  pub question : Question
  pub asked : asked_question config state draft.till draft.request ≡ Some question
  pub context_is : draft.context ≡ bytes_of (context draft.version.program.layout state draft.till draft.moment question)
  pub view_is : draft.view ≡ view_of state

-- Two counts are below 2^32: how many points are busy, and how many transactions of the question's point are unpaid. So
-- each fits into the four bytes that it has in the question's context.
pub record FitsContext (s : SiteState) (q : Question) : Type 0 where
  pub busy : busy_points s < 4294967296
  pub unpaid : field_of_question_point s q (λ (p : PointState). length p.unpaid) < 4294967296

-- The draft is the one that is made for this request in this state. The request asks a program a question, and a
-- version is installed in the question's slot.
pub record IsDraft (config : ConfigValue) (s : SiteState) (slots : SlotsValue) (till moment : ℕ) (request : Request) (draft : DraftValue) : Type 0 where
  pub question : Question
  pub asked : asked_question config s till request ≡ Some question
  pub version_is : version_in slots question.slot ≡ Some draft.version
  pub till_is : draft.till ≡ till
  pub moment_is : draft.moment ≡ moment
  pub request_is : draft.request ≡ request
  pub context_is : draft.context ≡ bytes_of (context draft.version.program.layout s till moment question)
  pub view_is : draft.view ≡ view_of s
  pub counters_are : draft.counters ≡ s.counters

-- `Some draft` is the draft that is made for this request in this state. None means that no program would be run: the
-- request asks no program, or no version is installed in the slot.
abbrev pub Drafts : ConfigValue → SiteState → SlotsValue → ℕ → ℕ → Request → Option DraftValue → Type 0
Drafts config s slots till moment request None =
    (asked_question config s till request ≡ None)
    ⊎ ((q : Question) × (asked_question config s till request ≡ Some q) × (version_in slots q.slot ≡ None))
Drafts config s slots till moment request (Some draft) = IsDraft config s slots till moment request draft

-- What the draft's run would be made on in this state: the version, the context, the view and the counters.
abbrev pub basis_in : ConfigValue → SiteState → SlotsValue → DraftValue → Basis
basis_in config s slots draft = basis_of (version_in slots) s draft.till draft.moment (routed config s draft.till draft.request)

-- In this state the draft isn't stale: its request asks question q, the question's slot has the draft's version,
-- context and view are the same, and no declared counter differs.
pub record StillAsked (config : ConfigValue) (s : SiteState) (slots : SlotsValue) (draft : DraftValue) (q : Question) : Type 0 where
  pub asked : asked_question config s draft.till draft.request ≡ Some q
  pub well : HasPointOrValidPrice s q
  pub till : 0 < draft.till
  pub version_is : version_in slots q.slot ≡ Some draft.version
  pub context_is : bytes_of (context draft.version.program.layout s draft.till draft.moment q) ≡ draft.context
  pub view_is : view_of s ≡ draft.view
  pub fresh : IsFresh (basis_in config s slots draft) draft

-- The result of comparing the draft with this state is right. Ok: in this state the draft isn't stale, and its request
-- asks question q (`StillAsked`). Err: `why` is the first difference.
abbrev pub Compares : ConfigValue → SiteState → SlotsValue → DraftValue → Result Question Why → Type 0
Compares config s slots draft (Ok q) = StillAsked config s slots draft q
Compares config s slots draft (Err why) = Differs (basis_in config s slots draft) draft why

-- The fault is the true reason why no entry is made for the draft's run. `now` is what this run would be made on now.
-- `Stale`: the draft is stale, and `why` is the first difference. `OutOfMemory`: the draft isn't stale.
abbrev pub DiffersIfStale : Basis → DraftValue → CommitFault → Type 0
DiffersIfStale now draft (commit_fault.Stale why) = Differs now draft why
DiffersIfStale now draft commit_fault.OutOfMemory = IsFresh now draft

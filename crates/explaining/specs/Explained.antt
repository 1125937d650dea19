-- Definitions: what is said of an entry of a history: the site before it, and the run that decided it.
use Rattle.std.specs.Prelude.{◌≡◌, ℕ, ◌-◌, take, Option, Some, None}
use Rattle.decision_journal.specs.declared.entries.Entry.{Entry}
use Rattle.decision_journal.specs.declared.entries.Run.{Run}
use Rattle.till_request.specs.declared.act.Request.{Request}
use Rattle.till_request.specs.declared.act.Act.TheVariants as act
use Rattle.bpf_model.specs.Layouts.{bytes_of}
use Rattle.bpf_model.specs.Runs.{Ended}
use Rattle.bpf_model.specs.Program.{outcome}
use Rattle.site_core.specs.Site.{SiteValue}
use Rattle.site_core.specs.State.{at_number}
use Rattle.site_core.specs.Draft.{DraftValue}
use Rattle.site_core.specs.Outside.{IsFreshDraft}
use Rattle.explaining.specs.Traces.{IsTrace}
use Rattle.explaining.specs.declared.tracing.Trace.{Trace}
use Rattle.explaining.specs.declared.explained.Decision.{Decision}
use Rattle.explaining.specs.declared.explained.Explained.{Explained}

-- the trace has all states of the run of the draft's program, with the draft's context, view and counters, and its end
pub record IsTraceOf (draft : DraftValue) (trace : Trace) : Type 0 where
  pub states : IsTrace draft.version.program draft.context draft.view draft.counters trace.states.items trace.r0 trace.counters
  pub end : outcome draft.version.program draft.context draft.view draft.counters ≡ Ended trace.r0 trace.counters

-- the decision has the version, the context and the answer of the entry's run; where the entry has no run, there is no
-- decision
abbrev pub IsRunAgain : Option Run → Option Decision → Type 0
IsRunAgain None None = Unit {0}
IsRunAgain None (Some decision) = ⊥
IsRunAgain (Some run) None = ⊥
IsRunAgain (Some run) (Some decision) =
    (run.version ≡ decision.draft.version.number) × (bytes_of run.context ≡ decision.draft.context) × (run.r0 ≡ decision.trace.r0)

-- the entry is of a till's request, the draft is the one that this site makes of it, and the trace is of its run
abbrev pub IsDraftedBy : SiteValue → Entry → Decision → Type 0
IsDraftedBy before entry decision =
    (till : ℕ) × (request : Request) × (entry.act ≡ act.Till till request) × IsFreshDraft before till entry.moment request decision.draft
    × IsTraceOf decision.draft decision.trace

abbrev pub IsDraftedIfSome : SiteValue → Entry → Option Decision → Type 0
IsDraftedIfSome before entry None = Unit {0}
IsDraftedIfSome before entry (Some decision) = IsDraftedBy before entry decision

-- this site decides the entry so
pub record IsDecidedBy (before : SiteValue) (entry : Entry) (decision : Option Decision) : Type 0 where
  pub drafted : IsDraftedIfSome before entry decision
  pub again : IsRunAgain entry.run decision

-- The explained entry is the one of this number. The site before it is of the same configuration, and its history are
-- the entries before. On it, the entry is decided as the entry says.
pub record Explains (site : SiteValue) (number : ℕ) (explained : Explained) : Type 0 where
  pub entry : at_number site.history number ≡ Some explained.entry.now
  pub config : explained.before.config ≡ site.config
  pub past : explained.before.history ≡ take (number - 1) site.history
  pub decided : IsDecidedBy explained.before explained.entry.now explained.decision

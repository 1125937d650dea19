-- Definitions: a decision whose program is run on a draft, while the site can change.
use Rattle.std.specs.Prelude.{◌≡◌, ℕ, if◌then◌else◌, List, [], Option, Some, None}
use Rattle.till_request.specs.declared.act.Request.{Request}
use Rattle.bpf_model.specs.declared.machine.View.{View}
use Rattle.bpf_model.specs.Machine.{Counters}
use Rattle.bpf_model.specs.Runs.{Ended}
use Rattle.bpf_model.specs.Program.{outcome}
use Rattle.bpf_model.specs.Layouts.{bytes_of}
use Rattle.site_core.specs.SlotsValue.{Version}
use Rattle.site_core.specs.declared.question.Kind.TheVariants.{Price}
use Rattle.site_core.specs.declared.question.Question.{Question}
use Rattle.site_core.specs.declared.question.RequestAction.{RequestAction}
use Rattle.site_core.specs.declared.question.RequestAction.TheVariants as action
use Rattle.site_core.specs.Limits.{ConfigValue}
use Rattle.site_core.specs.State.{SiteState, at_number, view_of}
use Rattle.site_core.specs.Context.{context}
use Rattle.site_core.specs.Decide.{is_till, request_action}

-- The value of a draft: which till asks what at which moment, the version whose program is run, and the context, view
-- and counters that it is run on.
pub record DraftValue : Type 0 where
  pub till : ℕ
  pub moment : ℕ
  pub request : Request
  pub version : Version
  pub context : List ℕ
  pub view : View
  pub counters : Counters

-- A draft that was run, with its program's answer and the counters after the run.
pub record ReadyValue : Type 0 where
  pub draft : DraftValue
  pub r0 : ℕ
  pub after : Counters

-- The draft's program, run on the draft's context, view and counters, ends with this answer and these counters.
abbrev pub IsRunResult : DraftValue → ℕ → Counters → Type 0
IsRunResult draft r0 after = outcome draft.version.program draft.context draft.view draft.counters ≡ Ended r0 after

-- The question, if the site has a point of number n, or else None.
unfoldable pub at_point : SiteState → ℕ → Question → Option Question
at_point s n q = elim (at_number s.points n) [ None ↦ None | Some _ ↦ Some q ]

-- The question that a request asks a program, whether or not this state refuses the question. None for a release or a
-- preset at a point that doesn't exist, or if the request is of a kind that no program decides.
abbrev pub routed_to : SiteState → RequestAction → Option Question
routed_to s (action.Decision q) = elim q.kind [ Price ↦ Some q | _ ↦ at_point s q.point q ]
routed_to s _ = None

abbrev pub routed_request : ConfigValue → SiteState → Request → Option Question
routed_request config s request = routed_to s (request_action config request)

-- The question that this till's request asks a program, whether or not this state refuses the question. None if the
-- site has no such till or point, or if the request is of a kind that no program decides.
abbrev pub routed : ConfigValue → SiteState → ℕ → Request → Option Question
routed config s till request = if is_till config till then routed_request config s request else None

-- What a run would be made on in the current state. `version` is the version in the slot of the request's question. It
-- is None if this slot is empty, or if the till or the point doesn't exist. The context has the layout of this version.
-- Without a version the context is empty.
pub record Basis : Type 0 where
  pub version : Option Version
  pub context : List ℕ
  pub view : View
  pub counters : Counters

-- The bytes of the context that this version would be given. Without a version there are no bytes.
abbrev pub context_for : Option Version → SiteState → ℕ → ℕ → Question → List ℕ
context_for None s till moment q = []
context_for (Some v) s till moment q = bytes_of (context v.program.layout s till moment q)

abbrev pub basis_of : (ℕ → Option Version) → SiteState → ℕ → ℕ → Option Question → Basis
basis_of installed s till moment None = record { version = None; context = []; view = view_of s; counters = s.counters }
basis_of installed s till moment (Some q) =
    record { version = installed q.slot; context = context_for (installed q.slot) s till moment q; view = view_of s; counters = s.counters }

-- Let the version, the context, the points and the prices be the same in a state and in a draft (`SameBasis`).
-- - If the declared counters are the same too, and the counts in the context fit into their bytes (`FitsContext`), then
--   the draft isn't stale in this state (`StillAsked`).
-- - If a declared counter differs, then the first such counter is the first difference (`Differs`).
use Rattle.std.proofs.Common.{◌≡◌, ℕ, Some, ap, ◌∙◌}
use Rattle.bpf_model.specs.Machine.{counter}
use Rattle.site_core.specs.SlotsValue.{SlotsValue}
use Rattle.site_core.specs.Slots.{version_in}
use Rattle.interp.specs.Depends.{Agrees}
use Rattle.site_core.specs.declared.question.Question.{Question}
use Rattle.site_core.specs.declared.why.Why.TheVariants as why
use Rattle.site_core.specs.Limits.{ConfigValue}
use Rattle.site_core.specs.State.{SiteState, view_of}
use Rattle.site_core.specs.Context.{context}
use Rattle.bpf_model.specs.Layouts.{bytes_of}
use Rattle.site_core.specs.Draft.{context_for, DraftValue, routed}
use Rattle.site_core.specs.Differences.{CounterDiffers, Differs}
use Rattle.site_core.specs.Asked.{WasDrafted, FitsContext, StillAsked, basis_in}
use Rattle.site_core.proofs.Contexts.{same-view}
use Rattle.site_core.proofs.Asking.{asked-again, well-asked, till-there}

-- The version, the context, the points and the prices are the same in this state and in the draft.
pub record SameBasis (config : ConfigValue) (s : SiteState) (slots : SlotsValue) (draft : DraftValue) (q : Question) : Type 0 where
  pub routed_is : routed config s draft.till draft.request ≡ Some q
  pub version : version_in slots q.slot ≡ Some draft.version
  pub context_is : bytes_of (context draft.version.program.layout s draft.till draft.moment q) ≡ draft.context
  pub points : (view_of s).points ≡ draft.view.points
  pub prices : (view_of s).prices ≡ draft.view.prices
  pub was : WasDrafted draft

view-is : (config : ConfigValue) (s : SiteState) (slots : SlotsValue) (draft : DraftValue) (q : Question) → SameBasis config s slots draft q
    → view_of s ≡ draft.view
view-is config s slots draft q same =
    same-view s same.was.state (view_of s) draft.view (λ _. view_of s) same.was.view_is same.points same.prices

-- The context that the slot's version would be given in this state is the draft's context.
pub given : (config : ConfigValue) (s : SiteState) (slots : SlotsValue) (draft : DraftValue) (q : Question) → SameBasis config s slots draft q
    → context_for (version_in slots q.slot) s draft.till draft.moment q ≡ draft.context
given config s slots draft q same = ap (λ o. context_for o s draft.till draft.moment q) same.version ∙ same.context_is

pub differs-counter : (config : ConfigValue) (s : SiteState) (slots : SlotsValue) (draft : DraftValue) (q : Question) (c value : ℕ)
    → SameBasis config s slots draft q → CounterDiffers draft.version.program.declared s.counters draft.counters c → value ≡ (counter s.counters c).0
    → Differs (basis_in config s slots draft) draft (why.Counter c value)
differs-counter config s slots draft q c value same differs is =
    rw same.routed_is (same.version, given config s slots draft q same, view-is config s slots draft q same, differs, is)

pub still-asked : (config : ConfigValue) (s : SiteState) (slots : SlotsValue) (draft : DraftValue) (q : Question) → SameBasis config s slots draft q
    → FitsContext s q → Agrees draft.version.program.declared draft.counters s.counters → StillAsked config s slots draft q
still-asked config s slots draft q same fits counters =
    let was : WasDrafted draft = same.was in
    let asked = asked-again draft.version.program.layout config was.config s was.state draft.till draft.moment draft.request q was.question was.asked
    same.routed_is fits (same.context_is ∙ was.context_is) in
    record {
      asked = asked;
      well = well-asked config s draft.till draft.request q asked;
      till = till-there config s draft.till draft.request q asked;
      version_is = same.version;
      context_is = same.context_is;
      view_is = view-is config s slots draft q same;
      fresh = rw same.routed_is (record {
        version = same.version;
        context = given config s slots draft q same;
        view = view-is config s slots draft q same;
        counters = counters;
      });
    }

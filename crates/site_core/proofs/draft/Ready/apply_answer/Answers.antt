use Rattle.std.proofs.Common.{◌≡◌, List, Some, refl, ap, ◌∙◌, sym, subst}
use Rattle.std.specs.Arc.{arc_value}
use Rattle.bpf_model.specs.Runs.{Ended}
use Rattle.decision_journal.specs.declared.entries.Entry.{Entry}
use Rattle.till_request.specs.declared.act.Act.TheVariants as act
use Rattle.bpf_model.specs.Layouts.{bytes_of}
use Rattle.bpf_model.specs.declared.context.Layout.{Layout}
use Rattle.site_core.specs.Context.{context}
use Rattle.site_core.specs.State.{view_of}
use Rattle.site_core.proofs.Contexts.{same-context, context-layout}
use Rattle.site_core.specs.SiteInvariant.{Agrees, Performs}
use Rattle.site_core.specs.Draft.{DraftValue, ReadyValue}
use Rattle.site_core.specs.Differences.{IsFresh}
use Rattle.site_core.specs.Asked.{StillAsked, basis_in}
use Rattle.bpf_model.specs.Machine.{Counters}
use Rattle.bpf_model.specs.Program.{ProgramText, outcome}
use Rattle.site_core.specs.Bounds.{Bounded}
use Rattle.site_core.specs.Decide.{counts}
use Rattle.site_core.specs.SiteInvariant.{applied_answer, with_counters}
use Rattle.site_core.proofs.Grants.{verdict-is, bounded-counted}
use Rattle.site_core.proofs.Outside.{performs-applied_answer}
use Rattle.site_core.proofs.draft.Ready.apply_answer.Goals as goal

pub returns-clause-performed : goal.returns-clause-performed
returns-clause-performed c =
    let s = c.args.station.now in
    let q = c.in-Ok.question in
    let d = c.draft.inside in
    let draft : DraftValue = record {
      till = d.till;
      moment = d.moment;
      request = d.request;
      version = record { number = d.version; program = arc_value d.program };
      context = bytes_of d.input.value.context;
      view = d.input.value.view;
      counters = d.counters.value;
    } in
    let still : StillAsked c.args.config.now s c.args.slots.now draft q = rw (c.draft.view_is) c.in-Ok.ensures in
    let layout : DraftValue → Layout = λ x. x.version.program.layout in
    let given : context (layout draft) s d.till d.moment q ≡ d.input.value.context =
    same-context (context (layout draft) s d.till d.moment q) d.input.value.context (context-layout (layout draft) s d.till d.moment q ∙ sym c.draft.invariant.0)
    still.context_is in
    let after : Counters = c.adopt-adopted.new.self.counters in
    let r0 = c.self.inside.r0 in
    let input = c.deref-input.result.now in
    let input_is : input ≡ d.input.value = c.deref-input.ensures in
    let counters_are : c.deref-counters.result.now ≡ d.counters.value = c.deref-counters.ensures in
    let outside : outcome c.deref.result.now (bytes_of input.context) (view_of s) c.deref-counters.result.now ≡ Ended r0 c.self.inside.after =
    (λ i. outcome (c.deref.ensures i) (bytes_of (input_is i).context) (still.view_is i) (counters_are i)) ∙ subst (λ (x : DraftValue). outcome x.version.program x.context x.view x.counters ≡ Ended r0 c.self.inside.after) (sym c.draft.view_is) c.self.invariant in
    let run_result : outcome draft.version.program draft.context draft.view s.counters ≡ Ended r0 after =
    (λ i. outcome (sym c.deref.ensures i) (bytes_of (sym input_is i).context) (sym still.view_is i) s.counters) ∙ c.in-Ok-adopted.ensures.run_result r0 outside in
    let counted : c.in-Ok-adopted.counts ≡ counts (arc_value d.program).declared s.counters after =
    c.in-Ok-adopted.ensures.noted ∙ ap (λ (t : ProgramText). counts t.declared s.counters after) c.deref.ensures in
    let told : applied_answer (with_counters s after) d.till q d.version r0 ≡ (c.apply_answer-reply.result, c.apply_answer-reply.new.self) =
    (λ i. applied_answer (sym c.adopt-adopted.ensures.rest i) d.till q d.version r0) ∙ c.apply_answer-reply.ensures.applied_answer in
    let done : Entry = record {
      number = c.args.number;
      pass = c.args.pass;
      moment = d.moment;
      act = act.Till d.till d.request;
      reply = c.apply_answer-reply.result;
      run = Some (record { slot = q.slot; version = d.version; r0 = r0; context = input.context; counts = c.in-Ok-adopted.counts });
    } in
    let verdict_is = verdict-is s d.till d.moment r0 q draft.version after c.apply_answer-reply.result c.apply_answer-reply.new.self told
    ∙ (λ i. record {
      reply = c.apply_answer-reply.result;
      run = Some (record { slot = q.slot; version = d.version; r0 = r0; context = (given ∙ (λ j. (sym input_is j).context)) i; counts = sym counted i });
      after = c.apply_answer-reply.new.self;
    }) in
    let Settled : DraftValue → Type 0 = λ x.
    IsFresh (basis_in c.args.config.now s c.args.slots.now x) x
    × ((past : List Entry) → Agrees c.args.config.now c.args.slots.now past
    → Performs c.args.config.now past s x.moment (act.Till x.till x.request) done c.apply_answer-reply.new.self c.args.slots.now) in
    subst Settled (c.draft.view_is ∙ ap (λ (r : ReadyValue). r.draft) c.self.view_is) (
      still.fresh,
      λ past agrees. performs-applied_answer c.args.config.now past s c.apply_answer-reply.new.self c.args.slots.now draft q r0 after done refl refl still agrees run_result
          verdict_is,
    )

pub returns-clause-run : goal.returns-clause-run
returns-clause-run c = (
  ap (λ (d : DraftValue). d.version.number) (c.draft.view_is ∙ ap (λ (r : ReadyValue). r.draft) c.self.view_is),
  ap (λ (r : ReadyValue). r.r0) c.self.view_is,
)

pub returns-clause-bounded : goal.returns-clause-bounded
returns-clause-bounded c = λ k b.
    let after : Counters = c.adopt-adopted.new.self.counters in
    c.apply_answer-reply.ensures.bounded k (subst (Bounded k) (sym c.adopt-adopted.ensures.rest) (bounded-counted k c.args.station.now after b))

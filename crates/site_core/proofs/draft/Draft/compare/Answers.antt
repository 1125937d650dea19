use Rattle.std.proofs.Common.{◌≡◌, Some, ◌∙◌, sym, ap}
use Rattle.std.specs.Arc.{arc_value}
use Rattle.interp.specs.Depends.{Agrees}
use Rattle.bpf_model.specs.Layouts.{bytes_of}
use Rattle.bpf_model.specs.Program.{ProgramText}
use Rattle.site_core.specs.Context.{context}
use Rattle.site_core.specs.Draft.{DraftValue}
use Rattle.site_core.specs.Differences.{CounterDiffers}
use Rattle.site_core.proofs.Filling.{same-others}
use Rattle.site_core.proofs.StillAsked.{SameBasis, differs-counter, still-asked}
use Rattle.site_core.proofs.draft.Draft.compare.Goals as goal

pub first_point-requires-clause-count : goal.first_point-requires-clause-count
first_point-requires-clause-count c =
    let was = c.self.invariant.1 in
    (same-others c.args.station.now was.state c.view-view.result.now c.deref-input.result.now.view c.greater_point_count-count.result c.view-view.ensures.view
    ((λ i. (c.deref-input.ensures i).view) ∙ was.view_is) c.view-view.ensures.within_point_limit was.within_point_limit c.greater_point_count-count.ensures).0

pub first_point-requires-clause-others : goal.first_point-requires-clause-others
first_point-requires-clause-others c =
    let was = c.self.invariant.1 in
    (same-others c.args.station.now was.state c.view-view.result.now c.deref-input.result.now.view c.greater_point_count-count.result c.view-view.ensures.view
    ((λ i. (c.deref-input.ensures i).view) ∙ was.view_is) c.view-view.ensures.within_point_limit was.within_point_limit c.greater_point_count-count.ensures).1

pub returns-in-Some-first_counter : goal.returns-in-Some-first_counter
returns-in-Some-first_counter c =
    let s = c.args.station.now in
    let q = c.in-Some.question in
    let d = c.self.inside in
    let draft : DraftValue = record {
      till = d.till;
      moment = d.moment;
      request = d.request;
      version = record { number = d.version; program = arc_value d.program };
      context = bytes_of d.input.value.context;
      view = d.input.value.view;
      counters = d.counters.value;
    } in
    let input_is : c.deref-input.result.now ≡ d.input.value = c.deref-input.ensures in
    let layout_is : c.layout-layout.result ≡ draft.version.program.layout = c.layout-layout.ensures ∙ ap (λ (p : ProgramText). p.layout) c.deref-2.ensures in
    let given : c.context-context.result ≡ context draft.version.program.layout s d.till d.moment q =
    c.context-context.ensures.context ∙ ap (λ l. context l s d.till d.moment q) layout_is in
    let same : SameBasis c.args.config.now s c.args.slots.now draft q = record {
      routed_is = sym c.routed.ensures ∙ c.in-Some.is;
      version = c.in_default-is_version.ensures ∙ (λ i. Some (record { number = d.version; program = c.deref.ensures i }));
      context_is = sym (ap bytes_of given) ∙ sym c.bytes.ensures.bytes ∙ c.in_default-first_byte.ensures ∙ c.bytes-2.ensures.bytes ∙ (λ i. bytes_of (input_is i).context);
      points = (λ i. (sym c.view-view.ensures.view i).points) ∙ c.in_default-first_point.ensures.first ∙ (λ i. (input_is i).view.points);
      prices = (λ i. (sym c.view-view.ensures.view i).prices) ∙ c.in_default-first_price.ensures.first ∙ (λ i. (input_is i).view.prices);
      was = c.self.invariant.1;
    } in
    let differs : CounterDiffers (arc_value d.program).declared s.counters d.counters.value c.in-Some-first_counter.c =
    rw (← c.deref-3.ensures, ← c.deref-drafted.ensures, ← c.declared.ensures, ← c.counters-counters.ensures) c.in-Some-first_counter.ensures in
    rw (← c.self.view_is) (differs-counter c.args.config.now s c.args.slots.now draft q c.in-Some-first_counter.c c.get.result same differs
    (rw (← c.counters-counters.ensures) c.get.ensures.value))

pub returns : goal.returns
returns c =
    let s = c.args.station.now in
    let q = c.in-Some.question in
    let d = c.self.inside in
    let draft : DraftValue = record {
      till = d.till;
      moment = d.moment;
      request = d.request;
      version = record { number = d.version; program = arc_value d.program };
      context = bytes_of d.input.value.context;
      view = d.input.value.view;
      counters = d.counters.value;
    } in
    let input_is : c.deref-input.result.now ≡ d.input.value = c.deref-input.ensures in
    let layout_is : c.layout-layout.result ≡ draft.version.program.layout = c.layout-layout.ensures ∙ ap (λ (p : ProgramText). p.layout) c.deref-2.ensures in
    let given : c.context-context.result ≡ context draft.version.program.layout s d.till d.moment q =
    c.context-context.ensures.context ∙ ap (λ l. context l s d.till d.moment q) layout_is in
    let same : SameBasis c.args.config.now s c.args.slots.now draft q = record {
      routed_is = sym c.routed.ensures ∙ c.in-Some.is;
      version = c.in_default-is_version.ensures ∙ (λ i. Some (record { number = d.version; program = c.deref.ensures i }));
      context_is = sym (ap bytes_of given) ∙ sym c.bytes.ensures.bytes ∙ c.in_default-first_byte.ensures ∙ c.bytes-2.ensures.bytes ∙ (λ i. bytes_of (input_is i).context);
      points = (λ i. (sym c.view-view.ensures.view i).points) ∙ c.in_default-first_point.ensures.first ∙ (λ i. (input_is i).view.points);
      prices = (λ i. (sym c.view-view.ensures.view i).prices) ∙ c.in_default-first_price.ensures.first ∙ (λ i. (input_is i).view.prices);
      was = c.self.invariant.1;
    } in
    let agree : Agrees (arc_value d.program).declared d.counters.value s.counters =
    rw (← c.deref-3.ensures, ← c.deref-drafted.ensures, ← c.declared.ensures, ← c.counters-counters.ensures) c.in_default-first_counter.ensures in
    rw (← c.self.view_is) (still-asked c.args.config.now s c.args.slots.now draft q same c.context-context.ensures.fits agree)

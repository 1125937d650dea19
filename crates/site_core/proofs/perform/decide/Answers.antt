use Rattle.std.proofs.Common.{◌≡◌, Some, None, ◌∙◌, sym, ap, subst}
use Rattle.bpf_model.specs.Machine.{Counters}
use Rattle.site_core.specs.Bounds.{Bounded}
use Rattle.std.specs.Arc.{arc_value}
use Rattle.bpf_model.specs.Runs.{Ended}
use Rattle.bpf_model.specs.Program.{ProgramText, outcome}
use Rattle.bpf_model.specs.Layouts.{bytes_of}
use Rattle.site_core.specs.SlotsValue.{Version}
use Rattle.site_core.specs.State.{view_of}
use Rattle.site_core.specs.Context.{context}
use Rattle.site_core.specs.History.{in_force}
use Rattle.site_core.specs.Decide.{counts}
use Rattle.site_core.specs.SiteInvariant.{applied_answer, with_counters}
use Rattle.site_core.proofs.Decisions.{decided-refused, decided-none, decided-ended}
use Rattle.site_core.proofs.Grants.{verdict-is, bounded-counted}
use Rattle.site_core.proofs.perform.decide.Goals as goal

pub returns-in-Err-clause-effect : goal.returns-in-Err-clause-effect
returns-in-Err-clause-effect c = λ config past agrees.
    rw (← c.in-Err.ensures.question) (decided-refused config past c.args.station.now c.args.till c.args.moment c.in-Err.refusal)

pub returns-in_default-clause-effect : goal.returns-in_default-clause-effect
returns-in_default-clause-effect c = λ config past agrees.
    let q = c.in-Ok.question in
    let none : in_force config q.slot past ≡ None = agrees.in_force q.slot ∙ c.in_default.ensures in
    rw (← c.in-Ok.ensures.question, c.no_program.ensures) (decided-none config past c.args.station.now c.args.till c.args.moment q none)

pub returns-clause-effect : goal.returns-clause-effect
returns-clause-effect c = λ config past agrees.
    let s = c.args.station.now in
    let q = c.in-Ok.question in
    let p : ProgramText = arc_value c.in-Some.program.now in
    let v : Version = record { number = c.in-Some.version; program = p } in
    let some : in_force config q.slot past ≡ Some v = agrees.in_force q.slot ∙ c.in-Some.ensures in
    let layout_is : c.layout-layout.result ≡ p.layout = c.layout-layout.ensures ∙ ap (λ (t : ProgramText). t.layout) c.deref.ensures in
    let given : c.context-context.result ≡ context p.layout s c.args.till c.args.moment q =
    c.context-context.ensures.context ∙ ap (λ l. context l s c.args.till c.args.moment q) layout_is in
    let after : Counters = c.run.new.self.counters in
    let r0 = c.in_ok-r0.r0 in
    let ended : outcome p (bytes_of (context p.layout s c.args.till c.args.moment q)) (view_of s) s.counters ≡ Ended r0 after =
    (λ i. outcome (sym c.deref-2.ensures i) (bytes_of (sym given i)) (view_of s) s.counters) ∙ c.in_ok-r0.ensures.run_result in
    let counted : c.in_ok-r0.counts ≡ counts p.declared s.counters after =
    c.in_ok-r0.ensures.noted ∙ ap (λ (t : ProgramText). counts t.declared s.counters after) c.deref-2.ensures in
    let told : applied_answer (with_counters s after) c.args.till q c.in-Some.version r0 ≡ (c.apply_answer.result, c.apply_answer.new.self) =
    (λ i. applied_answer (sym c.run.ensures.rest i) c.args.till q c.in-Some.version r0) ∙ c.apply_answer.ensures.applied_answer in
    rw (← c.in-Ok.ensures.question) (decided-ended config past s c.args.till c.args.moment q v r0 after some ended
    ∙ verdict-is s c.args.till c.args.moment r0 q v after c.apply_answer.result c.apply_answer.new.self told
    ∙ (λ i. record {
      reply = c.apply_answer.result;
      run = Some (record {
        slot = q.slot;
        version = c.in-Some.version;
        r0 = r0;
        context = sym given i;
        counts = sym counted i;
      });
      after = c.apply_answer.new.self;
    }))

pub returns-clause-bounded : goal.returns-clause-bounded
returns-clause-bounded c = λ k b.
    let after : Counters = c.run.new.self.counters in
    c.apply_answer.ensures.bounded k (subst (Bounded k) (sym c.run.ensures.rest) (bounded-counted k c.args.station.now after b))

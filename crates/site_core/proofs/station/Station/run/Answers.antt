use Rattle.std.proofs.Common.{◌≡◌, ap, ◌∙◌, sym, refl}
use Rattle.bpf_model.specs.Program.{outcome}
use Rattle.bpf_model.specs.Layouts.{bytes_of}
use Rattle.site_core.specs.State.{SiteState, view_of}
use Rattle.site_core.specs.Decide.{counts}
use Rattle.site_core.proofs.Filling.{view-is}
use Rattle.site_core.proofs.Counted.{none-counted}
use Rattle.site_core.proofs.station.Station.run.Goals as goal

pub returns-then-mask-eq0-clause-run_result : goal.returns-then-mask-eq0-clause-run_result
returns-then-mask-eq0-clause-run_result c =
    let old : SiteState = record {
      points = c.self.inside.points.items;
      prices = c.self.inside.view.prices;
      counters = c.self.inside.counters;
      cleared = c.self.inside.cleared;
      clears = c.self.inside.clears;
    } in
    let shown : c.self.inside.view ≡ view_of c.args.self.now =
    view-is old c.self.inside.view c.self.invariant.2 c.self.invariant.3 refl ∙ ap view_of c.self.view_is in
    let counted : c.self.inside.counters ≡ c.args.self.now.counters = ap (λ (s : SiteState). s.counters) c.self.view_is in
    (λ i. outcome c.args.program.now (bytes_of c.args.given.now) (sym shown i) (sym counted i)) ∙ c.run-r0.ensures

pub returns-then-mask-eq0-clause-noted : goal.returns-then-mask-eq0-clause-noted
returns-then-mask-eq0-clause-noted c =
    let zero : c.args.program.now.declared ≡ 0 = sym c.declared-mask.ensures ∙ c.if-mask-eq0.true in
    let was = c.self.inside.counters in
    let before = c.args.self.now.counters in
    let after = c.run-r0.new.counters in
    c.in_ok-counts.ensures.noted ∙ ap (λ mask. counts mask was was) c.if-mask-eq0.true ∙ none-counted was was
    ∙ sym (none-counted before after) ∙ ap (λ mask. counts mask before after) (sym zero)

pub returns-in-Ok-clause-run_result : goal.returns-in-Ok-clause-run_result
returns-in-Ok-clause-run_result c =
    let old : SiteState = record {
      points = c.self.inside.points.items;
      prices = c.self.inside.view.prices;
      counters = c.self.inside.counters;
      cleared = c.self.inside.cleared;
      clears = c.self.inside.clears;
    } in
    let shown : c.self.inside.view ≡ view_of c.args.self.now =
    view-is old c.self.inside.view c.self.invariant.2 c.self.invariant.3 refl ∙ ap view_of c.self.view_is in
    let counted : c.self.inside.counters ≡ c.args.self.now.counters = ap (λ (s : SiteState). s.counters) c.self.view_is in
    (λ i. outcome c.args.program.now (bytes_of c.args.given.now) (sym shown i) (sym counted i)) ∙ c.run-r0-2.ensures

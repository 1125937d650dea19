use Rattle.std.proofs.Common.{◌≡◌, ap, ◌∙◌, sym, refl}
use Rattle.bpf_model.specs.Program.{outcome}
use Rattle.bpf_model.specs.Layouts.{bytes_of}
use Rattle.site_core.specs.State.{SiteState, view_of}
use Rattle.site_core.proofs.Counted.{counts-adopted}
use Rattle.site_core.specs.Decide.{counts}
use Rattle.site_core.proofs.Filling.{view-is}
use Rattle.site_core.proofs.station.Station.adopt.Goals as goal

pub returns-clause-run_result : goal.returns-clause-run_result
returns-clause-run_result c = λ r0 run_result.
    let old : SiteState = record {
      points = c.self.inside.points.items;
      prices = c.self.inside.view.prices;
      counters = c.self.inside.counters;
      cleared = c.self.inside.cleared;
      clears = c.self.inside.clears;
    } in
    let shown : c.self.inside.view ≡ view_of c.args.self.now =
    view-is old c.self.inside.view c.self.invariant.2 c.self.invariant.3 refl ∙ ap view_of c.self.view_is in
    let counted : c.self.inside.counters ≡ c.args.self.now.counters = ap (λ (s : SiteState). s.counters) c.self.view_is in
    let before = (λ i. outcome c.args.program.now (bytes_of c.args.given.now) (shown i) c.args.before.now) ∙ run_result in
    (λ i. outcome c.args.program.now (bytes_of c.args.given.now) (sym shown i) (sym counted i)) ∙ c.rebase.ensures.run_result r0 before

pub returns-clause-noted : goal.returns-clause-noted
returns-clause-noted c =
    let counted : c.self.inside.counters ≡ c.args.self.now.counters = ap (λ (s : SiteState). s.counters) c.self.view_is in
    c.in-Ok.ensures.noted ∙ (λ i. counts (c.declared-declared.ensures i) c.self.inside.counters c.args.after.now)
    ∙ counts-adopted c.args.program.now.declared c.self.inside.counters c.args.after.now c.rebase.new.now c.rebase.ensures.counters
    ∙ (λ i. counts c.args.program.now.declared (counted i) c.rebase.new.now)

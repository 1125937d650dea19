use Rattle.std.proofs.Common.{◌≡◌, ℕ, ◌-◌, ◌<◌, ◌≤◌, length, ap, ◌∙◌, sym, None, slice_set, subst}
use Rattle.std.proofs.lemmas.Bool.{OnFalse_at, OnTrue_at}
use Rattle.fuelling_point.specs.Table.{PointState, command_step}
use Rattle.fuelling_point.specs.Promises.{FollowsTable}
use Rattle.site_core.specs.State.{SiteState, at_number, price_of}
use Rattle.site_core.specs.Bounds.{Bounded}
use Rattle.site_core.specs.Decide.{command_of, granted_amount}
use Rattle.site_core.proofs.Grants.{grant-none, grant-is, bounded-with}
use Rattle.site_core.proofs.Filling.{keeps-seen, place-below}
use Rattle.site_core.proofs.Points.{lifted_price-is}
use Rattle.site_core.proofs.station.Station.grant.Goals as goal

pub returns-then-not-has_point-clause-grant : goal.returns-then-not-has_point-clause-grant
returns-then-not-has_point-clause-grant c =
    let none : at_number c.args.self.now.points c.args.question.now.point ≡ None = OnFalse_at c.if-not-has_point.true c.has_point.ensures.none in
    let q = c.args.question.now in
    let back : c.args.self.now ≡ record {
      points = c.self.inside.points.items;
      prices = c.self.inside.view.prices;
      counters = c.self.inside.counters;
      cleared = c.self.inside.cleared;
      clears = c.self.inside.clears;
    } = sym c.self.view_is in
    let whole = grant-none c.args.self.now c.args.till c.args.r0 q none in
    let put : SiteState → ℕ × SiteState = λ s. (q.asked, record s { prices = slice_set s.prices (q.product - 1) q.asked }) in
    whole ∙ ap put back

pub returns-clause-grant : goal.returns-clause-grant
returns-clause-grant c =
    let old : SiteState = record {
      points = c.self.inside.points.items;
      prices = c.self.inside.view.prices;
      counters = c.self.inside.counters;
      cleared = c.self.inside.cleared;
      clears = c.self.inside.clears;
    } in
    let q = c.args.question.now in
    let p : PointState = c.index_mut-point.result.now in
    let there : (1 ≤ q.point) × (q.point ≤ length c.args.self.now.points) = OnTrue_at c.if-not-has_point.false c.has_point.ensures.there in
    let one : 1 ≤ q.point = there.0 in
    let le : q.point ≤ length old.points = subst (λ (s : SiteState). q.point ≤ length s.points) (sym c.self.view_is) there.1 in
    let given : c.granted_amount-granted.result ≡ granted_amount q.kind q.asked c.args.r0 p.preset = rw c.preset.ensures at c.granted_amount-granted.ensures in
    let asked : c.command_of.result ≡ command_of q.kind (granted_amount q.kind q.asked c.args.r0 p.preset) = rw given at c.command_of.ensures in
    let priced : c.lifted_price-price.result ≡ price_of old p.nozzle =
    lifted_price-is old c.args.self.now q.point c.lifted_price-price.result p c.self.view_is c.lifted_price-price.ensures one le c.index_mut-point.ensures.value in
    let answers : FollowsTable (command_step (price_of old p.nozzle) p c.args.till (command_of q.kind (granted_amount q.kind q.asked c.args.r0 p.preset))) p
    c.on_command.result c.on_command.new.self =
    subst (λ x. FollowsTable (command_step x p c.args.till (command_of q.kind (granted_amount q.kind q.asked c.args.r0 p.preset))) p c.on_command.result
    c.on_command.new.self) priced (rw asked at c.on_command.ensures.answer) in
    rw (← c.self.view_is, given) (grant-is old c.args.till c.args.r0 q p c.on_command.new.self c.on_command.result one le
    c.index_mut-point.ensures.value answers)

pub returns-clause-bounded : goal.returns-clause-bounded
returns-clause-bounded c = λ k b.
    let old : SiteState = record {
      points = c.self.inside.points.items;
      prices = c.self.inside.view.prices;
      counters = c.self.inside.counters;
      cleared = c.self.inside.cleared;
      clears = c.self.inside.clears;
    } in
    let q = c.args.question.now in
    let there : (1 ≤ q.point) × (q.point ≤ length c.args.self.now.points) = OnTrue_at c.if-not-has_point.false c.has_point.ensures.there in
    let one : 1 ≤ q.point = there.0 in
    let le : q.point ≤ length old.points = subst (λ (s : SiteState). q.point ≤ length s.points) (sym c.self.view_is) there.1 in
    let bound : Bounded k old = rw (← c.self.view_is) at b in
    bounded-with k old q.point c.index_mut-point.result.now c.on_command.new.self bound le one c.index_mut-point.ensures.value c.on_command.ensures.last

pub invariant_of-self-2 : goal.invariant_of-self-2
invariant_of-self-2 c =
    let q = c.args.question.now in
    let points = c.self.inside.points.items in
    let i = c.self.invariant in
    let there : (1 ≤ q.point) × (q.point ≤ length c.args.self.now.points) = OnTrue_at c.if-not-has_point.false c.has_point.ensures.there in
    let le : q.point ≤ length points = subst (λ (s : SiteState). q.point ≤ length s.points) (sym c.self.view_is) there.1 in
    let lt : q.point - 1 < length points = place-below q.point (length points) there.0 le in
    keeps-seen points c.self.inside.view (q.point - 1) c.on_command.new.self c.set_if_changed.new.place lt i.0 i.1 i.2 i.3 (c.set_if_changed.ensures ∙ c.seen.ensures)

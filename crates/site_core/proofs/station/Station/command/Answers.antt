use Rattle.std.proofs.Common.{◌≡◌, ◌+◌, ◌-◌, ◌<◌, ◌≤◌, length, arith, Some, None, Ok, Err, ap, ◌∙◌, subst, sym}
use Rattle.std.proofs.lemmas.Bool.{OnFalse_at, OnTrue_at}
use Rattle.fuelling_point.specs.Table.{PointState, command_step}
use Rattle.fuelling_point.specs.Promises.{FollowsTable}
use Rattle.site_core.specs.State.{SiteState, price_of}
use Rattle.site_core.proofs.Filling.{keeps-seen, place-below}
use Rattle.site_core.proofs.Points.{lifted_price-is, till_command_effect-none, till_command_effect-err, till_command_effect-ok}
use Rattle.site_core.proofs.station.Station.command.Goals as goal

pub returns-then-not-has_point-clause-effect : goal.returns-then-not-has_point-clause-effect
returns-then-not-has_point-clause-effect c = till_command_effect-none c.args.self.now c.args.till c.args.n c.args.command (OnFalse_at c.if-not-has_point.true c.has_point.ensures.none)

pub returns-in-Err-clause-effect : goal.returns-in-Err-clause-effect
returns-in-Err-clause-effect c =
    let old : SiteState = record {
      points = c.self.inside.points.items;
      prices = c.self.inside.view.prices;
      counters = c.self.inside.counters;
      cleared = c.self.inside.cleared;
      clears = c.self.inside.clears;
    } in
    let there : (1 ≤ c.args.n) × (c.args.n ≤ length c.args.self.now.points) = OnTrue_at c.if-not-has_point.false c.has_point.ensures.there in
    let one : 1 ≤ c.args.n = there.0 in
    let le : c.args.n ≤ length c.self.inside.points.items = subst (λ (s : SiteState). c.args.n ≤ length s.points) (sym c.self.view_is) there.1 in
    let p : PointState = c.index_mut-point.result.now in
    let priced : c.lifted_price-price.result ≡ price_of old p.nozzle =
    lifted_price-is old c.args.self.now c.args.n c.lifted_price-price.result p c.self.view_is c.lifted_price-price.ensures one le c.index_mut-point.ensures.value in
    let answer : FollowsTable (command_step (price_of old p.nozzle) p c.args.till c.args.command) p (Err c.in-Err.fault) c.on_command-outcome.new.self =
    subst (λ x. FollowsTable (command_step x p c.args.till c.args.command) p (Err c.in-Err.fault) c.on_command-outcome.new.self) priced
    (rw c.in-Err.is at c.on_command-outcome.ensures.answer) in
    rw (← c.self.view_is, c.fault_reply.ensures) (till_command_effect-err old c.args.till c.args.n c.args.command p
    c.on_command-outcome.new.self c.in-Err.fault one le c.index_mut-point.ensures.value answer)

pub returns-in-Ok-None-clause-effect : goal.returns-in-Ok-None-clause-effect
returns-in-Ok-None-clause-effect c =
    let old : SiteState = record {
      points = c.self.inside.points.items;
      prices = c.self.inside.view.prices;
      counters = c.self.inside.counters;
      cleared = c.self.inside.cleared;
      clears = c.self.inside.clears;
    } in
    let none : c.in-Ok-None.field-0 ≡ None = rw c.in-Ok-None.is at c.in-Ok-None.field-0-is in
    let is : c.on_command-outcome.result ≡ Ok None = c.in-Ok-None.is ∙ ap (λ x. Ok x) none in
    let there : (1 ≤ c.args.n) × (c.args.n ≤ length c.args.self.now.points) = OnTrue_at c.if-not-has_point.false c.has_point.ensures.there in
    let one : 1 ≤ c.args.n = there.0 in
    let le : c.args.n ≤ length c.self.inside.points.items = subst (λ (s : SiteState). c.args.n ≤ length s.points) (sym c.self.view_is) there.1 in
    let p : PointState = c.index_mut-point.result.now in
    let priced : c.lifted_price-price.result ≡ price_of old p.nozzle =
    lifted_price-is old c.args.self.now c.args.n c.lifted_price-price.result p c.self.view_is c.lifted_price-price.ensures one le c.index_mut-point.ensures.value in
    let answer : FollowsTable (command_step (price_of old p.nozzle) p c.args.till c.args.command) p (Ok None) c.on_command-outcome.new.self =
    subst (λ x. FollowsTable (command_step x p c.args.till c.args.command) p (Ok None) c.on_command-outcome.new.self) priced
    (rw is at c.on_command-outcome.ensures.answer) in
    let whole = till_command_effect-ok old c.args.till c.args.n c.args.command p c.on_command-outcome.new.self None one le
    c.index_mut-point.ensures.value answer
    in
    let same : c.self.inside.cleared + 0 ≡ c.self.inside.cleared = omega arith in
    let none : c.self.inside.clears + 0 ≡ c.self.inside.clears = omega arith in
    rw (← c.self.view_is) (rw (same, none) at whole)

pub returns-in-Ok-Some-clause-effect : goal.returns-in-Ok-Some-clause-effect
returns-in-Ok-Some-clause-effect c =
    let old : SiteState = record {
      points = c.self.inside.points.items;
      prices = c.self.inside.view.prices;
      counters = c.self.inside.counters;
      cleared = c.self.inside.cleared;
      clears = c.self.inside.clears;
    } in
    let some : c.in-Ok-Some.field-0 ≡ Some c.in-Ok-Some.amount = rw c.in-Ok-Some.is at c.in-Ok-Some.field-0-is in
    let is : c.on_command-outcome.result ≡ Ok (Some c.in-Ok-Some.amount) = c.in-Ok-Some.is ∙ ap (λ x. Ok x) some in
    let there : (1 ≤ c.args.n) × (c.args.n ≤ length c.args.self.now.points) = OnTrue_at c.if-not-has_point.false c.has_point.ensures.there in
    let one : 1 ≤ c.args.n = there.0 in
    let le : c.args.n ≤ length c.self.inside.points.items = subst (λ (s : SiteState). c.args.n ≤ length s.points) (sym c.self.view_is) there.1 in
    let p : PointState = c.index_mut-point.result.now in
    let priced : c.lifted_price-price.result ≡ price_of old p.nozzle =
    lifted_price-is old c.args.self.now c.args.n c.lifted_price-price.result p c.self.view_is c.lifted_price-price.ensures one le c.index_mut-point.ensures.value in
    let answer : FollowsTable (command_step (price_of old p.nozzle) p c.args.till c.args.command) p (Ok (Some c.in-Ok-Some.amount)) c.on_command-outcome.new.self =
    subst (λ x. FollowsTable (command_step x p c.args.till c.args.command) p (Ok (Some c.in-Ok-Some.amount)) c.on_command-outcome.new.self) priced
    (rw is at c.on_command-outcome.ensures.answer) in
    rw (← c.self.view_is) (till_command_effect-ok old c.args.till c.args.n c.args.command p c.on_command-outcome.new.self
    (Some c.in-Ok-Some.amount) one le c.index_mut-point.ensures.value answer)

pub invariant_of-self : goal.invariant_of-self
invariant_of-self c =
    let points = c.self.inside.points.items in
    let i = c.self.invariant in
    let there : (1 ≤ c.args.n) × (c.args.n ≤ length c.args.self.now.points) = OnTrue_at c.if-not-has_point.false c.has_point.ensures.there in
    let le : c.args.n ≤ length c.self.inside.points.items = subst (λ (s : SiteState). c.args.n ≤ length s.points) (sym c.self.view_is) there.1 in
    let lt : c.args.n - 1 < length points = place-below c.args.n (length points) there.0 le in
    keeps-seen points c.self.inside.view (c.args.n - 1) c.on_command-outcome.new.self c.set_if_changed.new.place lt i.0 i.1 i.2 i.3 (c.set_if_changed.ensures ∙ c.seen.ensures)

pub invariant_of-self-in-Ok-None : goal.invariant_of-self-in-Ok-None
invariant_of-self-in-Ok-None c =
    let points = c.self.inside.points.items in
    let i = c.self.invariant in
    let there : (1 ≤ c.args.n) × (c.args.n ≤ length c.args.self.now.points) = OnTrue_at c.if-not-has_point.false c.has_point.ensures.there in
    let le : c.args.n ≤ length c.self.inside.points.items = subst (λ (s : SiteState). c.args.n ≤ length s.points) (sym c.self.view_is) there.1 in
    let lt : c.args.n - 1 < length points = place-below c.args.n (length points) there.0 le in
    keeps-seen points c.self.inside.view (c.args.n - 1) c.on_command-outcome.new.self c.set_if_changed.new.place lt i.0 i.1 i.2 i.3 (c.set_if_changed.ensures ∙ c.seen.ensures)

pub invariant_of-self-in-Ok-Some : goal.invariant_of-self-in-Ok-Some
invariant_of-self-in-Ok-Some c =
    let points = c.self.inside.points.items in
    let i = c.self.invariant in
    let there : (1 ≤ c.args.n) × (c.args.n ≤ length c.args.self.now.points) = OnTrue_at c.if-not-has_point.false c.has_point.ensures.there in
    let le : c.args.n ≤ length c.self.inside.points.items = subst (λ (s : SiteState). c.args.n ≤ length s.points) (sym c.self.view_is) there.1 in
    let lt : c.args.n - 1 < length points = place-below c.args.n (length points) there.0 le in
    keeps-seen points c.self.inside.view (c.args.n - 1) c.on_command-outcome.new.self c.set_if_changed.new.place lt i.0 i.1 i.2 i.3 (c.set_if_changed.ensures ∙ c.seen.ensures)

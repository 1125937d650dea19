use Rattle.std.proofs.Common.{refl}
use Rattle.site_core.specs.State.{SiteState}
use Rattle.site_core.proofs.Filling.{view-is}
use Rattle.site_core.proofs.station.Station.view.Goals as goal

pub returns-clause-view : goal.returns-clause-view
returns-clause-view c =
    let s : SiteState = record {
      points = c.self.inside.points.items;
      prices = c.self.inside.view.prices;
      counters = c.self.inside.counters;
      cleared = c.self.inside.cleared;
      clears = c.self.inside.clears;
    } in
    rw (← c.self.view_is) (view-is s c.self.inside.view c.self.invariant.2 c.self.invariant.3 refl)

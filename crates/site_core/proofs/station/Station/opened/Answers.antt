use Rattle.std.proofs.Common.{◌≡◌, ap, ◌∙◌, rules}
use Rattle.site_core.specs.Opening.{OpeningValue}
use Rattle.site_core.specs.State.{seen_points}
use Rattle.site_core.proofs.station.Station.opened.Goals as goal

pub invariant_of-result : goal.invariant_of-result
invariant_of-result c =
    let same : c.in_ok-points.points.items ≡ c.args.opening.now.points =
    c.in_ok-points.ensures.items ∙ c.as_slice.ensures.value ∙ ap (λ (o : OpeningValue). o.points) c.opening.view_is in
    (rw same c.requires, search rules, search rules, c.seen_points.ensures ∙ ap seen_points c.as_slice-2.ensures.value)

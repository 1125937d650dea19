use Rattle.std.proofs.Common.{◌≡◌, ◌+◌, ◌-◌, ◌<◌, ◌++◌, length, get_or, sym, ap, ◌∙◌, arith}
use Rattle.std.specs.List.{flat_map, range_with_len}
use Rattle.fuelling_point.specs.Table.{PointState}
use Rattle.site_core.specs.Sights.{unpaid_at}
use Rattle.site_core.proofs.Sights.{flat_more, unpaid_of}
use Rattle.site_core.proofs.sight.all_unpaid.Goals as goal

pub loop-i-preserved : goal.loop-i-preserved
loop-i-preserved c =
    let s = c.args.station.now in
    let i = c.loop-i.i in
    let p : PointState = c.point-item.result in
    let points = c.points-point-items.ensures in
    let lt : i < length s.points = rw points at c.loop-i-test.true in
    let back : i + 1 - 1 ≡ i = omega arith in
    let is : p ≡ get_or s.points (i + 1 - 1) p = rw (back, ← points) c.point-item.is in
    record {
      rows = c.push_unpaid.ensures.items
          ∙ (λ j. c.loop-i.invariant.rows j ++ sym (unpaid_of s (i + 1) p (omega arith) (omega arith) is) j)
          ∙ sym (flat_more (unpaid_at s) 1 i (i + 1) (omega arith));
      few = omega (arith, c.push_unpaid.ensures.len, c.loop-i.invariant.few);
      room = omega (arith, c.push_unpaid.ensures.capacity, c.loop-i.invariant.room);
    }

pub returns : goal.returns
returns c =
    let s = c.args.station.now in
    let long : length c.points-point-items.result.now ≡ length s.points = ap length c.points-point-items.ensures in
    let all : c.loop-i.i ≡ length s.points = omega (arith, long, c.loop-i-test.false, c.loop-i.auto.i-end) in
    c.loop-i.invariant.rows ∙ ap (λ n. flat_map (unpaid_at s) (range_with_len 1 n)) all

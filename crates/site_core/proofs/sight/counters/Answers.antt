use Rattle.std.proofs.Common.{◌≡◌, ◌++◌, sym, ap, ◌∙◌, arith}
use Rattle.std.specs.List.{filter_map, range_with_len}
use Rattle.std.specs.Prelude.{option_to_list}
use Rattle.site_core.specs.Sights.{counter_row}
use Rattle.site_core.proofs.Sights.{filter_more}
use Rattle.site_core.proofs.sight.counters.Goals as goal

pub loop-c-preserved : goal.loop-c-preserved
loop-c-preserved c =
    let n = c.loop-c.c in
    record {
      rows = c.push_some.ensures.items
          ∙ (λ i. c.loop-c.invariant.rows i ++ option_to_list (c.counter_row.ensures i))
          ∙ sym (filter_more (counter_row c.args.counters.now) 0 n n (omega arith));
      few = omega (arith, c.push_some.ensures.len, c.loop-c.invariant.few);
      room = omega (arith, c.push_some.ensures.capacity, c.loop-c.invariant.room);
    }

pub returns : goal.returns
returns c =
    let all : c.loop-c.c ≡ 32 = omega (arith, c.loop-c-test.false, c.loop-c.auto.c-end) in
    c.loop-c.invariant.rows ∙ ap (λ n. filter_map (counter_row c.args.counters.now) (range_with_len 0 n)) all

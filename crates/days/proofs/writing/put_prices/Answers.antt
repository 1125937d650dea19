use Rattle.std.proofs.Common.{◌+◌, arith, refl, slice_index_or}
use Rattle.days.specs.Text.{price_lines}
use Rattle.days.proofs.Written.{adds_next}
use Rattle.days.proofs.writing.put_prices.Goals as goal

pub loop-at-preserved : goal.loop-at-preserved
loop-at-preserved c =
    adds_next price_lines 1 c.args.prices.now c.loop-at.at (c.loop-at.at + 1) 0 (slice_index_or c.args.prices.now c.loop-at.at 0) _ _ _ c.loop-at-test.true
    (omega arith) refl c.loop-at.invariant c.in_ok-put_price.ensures.lines

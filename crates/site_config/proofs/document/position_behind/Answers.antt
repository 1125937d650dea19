use Rattle.std.proofs.Common.{◌+◌, get_or, arith}
use Rattle.site_config.proofs.Positions.{behind_none, behind_more, past_fits, all_behind}
use Rattle.site_config.proofs.document.position_behind.Goals as goal

pub loop-byte-init : goal.loop-byte-init
loop-byte-init c = record { at = behind_none; fits = (omega arith, omega arith) }

pub loop-byte-preserved : goal.loop-byte-preserved
loop-byte-preserved c = record {
  at = behind_more c.args.text.now c.loop-byte.byte-index _ _ c.loop-byte-test.true c.loop-byte.invariant.at c.past-at.ensures;
  fits = past_fits c.loop-byte.at _ (get_or c.args.text.now c.loop-byte.byte-index 0) (c.loop-byte.byte-index + 1) c.loop-byte.invariant.fits c.past-at.ensures;
}

pub returns : goal.returns
returns c = all_behind c.args.text.now c.loop-byte.byte-index _ (omega arith) c.loop-byte.invariant.at

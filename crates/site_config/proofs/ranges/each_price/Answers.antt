use Rattle.std.proofs.Common.{◌≡◌, ℤ, pos, w64, FitsSigned, is_ok, ap, rules}
use Rattle.std.proofs.Math.ListN.{get_or}
use Rattle.std.proofs.lemmas.Int.{to_z-of_z}
use Rattle.std.proofs.lemmas.List.{drop_more}
use Rattle.site_config.specs.Ranges.{price_of}
use Rattle.site_config.proofs.Failing.{fails_front, read_front}
use Rattle.site_config.proofs.Memory.{made}
use Rattle.site_config.proofs.ranges.each_price.Goals as goal

pub returns-in-Err-clause-read : goal.returns-in-Err-clause-read
returns-in-Err-clause-read c =
    let value : ℤ = get_or c.args.values.now c.loop-value.value-index (pos 0) in
    let fits : FitsSigned w64 value = search rules in
    let place : c.len-place.result ≡ c.loop-value.value-index = search rules in
    fails_front price_of c.loop-value.value-index c.in-Err.flaw c.loop-value.prices.items _ _ _ _ c.loop-value.invariant.read
    (drop_more c.args.values.now c.loop-value.value-index (pos 0) c.loop-value-test.true)
    (rw (to_z-of_z w64 value fits, place) at c.in-Err.ensures.read)

pub loop-value-preserved : goal.loop-value-preserved
loop-value-preserved c =
    let value : ℤ = get_or c.args.values.now c.loop-value.value-index (pos 0) in
    let fits : FitsSigned w64 value = search rules in
    let place : c.len-place.result ≡ c.loop-value.value-index = search rules in
    record {
      read = rw c.in_ok-push.ensures.items (read_front price_of c.loop-value.value-index c.loop-value.prices.items _ _ _ c.in-Ok.price _
          c.loop-value.invariant.read (drop_more c.args.values.now c.loop-value.value-index (pos 0) c.loop-value-test.true)
          (rw (to_z-of_z w64 value fits, place) at c.in-Ok.ensures.read));
      each = search rules;
      begun = λ some. made price_of c.args.values.now c.loop-value.value-index value _
          (drop_more c.args.values.now c.loop-value.value-index (pos 0) c.loop-value-test.true) c.loop-value.invariant.begun
          (ap is_ok (rw (to_z-of_z w64 value fits, place) at c.in-Ok.ensures.read));
      range = search rules;
    }

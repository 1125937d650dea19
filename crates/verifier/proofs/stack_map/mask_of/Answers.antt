use Rattle.std.proofs.Common.{◌-◌, ◌*◌, ◌≤◌, arith, ap, ◌∙◌, sym}
use Rattle.std.specs.Int.{bit_at}
use Rattle.verifier.proofs.Marking.{mask_is, mask_of_low}
use Rattle.verifier.proofs.stack_map.mask_of.Goals as goal

pub overflow_sub-result : goal.overflow_sub-result
overflow_sub-result c =
    let first = 64 * c.args.word in
    let from = c.clamp.result in
    let to = c.clamp-2.result in
    (mask_of_low (from - first) (to - first) c.low_bits-2.result c.low_bits.result (let a = c.clamp.ensures in let b = c.clamp-2.ensures in omega (arith, a, b))
    c.low_bits.ensures c.low_bits-2.ensures).0

pub returns : goal.returns
returns c i l =
    let first = 64 * c.args.word in
    let from = c.clamp.result in
    let to = c.clamp-2.result in
    let order : from - first ≤ to - first = let a = c.clamp.ensures in let b = c.clamp-2.ensures in omega (arith, a, b) in
    let low = mask_of_low (from - first) (to - first) c.low_bits-2.result c.low_bits.result order c.low_bits.ensures c.low_bits-2.ensures in
    let is = mask_is (from - first) (to - first) i order in
    let same = ap (λ n. bit_at n i) low.1 in (
      λ e. let h = is.0 (sym same ∙ e) in let a = c.clamp.ensures in let b = c.clamp-2.ensures in let x = h.0 in let y =
          h.1 in (omega (arith, a, b, x, l), omega (arith, a, b, y)),
      λ w. same ∙ is.1 (let a = c.clamp.ensures in let b = c.clamp-2.ensures in let x = w.0 in let y = w.1 in
          (omega (arith, a, b, x), omega (arith, a, b, y, l))),
    )

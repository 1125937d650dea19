use Rattle.std.proofs.Common.{◌≤◌, length, sym, subst}
use Rattle.bpf_model.specs.Flow.{GoesForward}
use Rattle.verifier.proofs.Jumps.{goes_forward}
use Rattle.verifier.proofs.flow.check_flow.Goals as goal

pub invariant_of-result : goal.invariant_of-result
invariant_of-result c =
    let same = c.units.ensures.same in
    subst GoesForward same
    (goes_forward c.units.result.now (subst (λ us. length us ≤ 512) (sym same) c.units.ensures.count.1) (sym c.in-None.ensures))

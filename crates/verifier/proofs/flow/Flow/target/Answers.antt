use Rattle.std.proofs.Common.{◌∙◌, ap, subst}
use Rattle.bpf_model.specs.Flow.{GoesForward, target}
use Rattle.verifier.proofs.Jumps.{target_ahead}
use Rattle.verifier.proofs.flow.Flow.target.Goals as goal

pub returns-clause-ahead : goal.returns-clause-ahead
returns-clause-ahead c =
    target_ahead c.args.self.now c.args.pc c.target_in.result (subst GoesForward c.self.view_is c.self.invariant)
    (c.target_in.ensures ∙ ap (λ us. target us c.args.pc) (c.units.ensures.same ∙ c.self.view_is))

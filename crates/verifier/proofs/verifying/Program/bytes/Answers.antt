use Rattle.std.proofs.Common.{◌≡◌, None, subst}
use Rattle.bpf_model.specs.Program.{IsGood}
use Rattle.verifier.specs.RefusedPrograms.{refusal_of}
use Rattle.verifier.proofs.Accepted.{good_by}
use Rattle.verifier.proofs.Answering.{accepted}
use Rattle.verifier.proofs.verifying.Program.bytes.Goals as goal

pub returns-clause-good : goal.returns-clause-good
returns-clause-good c =
    let p = c.self.inside in
    let is = c.self.invariant.accepted in
    subst IsGood c.self.view_is (good_by p.bytes.items p.options c.self.invariant.us is.reads is.forward is.flawless)

pub returns-clause-accepted : goal.returns-clause-accepted
returns-clause-accepted c =
    let p = c.self.inside in
    let is = c.self.invariant.accepted in
    subst (λ t. refusal_of t ≡ None) c.self.view_is (accepted p.bytes.items c.self.invariant.us p.options is.reads is.flows is.flawless)

use Rattle.std.proofs.Common.{sym, subst}
use Rattle.verifier.specs.Passing.{IsDecoded}
use Rattle.verifier.proofs.Accepted.{covered_by}
use Rattle.verifier.proofs.verifying.Program.ops.Goals as goal

pub returns : goal.returns
returns c =
    let p = c.self.inside in
    let is = c.self.invariant.accepted in
    subst (IsDecoded c.args.self.now) (sym c.as_slice.ensures.value)
    (subst (λ t. IsDecoded t p.ops.items) c.self.view_is
    (record {
      us = c.self.invariant.us;
      covered = covered_by p.bytes.items p.options c.self.invariant.us is.reads is.forward is.flawless;
      operations = c.self.invariant.decoded;
    }))

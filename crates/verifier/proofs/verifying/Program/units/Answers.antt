use Rattle.std.proofs.Common.{◌≡◌, ◌∙◌, ap, arith, length}
use Rattle.std.specs.Prelude.{◌/◌}
use Rattle.bpf_model.proofs.Reading.{length_of_units, count_of_units}
use Rattle.verifier.proofs.verifying.Program.units.Goals as goal

pub overflow_cast-result : goal.overflow_cast-result
overflow_cast-result c =
    let is = c.self.invariant in
    let few = (count_of_units c.self.inside.bytes.items is.us is.accepted.reads).1 in
    record { fits = omega (arith, c.len.ensures, is.decoded.many, few) }

pub returns : goal.returns
returns c =
    let is = c.self.invariant in
    let n : c.len.result ≡ length c.self.inside.ops.items = omega (arith, c.len.ensures) in
    n ∙ is.decoded.many ∙ length_of_units c.self.inside.bytes.items is.us is.accepted.reads ∙ ap (λ p. length p.bytes / 8) c.self.view_is

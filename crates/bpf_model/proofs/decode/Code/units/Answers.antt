use Rattle.std.proofs.Common.{◌<◌, ◌≤◌, length, subst}
use Rattle.bpf_model.proofs.Reading.{count_of_units}
use Rattle.bpf_model.proofs.decode.Code.units.Goals as goal

pub returns-clause-count : goal.returns-clause-count
returns-clause-count c =
    subst (λ us. (0 < length us) × (length us ≤ 512)) c.self.view_is (count_of_units c.self.invariant.0 c.self.inside.units.items c.self.invariant.1)

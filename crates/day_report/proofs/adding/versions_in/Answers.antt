use Rattle.std.proofs.Common.{◌++◌, List, map, ap, ◌∙◌}
use Rattle.day_report.specs.declared.loading.Load.{Load}
use Rattle.day_report.specs.declared.opening.CarriedRule.{CarriedRule}
use Rattle.day_report.proofs.adding.versions_in.Goals as goal

pub returns-clause-numbers : goal.returns-clause-numbers
returns-clause-numbers c =
    c.in_ok-numbers.ensures
    ∙ ap (λ (rules : List CarriedRule). map (λ (rule : CarriedRule). rule.version) rules ++ map (λ (load : Load). load.version) c.args.loads.now)
    (c.deref.ensures.value ∙ c.in_ok-carried.ensures.found)

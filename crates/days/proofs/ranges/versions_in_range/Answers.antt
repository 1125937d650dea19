use Rattle.std.proofs.Common.{All, subst}
use Rattle.std.proofs.lemmas.List.{take_all}
use Rattle.std.proofs.lemmas.List.Elements.{All-more}
use Rattle.days.specs.Ranges.{VersionFits}
use Rattle.days.proofs.ranges.versions_in_range.Goals as goal

pub loop-rule-preserved : goal.loop-rule-preserved
loop-rule-preserved c =
    All-more VersionFits c.args.rules.now c.loop-rule.rule-index c.rule-item.result c.loop-rule-test.true c.loop-rule.invariant
    (subst VersionFits c.rule-item.is c.version_in_range.ensures)

pub returns : goal.returns
returns c = subst (All VersionFits) (take_all c.loop-rule.rule-index c.args.rules.now c.loop-rule-test.false) c.loop-rule.invariant

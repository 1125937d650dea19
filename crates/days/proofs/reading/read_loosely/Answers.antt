use Rattle.std.proofs.Common.{subst, sym}
use Rattle.days.specs.File.{IsOpeningFile}
use Rattle.days.specs.Reading.{Reads, pieces}
use Rattle.days.proofs.ReadWhole.{all_good}
use Rattle.days.proofs.reading.read_loosely.Goals as goal

pub finish-requires : goal.finish-requires
finish-requires c =
    (all_good (pieces c.args.text.now) c.take_lines.new.reading
    (subst (λ old. Reads old (pieces c.args.text.now) c.take_lines.new.reading) c.in_ok-reading.ensures c.in_ok-take_lines.ensures)).opening.counters.bounded

pub returns-clause-good : goal.returns-clause-good
returns-clause-good c =
    subst IsOpeningFile (sym c.finish.ensures)
    (all_good (pieces c.args.text.now) c.take_lines.new.reading
    (subst (λ old. Reads old (pieces c.args.text.now) c.take_lines.new.reading) c.in_ok-reading.ensures c.in_ok-take_lines.ensures))

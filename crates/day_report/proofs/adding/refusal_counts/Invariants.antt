use Rattle.day_report.specs.Totals.{CountsNumbers}
use Rattle.day_report.proofs.adding.refusal_counts.Given as goal

abbrev pub invariant-loop-place : goal.invariant-loop-place
invariant-loop-place l = CountsNumbers l.place l.counts.items l.numbers

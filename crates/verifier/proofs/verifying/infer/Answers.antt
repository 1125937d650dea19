use Rattle.std.proofs.Common.{arith, sym, subst}
use Rattle.bpf_model.proofs.Reading.{count_of_units}
use Rattle.verifier.specs.Facts.{stored, carried_in}
use Rattle.verifier.specs.Inference.{known}
use Rattle.verifier.specs.Passing.{AreSame}
use Rattle.verifier.proofs.Visiting.{start_same, reached_none, reached_more, refused_at}
use Rattle.verifier.proofs.verifying.infer.Goals as goal

pub loop-pc-init : goal.loop-pc-init
loop-pc-init c =
    reached_none c.args.units.now c.args.options (stored c.in-Ok.facts)
    (λ q. subst (λ l. AreSame (stored l q) (known c.args.units.now c.args.options 0 q)) (sym c.in-Ok.ensures)
    (start_same c.args.units.now c.args.options c.entry-entry.result c.entry-entry.ensures q))

pub overflow_cast-pc : goal.overflow_cast-pc
overflow_cast-pc c = let n = (count_of_units c.requires.bytes c.args.units.now c.requires.reads).1 in record { fits = omega (arith, n) }

pub loop-pc-preserved : goal.loop-pc-preserved
loop-pc-preserved c =
    reached_more c.args.units.now c.args.options (carried_in c.loop-pc.carried_fact) (carried_in c.visit_unit.new.carried_fact) (stored c.loop-pc.facts)
    (stored c.visit_unit.new.facts) c.loop-pc.pc c.loop-pc.invariant c.in_default-visit_unit.ensures.passed

pub returns-in-Err-clause-refused : goal.returns-in-Err-clause-refused
returns-in-Err-clause-refused c =
    refused_at c.args.units.now c.args.options (carried_in c.loop-pc.carried_fact) (stored c.loop-pc.facts) c.loop-pc.pc c.in-Err.refusal (omega arith)
    c.loop-pc.invariant c.in-Err.ensures.refused

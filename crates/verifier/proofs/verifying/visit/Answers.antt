use Rattle.std.proofs.Common.{◌≡◌, false, true, sym, ◌∙◌, arith}
use Rattle.bpf_model.proofs.Reading.{count_of_units}
use Rattle.verifier.specs.Facts.{stored, carried_in}
use Rattle.verifier.specs.Effects.{effect_of}
use Rattle.verifier.proofs.Ahead.{there}
use Rattle.verifier.proofs.Keeping.{after_of}
use Rattle.verifier.proofs.Visiting.{no_form, leads_somewhere, jump_small, ran_out, visited}
use Rattle.verifier.proofs.verifying.visit.Goals as goal

pub unreachable-requires : goal.unreachable-requires
unreachable-requires c =
    no_form _ (there c.requires.sound.bytes c.args.units.now c.args.pc c.args.inst c.requires.sound.reads c.requires.begins).form
    (sym c.from_opcode.ensures ∙ c.in_default.is)

pub check_instruction-requires-clause-few : goal.check_instruction-requires-clause-few
check_instruction-requires-clause-few c = let n = count_of_units c.requires.sound.bytes c.args.units.now c.requires.sound.reads in omega (arith, n.1)

pub check_instruction-requires-clause-pc : goal.check_instruction-requires-clause-pc
check_instruction-requires-clause-pc c = (there c.requires.sound.bytes c.args.units.now c.args.pc c.args.inst c.requires.sound.reads c.requires.begins).small

pub check_instruction-requires-clause-dst : goal.check_instruction-requires-clause-dst
check_instruction-requires-clause-dst c = (there c.requires.sound.bytes c.args.units.now c.args.pc c.args.inst c.requires.sound.reads c.requires.begins).dst

pub check_instruction-requires-clause-src : goal.check_instruction-requires-clause-src
check_instruction-requires-clause-src c = (there c.requires.sound.bytes c.args.units.now c.args.pc c.args.inst c.requires.sound.reads c.requires.begins).src

pub successors-requires : goal.successors-requires
successors-requires c = (there c.requires.sound.bytes c.args.units.now c.args.pc c.args.inst c.requires.sound.reads c.requires.begins).small

pub unreachable-requires-in_default-successors : goal.unreachable-requires-in_default-successors
unreachable-requires-in_default-successors c =
    leads_somewhere c.args.units.now c.args.options c.args.pc c.args.inst c.args.carried_fact.now.fact c.in-Some.form
    c.requires.sound c.requires.begins (sym c.in-Some.ensures) (effect_of c.check_instruction.new.fact.types c.in-Ok.mark) c.in-Ok.ensures.same
    c.in_default-successors.ensures.successor_units

pub propagate-requires : goal.propagate-requires
propagate-requires c =
    jump_small c.args.units.now c.args.options c.args.pc c.args.inst c.args.carried_fact.now.fact c.in-Some.form
    c.requires.sound c.requires.begins (sym c.in-Some.ensures) (effect_of c.check_instruction.new.fact.types c.in-Ok.mark) c.in-Some-successors.next c.in-Ok.ensures.same
    c.in-Some-successors.ensures.successor_units

pub returns-in-Ok-propagate-clause-visited : goal.returns-in-Ok-propagate-clause-visited
returns-in-Ok-propagate-clause-visited c =
    visited c.args.units.now c.args.options c.args.pc c.args.inst c.args.carried_fact.now.fact c.in-Some.form c.requires.sound
    c.requires.begins (sym c.in-Some.ensures) (effect_of c.check_instruction.new.fact.types c.in-Ok.mark) c.apply.new.self c.in-Some-successors.next
    (carried_in c.propagate.new.carried_fact) (stored c.args.facts.now) (stored c.propagate.new.facts) c.in-Ok.ensures.same (after_of c.args.carried_fact.now.fact c.check_instruction.new.fact c.apply.new.self (effect_of c.check_instruction.new.fact.types c.in-Ok.mark)
    c.in-Ok.ensures.stack c.in-Ok.ensures.spills c.apply.ensures) c.in-Some-successors.ensures.successor_units c.in-Some-successors.ensures.next
    c.in-Some-successors.ensures.jump c.in-Ok-propagate.ensures.carried c.in-Ok-propagate.ensures.entered

pub returns-in-Err-propagate-clause-refused : goal.returns-in-Err-propagate-clause-refused
returns-in-Err-propagate-clause-refused c =
    ran_out c.args.units.now c.args.options c.args.pc c.args.inst c.args.carried_fact.now.fact c.in-Some.form c.requires.sound
    c.requires.begins (sym c.in-Some.ensures) (effect_of c.check_instruction.new.fact.types c.in-Ok.mark) c.in-Some-successors.next
    c.in-Ok.ensures.same c.in-Some-successors.ensures.jump
    (λ none. let never : false ≡ true = c.in-Err-propagate.ensures.jump none in absurd (cc))

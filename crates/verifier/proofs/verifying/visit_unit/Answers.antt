use Rattle.std.proofs.Common.{◌≡◌, ◌∙◌, refl, sym, subst, length, Some, arith}
use Rattle.std.proofs.lemmas.Option.{slice_get_read}
use Rattle.std.proofs.lemmas.List.{get_or_default}
use Rattle.std.specs.Prelude.{slice_get}
use Rattle.bpf_model.specs.declared.instruction.Unit.TheVariants.{First}
use Rattle.bpf_model.proofs.Reading.{count_of_units}
use Rattle.verifier.specs.Facts.{stored, carried_in}
use Rattle.verifier.specs.Passing.{IsPassed}
use Rattle.verifier.proofs.Visiting.{at_first, passes_if, refused_if, unreached}
use Rattle.verifier.proofs.verifying.visit_unit.Goals as goal

pub merge_incoming-requires-clause-small : goal.merge_incoming-requires-clause-small
merge_incoming-requires-clause-small c =
    let n = (count_of_units c.requires.sound.bytes c.args.units.now c.requires.sound.reads).1 in let l = c.requires.inside in omega (arith, l, n)

pub merge_incoming-requires-clause-carried : goal.merge_incoming-requires-clause-carried
merge_incoming-requires-clause-carried c =
    let first : slice_get c.args.units.now c.args.pc ≡ Some (First c.in-First.inst) =
    slice_get_read c.args.units.now (length c.args.units.now) c.args.pc (First c.in-First.inst) refl c.requires.inside
    (sym (get_or_default c.args.units.now c.args.pc (First c.in-First.inst) _ c.requires.inside ∙ c.in-First.is)) in
    at_first c.args.units.now c.args.pc c.in-First.inst (carried_in c.args.carried_fact.now) first c.requires.carried

pub returns-then-not-merge_incoming-clause-passed : goal.returns-then-not-merge_incoming-clause-passed
returns-then-not-merge_incoming-clause-passed c =
    let first : slice_get c.args.units.now c.args.pc ≡ Some (First c.in-First.inst) =
    slice_get_read c.args.units.now (length c.args.units.now) c.args.pc (First c.in-First.inst) refl c.requires.inside
    (sym (get_or_default c.args.units.now c.args.pc (First c.in-First.inst) _ c.requires.inside ∙ c.in-First.is)) in
    let carried = carried_in c.args.carried_fact.now in
    subst (λ next. IsPassed c.args.units.now c.args.options c.args.pc carried next (stored c.args.facts.now) (stored c.merge_incoming.new.facts))
    (sym (c.if-not-merge_incoming.ensures.nothing refl))
    (unreached c.args.units.now c.args.options c.args.pc carried (stored c.args.facts.now) (stored c.merge_incoming.new.facts)
    (at_first c.args.units.now c.args.pc c.in-First.inst carried first c.requires.carried) c.if-not-merge_incoming.ensures.merged)

pub visit-requires-clause-begins : goal.visit-requires-clause-begins
visit-requires-clause-begins c =
    slice_get_read c.args.units.now (length c.args.units.now) c.args.pc (First c.in-First.inst) refl c.requires.inside
    (sym (get_or_default c.args.units.now c.args.pc (First c.in-First.inst) _ c.requires.inside ∙ c.in-First.is))

pub returns-clause-passed : goal.returns-clause-passed
returns-clause-passed c =
    let first : slice_get c.args.units.now c.args.pc ≡ Some (First c.in-First.inst) =
    slice_get_read c.args.units.now (length c.args.units.now) c.args.pc (First c.in-First.inst) refl c.requires.inside
    (sym (get_or_default c.args.units.now c.args.pc (First c.in-First.inst) _ c.requires.inside ∙ c.in-First.is)) in
    let carried = carried_in c.args.carried_fact.now in
    passes_if c.args.units.now c.args.options c.args.pc carried (stored c.args.facts.now) c.visit.result c.merge_incoming.new.carried_fact.fact
    (carried_in c.visit.new.carried_fact) (stored c.merge_incoming.new.facts) (stored c.visit.new.facts)
    (at_first c.args.units.now c.args.pc c.in-First.inst carried first c.requires.carried) c.if-not-merge_incoming.ensures.merged c.visit.ensures.visited

pub returns-clause-refused : goal.returns-clause-refused
returns-clause-refused c =
    refused_if c.args.units.now c.args.options c.args.pc (carried_in c.args.carried_fact.now) (stored c.args.facts.now) c.visit.result c.merge_incoming.new.carried_fact.fact
    c.if-not-merge_incoming.ensures.merged.is c.visit.ensures.refused

use Rattle.std.proofs.Common.{◌≡◌, ◌<◌, ◌++◌, length, take, arith, ap, ◌∙◌, sym}
use Rattle.std.specs.Prelude.{option_to_list}
use Rattle.std.proofs.lemmas.Bool.{false≢true}
use Rattle.std.proofs.lemmas.Grind.{common_steps}
use Rattle.std.proofs.lemmas.List.{take_all}
use Rattle.day_report.specs.Carried.{carried_from}
use Rattle.day_report.proofs.OneMore.{carried-more, carried-none}
use Rattle.day_report.proofs.opening.rules_in.Goals as goal

pub loop-slot-preserved : goal.loop-slot-preserved
loop-slot-preserved c =
    let i = c.loop-slot.slot in
    let rules = c.args.rules.now in
    let rule = c.index-rules-slot.result in
    let lt : i < length rules = grind (arith, common_steps) in
    let more = carried-more rules i rule lt c.index-rules-slot.is in
    let pushed : c.push_some.new.items.items ≡ c.loop-slot.found.items ++ option_to_list c.carried_at.result = grind (arith, common_steps) in
    pushed ∙ (λ j. c.loop-slot.invariant j ++ option_to_list (c.carried_at.ensures j)) ∙ sym more

pub returns-clause-found : goal.returns-clause-found
returns-clause-found c =
    let all : take c.loop-slot.slot c.args.rules.now ≡ c.args.rules.now = take_all c.loop-slot.slot c.args.rules.now (grind (arith, common_steps)) in
    c.loop-slot.invariant ∙ ap (carried_from 0) all

pub returns-in_err-push_some-clause-none : goal.returns-in_err-push_some-clause-none
returns-in_err-push_some-clause-none c = λ none.
    let i = c.loop-slot.slot in
    let rules = c.args.rules.now in
    let lt : i < length rules = grind (arith, common_steps) in
    let item = c.carried_at.ensures ∙ carried-none rules i c.index-rules-slot.result lt c.index-rules-slot.is none in
    absurd (false≢true (c.in_err-push_some.ensures.none item))

use Rattle.std.proofs.Common.{◌≡◌, ◌<◌, ◌+◌, ◌++◌, None, length, take, arith, ap, ◌∙◌, sym}
use Rattle.std.specs.Prelude.{option_map, option_to_list, slice_index_or}
use Rattle.std.proofs.lemmas.Bool.{false≢true}
use Rattle.std.proofs.lemmas.Grind.{common_steps}
use Rattle.std.proofs.lemmas.List.{take_all}
use Rattle.fuelling_point.specs.Table.{PointState}
use Rattle.day_report.specs.Totals.{unpaid_of, unpaid_transaction}
use Rattle.day_report.proofs.OneMore.{unpaid-none, unpaid-more, unpaid-neither}
use Rattle.day_report.proofs.adding.unpaid_of.Goals as goal

pub loop-place-init : goal.loop-place-init
loop-place-init c = c.new-found.ensures.items ∙ sym unpaid-none

pub loop-place-preserved : goal.loop-place-preserved
loop-place-preserved c =
    let i = c.loop-place.place in
    let points = c.args.points.now in
    let p : PointState = c.index-points-place.result in
    let lt : i < length points = grind (arith, common_steps) in
    let first = slice_index_or c.transactions.result 0 None in
    let second = slice_index_or c.transactions.result 1 None in
    let both : option_to_list first ++ option_to_list second ≡ p.unpaid = c.transactions.ensures.unpaid in
    let more = unpaid-more points i p first second lt c.index-points-place.is both in
    let one : c.push_some.new.items.items ≡ c.loop-place.found.items ++ option_to_list c.unpaid_as.result = grind (arith, common_steps) in
    let two : c.push_some-in-loop-place.new.items.items ≡ c.push_some.new.items.items ++ option_to_list c.unpaid_as-in-loop-place.result =
    grind (arith, common_steps) in
    two
    ∙ (λ j. (one ∙ (λ k. c.loop-place.invariant k ++ option_to_list (c.unpaid_as.ensures k))) j ++ option_to_list (c.unpaid_as-in-loop-place.ensures j))
    ∙ sym more

pub returns-clause-found : goal.returns-clause-found
returns-clause-found c =
    let all : take c.loop-place.place c.args.points.now ≡ c.args.points.now = take_all c.loop-place.place c.args.points.now (grind (arith, common_steps)) in
    c.loop-place.invariant ∙ ap unpaid_of all

pub returns-in_err-push_some-clause-none : goal.returns-in_err-push_some-clause-none
returns-in_err-push_some-clause-none c = λ none.
    let neither = unpaid-neither c.args.points.now c.loop-place.place c.index-points-place.result (slice_index_or c.transactions.result 0 None)
    (slice_index_or c.transactions.result 1 None) (grind (arith, common_steps)) c.index-points-place.is c.transactions.ensures.unpaid none in
    absurd (false≢true (c.in_err-push_some.ensures.none (c.unpaid_as.ensures ∙ ap (option_map (unpaid_transaction (c.loop-place.place + 1))) neither.0)))

pub returns-in_err-push_some-2-clause-none : goal.returns-in_err-push_some-2-clause-none
returns-in_err-push_some-2-clause-none c = λ none.
    let neither = unpaid-neither c.args.points.now c.loop-place.place c.index-points-place.result (slice_index_or c.transactions.result 0 None)
    (slice_index_or c.transactions.result 1 None) (grind (arith, common_steps)) c.index-points-place.is c.transactions.ensures.unpaid none in
    absurd (false≢true (c.in_err-push_some-2.ensures.none (c.unpaid_as-in-loop-place.ensures ∙ ap (option_map (unpaid_transaction (c.loop-place.place + 1))) neither.1)))

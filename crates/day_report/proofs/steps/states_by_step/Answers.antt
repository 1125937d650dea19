use Rattle.std.proofs.Common.{◌≡◌, ◌≤◌, ◌<◌, ◌++◌, length, arith, get_or, subst, sym}
use Rattle.std.proofs.lemmas.Grind.{common_steps}
use Rattle.day_report.specs.Picture.{AreStepEnds, opening_states}
use Rattle.day_report.proofs.Showing.{cut_fits, cuts_ascend, next}
use Rattle.day_report.proofs.steps.states_by_step.Goals as goal

pub loop-cut-preserved : goal.loop-cut-preserved
loop-cut-preserved c =
    let i = c.loop-cut.cut-index in
    let marks = c.args.marks.now in
    let step_ends = c.deref-cut-items.result.now in
    let done = c.loop-cut.done in
    let lt : i < length step_ends = grind (arith, common_steps) in
    let are : AreStepEnds c.args.axis c.steps_of-steps.result marks step_ends =
    subst (AreStepEnds c.args.axis c.steps_of-steps.result marks) (sym c.deref-cut-items.ensures.value) c.in_ok-step_ends.ensures.divided in
    let fits = cut_fits c.args.axis c.steps_of-steps.result marks step_ends are i lt in
    let le = c.loop-cut.invariant.ahead i (omega arith) lt in
    let is : c.max-end.result ≡ get_or step_ends i 0 = grind (arith, common_steps) in
    let pushed : c.extend_from_slice.new.self.items ≡ c.loop-cut.states.items ++ c.in_ok-step.step.items = grind (arith, common_steps) in
    next (opening_states c.args.config.now) marks step_ends i done c.max-end.result c.loop-cut.now c.step_states.new.now c.loop-cut.states.items
    c.in_ok-step.step.items c.extend_from_slice.new.self.items lt is (cuts_ascend c.args.axis c.steps_of-steps.result marks step_ends are)
    (subst (λ n. n ≤ length marks) (sym is) fits) c.loop-cut.invariant c.in_ok-step.ensures.after c.in_ok-step.ensures.shown pushed

use Rattle.std.proofs.Common.{◌<◌, ◌∷◌, [], ◌∙◌, ap, length, refl, sym, subst, arith, Some, None}
use Rattle.std.specs.Prelude.{◌++◌}
use Rattle.bpf_model.specs.Program.{outcome}
use Rattle.verifier.specs.LoadOptions.{options_of}
use Rattle.interp.specs.Operating.{machine}
use Rattle.interp.proofs.Going.{asked, went}
use Rattle.explaining.proofs.Stepping.{begins, stepped}
use Rattle.explaining.proofs.Completing.{Completes, shows_now, begun, one_more, ended}
use Rattle.explaining.proofs.tracing.trace_on.Goals as goal

pub loop-next-init : goal.loop-next-init
loop-next-init c =
    let is = c.ops-ops.ensures in
    let p = c.args.program.now in
    let run = begins p.bytes (options_of p) c.ops-ops.result.now c.args.context.now c.args.view.now c.args.before.now is.us _ is.operations is.covered
    c.requires in
    let shown = c.state_of.ensures in
    record {
      many = refl;
      room = refl;
      run = run;
      completes = subst (λ ms. Completes p c.args.context.now c.args.view.now c.args.before.now ms run.running.reached.state) (sym (c.in_ok-push.ensures.items ∙ ap (λ ms. ms ++ c.state_of.result ∷ []) c.new-states.ensures.items))
          (begun p c.args.context.now c.args.view.now c.args.before.now c.state_of.result
          (shows_now p c.args.context.now c.args.view.now c.args.before.now c.ops-ops.result.now 0 _ run c.state_of.result shown.unit shown.words shown.stack
          shown.counters));
    }

pub turn-requires : goal.turn-requires
turn-requires c =
    asked c.args.program.now.bytes (options_of c.args.program.now) c.ops-ops.result.now c.args.context.now c.args.view.now c.args.before.now c.loop-next.pc
    (machine c.loop-next.frame c.loop-next.counters) _ c.loop-next.invariant.run

pub loop-next-smaller : goal.loop-next-smaller
loop-next-smaller c =
    let further = (stepped c.args.program.now.bytes (options_of c.args.program.now) c.ops-ops.result.now c.args.context.now c.args.view.now c.args.before.now
    c.loop-next.pc (machine c.loop-next.frame c.loop-next.counters) _ c.loop-next.invariant.run c.in-Some.ensures.fits
    c.loop-next.invariant.many c.loop-next.invariant.room (Some c.in-Some.next) (machine c.turn.new.frame c.turn.new.counters)
    c.in-Some.ensures.made).0 in
    let l : c.loop-next.pc < length c.ops-ops.result.now = c.loop-next.invariant.run.inside in
    omega (arith, further, l)

pub loop-next-preserved : goal.loop-next-preserved
loop-next-preserved c =
    let made = c.in-Some.ensures.made in
    let p = c.args.program.now in
    let further = stepped p.bytes (options_of p) c.ops-ops.result.now c.args.context.now c.args.view.now c.args.before.now c.loop-next.pc
    (machine c.loop-next.frame c.loop-next.counters) _ c.loop-next.invariant.run c.in-Some.ensures.fits c.loop-next.invariant.many c.loop-next.invariant.room
    (Some c.in-Some.next) (machine c.turn.new.frame c.turn.new.counters) made in
    let shown = c.state_of-in-Some.ensures in
    record {
      many = made.many;
      room = made.room;
      run = further.1;
      completes = subst (λ ms. Completes p c.args.context.now c.args.view.now c.args.before.now ms further.1.running.reached.state)
          (sym c.in_ok-push-2.ensures.items)
          (one_more p c.args.context.now c.args.view.now c.args.before.now c.loop-next.states.items c.loop-next.invariant.run.running.reached.state
          further.1.running.reached.state c.state_of-in-Some.result c.loop-next.invariant.completes further.2
          (shows_now p c.args.context.now c.args.view.now c.args.before.now c.ops-ops.result.now c.in-Some.next _ further.1 c.state_of-in-Some.result shown.unit
          shown.words shown.stack shown.counters));
    }

pub returns-clause-states : goal.returns-clause-states
returns-clause-states c =
    let p = c.args.program.now in
    ended p c.args.context.now c.args.view.now c.args.before.now c.loop-next.states.items c.loop-next.invariant.run.running.reached.state _ _
    c.loop-next.invariant.completes
    (stepped p.bytes (options_of p) c.ops-ops.result.now c.args.context.now c.args.view.now c.args.before.now c.loop-next.pc
    (machine c.loop-next.frame c.loop-next.counters) _ c.loop-next.invariant.run c.in_default.ensures.fits c.loop-next.invariant.many
    c.loop-next.invariant.room None (machine c.turn.new.frame c.turn.new.counters) c.in_default.ensures.made)

pub returns-clause-end : goal.returns-clause-end
unfolding outcome
returns-clause-end c =
    went c.args.program.now.bytes (options_of c.args.program.now) c.ops-ops.result.now c.args.context.now c.args.view.now c.args.before.now c.loop-next.pc
    (machine c.loop-next.frame c.loop-next.counters) _ c.loop-next.invariant.run c.in_default.ensures.fits c.loop-next.invariant.many
    c.loop-next.invariant.room None (machine c.turn.new.frame c.turn.new.counters) c.in_default.ensures.made

use Rattle.std.proofs.Common.{rules, refl}
use Rattle.std.specs.Prelude.{Some}
use Rattle.line_session.proofs.Visiting.{serves_more, serves_unopened}
use Rattle.line_session.proofs.serving.worker.Goals as goal

pub loop-preserved : goal.loop-preserved
loop-preserved g c =
    let ran = c.pipelined_session-outcome in
    record {
      serves = serves_more _ _ _ _ _ _ _ _ _ _ (Some ran.result) c.loop.invariant.serves (
        _,
        _,
        _,
        c.in-Ok.ensures.ok,
        _,
        _,
        record {
          all_answered = ran.ensures.all_answered;
          broken = ran.ensures.broken;
          read_fault = ran.ensures.read_fault;
          write_fault = ran.ensures.write_fault;
          count = ran.ensures.reads.0;
          few = ran.ensures.reads.1;
          counted = ran.ensures.reads.2;
          spent = ran.ensures.reads.3;
          stopped = ran.ensures.stopped;
        },
        c.ended.ensures.told,
      ) c.one_if_good-clean.ensures.counted;
      few = search rules;
      closes = λ may. c.loop.invariant.closes (c.in-Ok.ensures.closes (c.ended.ensures.closes may));
    }

pub loop-preserved-in_default : goal.loop-preserved-in_default
loop-preserved-in_default g c = record {
  serves = serves_unopened _ _ _ _ _ _ _ _ _ c.loop.invariant.serves (c.in_default.ensures.err, refl);
  few = search rules;
  closes = λ may. c.loop.invariant.closes (c.in_default.ensures.closes may);
}

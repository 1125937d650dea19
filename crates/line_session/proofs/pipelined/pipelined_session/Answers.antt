use Rattle.std.proofs.Common.{refl}
use Rattle.till_request.proofs.Taken.{on_err_always}
use Rattle.line_session.specs.Session.{desk_answers, desk_drops, desk_needs_memory}
use Rattle.line_session.proofs.Buffered.{ends_part, sends_none, stops_at_door, stops_part}
use Rattle.line_session.proofs.pipelined.pipelined_session.Goals as goal

pub returns-in_err-flush-in-Ok-clause-broken : goal.returns-in_err-flush-in-Ok-clause-broken
returns-in_err-flush-in-Ok-clause-broken g c =
    on_err_always _ (ends_part (desk_answers g.D.Desk.step g.D.Desk.looks g.C.Clock.tick c.args.role) (desk_drops g.D.Desk.step g.D.Desk.looks g.C.Clock.tick c.args.role) _ _ _ _ _ _ _ _ _ _
    c.in-Ok.ensures.all_answered c.in_err-flush-in-Ok.ensures.err)

pub returns-then-device_failed-clause-stopped : goal.returns-then-device_failed-clause-stopped
returns-then-device_failed-clause-stopped g c =
    λ other. stops_at_door (desk_answers g.D.Desk.step g.D.Desk.looks g.C.Clock.tick c.args.role) (desk_drops g.D.Desk.step g.D.Desk.looks g.C.Clock.tick c.args.role) (desk_needs_memory c.args.role) c.in-Err.fault _ _ _ _ _ _ _ _ _
    (c.in-Err.ensures.stopped other) (sends_none _ _) (λ no_read. absurd (no_read (c.device_failed.ensures.yes c.if-device_failed.true other)))

pub returns-in_err-flush-in-Err-clause-broken : goal.returns-in_err-flush-in-Err-clause-broken
returns-in_err-flush-in-Err-clause-broken g c =
    let no = c.device_failed.ensures.no c.if-device_failed.false in
    on_err_always _ (stops_part (desk_answers g.D.Desk.step g.D.Desk.looks g.C.Clock.tick c.args.role) (desk_drops g.D.Desk.step g.D.Desk.looks g.C.Clock.tick c.args.role) (desk_needs_memory c.args.role) c.in-Err.fault
    _ _ _ _ _ _ _ _ (c.in-Err.ensures.stopped no.1) c.in_err-flush-in-Err.ensures.err)

pub returns-clause-broken : goal.returns-clause-broken
returns-clause-broken g c =
    let no = c.device_failed.ensures.no c.if-device_failed.false in
    stops_part (desk_answers g.D.Desk.step g.D.Desk.looks g.C.Clock.tick c.args.role) (desk_drops g.D.Desk.step g.D.Desk.looks g.C.Clock.tick c.args.role) (desk_needs_memory c.args.role) c.in-Err.fault _ _ _ _ _ _ _ _ (c.in-Err.ensures.stopped no.1) (_, c.in_ok-flush-in-Err.ensures.ok)

pub returns-clause-stopped : goal.returns-clause-stopped
returns-clause-stopped g c = λ other.
    stops_at_door (desk_answers g.D.Desk.step g.D.Desk.looks g.C.Clock.tick c.args.role) (desk_drops g.D.Desk.step g.D.Desk.looks g.C.Clock.tick c.args.role) (desk_needs_memory c.args.role) c.in-Err.fault
    _ _ _ _ _ _ _ _ _ (c.in-Err.ensures.stopped other) c.in_ok-flush-in-Err.ensures.ok (λ _. refl)

use Rattle.std.proofs.Common.{◌+◌, arith, rules}
use Rattle.till_request.proofs.Counts.{rose_more, rose_left}
use Rattle.till_request.proofs.Taken.{on_err_always}
use Rattle.line_session.specs.Faults.{fault_of_input}
use Rattle.line_session.specs.Session.{desk_answers, desk_drops, desk_needs_memory}
use Rattle.line_session.proofs.Failing.{if_returned}
use Rattle.line_session.proofs.Found.{cut_found}
use Rattle.line_session.proofs.Buffered.{waits_none, still_holds_after_write, holds_after_answer, breaks_gone, breaks_cut_off, sends_none, stops_read, stops_left_held, stops_part, ends_all}
use Rattle.line_session.proofs.pipelined.Progress.answer_lines.Goals as goal

pub turns-init : goal.turns-init
turns-init g c = record {
  answering = rw c.requires.1 (waits_none (desk_answers g.D.Desk.step g.D.Desk.looks g.C.Clock.tick c.args.role) _ _ _);
  within = search rules;
  reads = search rules;
  asked = search rules;
  read = search rules;
  write = search rules;
}

pub returns-in_err-flush_unless_more-clause-broken : goal.returns-in_err-flush_unless_more-clause-broken
returns-in_err-flush_unless_more-clause-broken g c =
    rw c.in_err-flush_unless_more.ensures.input (on_err_always _ (breaks_gone (desk_answers g.D.Desk.step g.D.Desk.looks g.C.Clock.tick c.args.role) (desk_drops g.D.Desk.step g.D.Desk.looks g.C.Clock.tick c.args.role) _ _ _ _ _ _ _ _ c.turns.count
    c.turns.invariant.answering c.in_err-flush_unless_more.ensures.err))

pub returns-in_err-found-clause-broken : goal.returns-in_err-found-clause-broken
returns-in_err-found-clause-broken g c =
    let way = still_holds_after_write _ _ _ _ _ _ c.turns.invariant.answering c.in_ok-flush_unless_more.ensures.ok in
    let t = rw c.in_ok-flush_unless_more.ensures.input at c.in_err-found.ensures.given in
    let fault = c.in_err-found.field-0.0 in
    on_err_always _ (stops_part (desk_answers g.D.Desk.step g.D.Desk.looks g.C.Clock.tick c.args.role) (desk_drops g.D.Desk.step g.D.Desk.looks g.C.Clock.tick c.args.role) (desk_needs_memory c.args.role) (fault_of_input fault) _ _ _ _ _ _ _ _
    (stops_read (desk_answers g.D.Desk.step g.D.Desk.looks g.C.Clock.tick c.args.role) (desk_drops g.D.Desk.step g.D.Desk.looks g.C.Clock.tick c.args.role) (desk_needs_memory c.args.role) fault _ _ _ _ _ _ _ _ c.turns.count t.0 way t.1 t.2) (_, sends_none _ _))

pub returns-in_err-found-clause-stopped : goal.returns-in_err-found-clause-stopped
returns-in_err-found-clause-stopped g c =
    let way = still_holds_after_write _ _ _ _ _ _ c.turns.invariant.answering c.in_ok-flush_unless_more.ensures.ok in
    let t = rw c.in_ok-flush_unless_more.ensures.input at c.in_err-found.ensures.given in
    if_returned _ _ c.from_residual-in_err-found.ensures _
    (λ _. stops_read (desk_answers g.D.Desk.step g.D.Desk.looks g.C.Clock.tick c.args.role) (desk_drops g.D.Desk.step g.D.Desk.looks g.C.Clock.tick c.args.role) (desk_needs_memory c.args.role) _ _ _ _ _ _ _ _ _
    c.turns.count t.0 way t.1 t.2)

pub returns-in_err-answer-in-Line-clause-broken : goal.returns-in_err-answer-in-Line-clause-broken
returns-in_err-answer-in-Line-clause-broken g c =
    let way = still_holds_after_write _ _ _ _ _ _ c.turns.invariant.answering c.in_ok-flush_unless_more.ensures.ok in
    let t = rw (c.in-Line.is, c.in_ok-flush_unless_more.ensures.input) at c.in_ok-found.ensures.taken in
    on_err_always _ (stops_part (desk_answers g.D.Desk.step g.D.Desk.looks g.C.Clock.tick c.args.role) (desk_drops g.D.Desk.step g.D.Desk.looks g.C.Clock.tick c.args.role) (desk_needs_memory c.args.role) _ _ _ _ _ _ _ _ _
    (stops_left_held (desk_answers g.D.Desk.step g.D.Desk.looks g.C.Clock.tick c.args.role) (desk_drops g.D.Desk.step g.D.Desk.looks g.C.Clock.tick c.args.role) (desk_needs_memory c.args.role) _ _ _ _ _ _ _ _ _ _ c.turns.count
    c.read_line_into.new.line.items way t.1 t.0 (rw c.deref.ensures.value at c.in_err-answer-in-Line.ensures.err)) (_, sends_none _ _))

pub returns-in_err-answer-in-Line-clause-stopped : goal.returns-in_err-answer-in-Line-clause-stopped
returns-in_err-answer-in-Line-clause-stopped g c =
    let way = still_holds_after_write _ _ _ _ _ _ c.turns.invariant.answering c.in_ok-flush_unless_more.ensures.ok in
    let t = rw (c.in-Line.is, c.in_ok-flush_unless_more.ensures.input) at c.in_ok-found.ensures.taken in
    if_returned _ _ c.from_residual-in_err-answer-in-Line.ensures _ (λ _. stops_left_held (desk_answers g.D.Desk.step g.D.Desk.looks g.C.Clock.tick c.args.role) (desk_drops g.D.Desk.step g.D.Desk.looks g.C.Clock.tick c.args.role) (desk_needs_memory c.args.role) _ _ _ _ _ _ _ _ _ _ c.turns.count
    c.read_line_into.new.line.items way t.1 t.0 (rw c.deref.ensures.value at c.in_err-answer-in-Line.ensures.err))

pub returns-in_err-put_written-in-Line-clause-broken : goal.returns-in_err-put_written-in-Line-clause-broken
returns-in_err-put_written-in-Line-clause-broken g c =
    let way = still_holds_after_write _ _ _ _ _ _ c.turns.invariant.answering c.in_ok-flush_unless_more.ensures.ok in
    let t = rw (c.in-Line.is, c.in_ok-flush_unless_more.ensures.input) at c.in_ok-found.ensures.taken in
    on_err_always _ (breaks_gone (desk_answers g.D.Desk.step g.D.Desk.looks g.C.Clock.tick c.args.role) (desk_drops g.D.Desk.step g.D.Desk.looks g.C.Clock.tick c.args.role) _ _ _ _ _ _ _ _ (c.turns.count + 1)
    (holds_after_answer (desk_answers g.D.Desk.step g.D.Desk.looks g.C.Clock.tick c.args.role) _ _ _ _ _ _ _ _ _ c.turns.count c.read_line_into.new.line.items _ way t.1 t.0
    (rw c.deref.ensures.value at c.in_ok-answer-in-Line.ensures.ok)) (rw c.deref-in-Line.ensures.value at c.in_err-put_written-in-Line.ensures.err))

pub returns-in_default-clause-all_answered : goal.returns-in_default-clause-all_answered
returns-in_default-clause-all_answered g c =
    let way = still_holds_after_write _ _ _ _ _ _ c.turns.invariant.answering c.in_ok-flush_unless_more.ensures.ok in
    let t = cut_found c.in_ok-found.found _ _ _ c.in_default.not-Line (rw c.in_ok-flush_unless_more.ensures.input at c.in_ok-found.ensures.taken) in
    ends_all (desk_answers g.D.Desk.step g.D.Desk.looks g.C.Clock.tick c.args.role) _ _ _ _ _ _ _ _ _ _ c.turns.count c.cut_of.result t.0 c.end.result way t.1 (rw c.cut_of.ensures t.2)
    c.end.ensures.ok

pub returns-in_default-clause-broken : goal.returns-in_default-clause-broken
returns-in_default-clause-broken g c =
    let way = still_holds_after_write _ _ _ _ _ _ c.turns.invariant.answering c.in_ok-flush_unless_more.ensures.ok in
    let t = cut_found c.in_ok-found.found _ _ _ c.in_default.not-Line (rw c.in_ok-flush_unless_more.ensures.input at c.in_ok-found.ensures.taken) in
    breaks_cut_off (desk_answers g.D.Desk.step g.D.Desk.looks g.C.Clock.tick c.args.role) (desk_drops g.D.Desk.step g.D.Desk.looks g.C.Clock.tick c.args.role) _ _ _ _ _ _ _ _ _ c.turns.count
    c.cut_of.result t.0 c.end.result way t.1 (rw c.cut_of.ensures t.2) c.end.ensures.err

pub turns-preserved : goal.turns-preserved
turns-preserved g c =
    let way = still_holds_after_write _ _ _ _ _ _ c.turns.invariant.answering c.in_ok-flush_unless_more.ensures.ok in
    let t = rw (c.in-Line.is, c.in_ok-flush_unless_more.ensures.input) at c.in_ok-found.ensures.taken in
    record {
      answering = still_holds_after_write _ _ _ _ _ _ (holds_after_answer (desk_answers g.D.Desk.step g.D.Desk.looks g.C.Clock.tick c.args.role) _ _ _ _ _ _ _ _ _ c.turns.count c.read_line_into.new.line.items _ way t.1 t.0
          (rw c.deref.ensures.value at c.in_ok-answer-in-Line.ensures.ok)) (rw c.deref-in-Line.ensures.value at c.in_ok-put_written-in-Line.ensures.ok);
      within = omega (arith, c.turns.invariant.within, c.in_ok-flush_unless_more.ensures.left, c.in_ok-found.ensures.used);
      reads = rose_left c.args.self.now.left c.turns.self.left c.read_line_into.new.left (omega (arith, c.turns.invariant.within))
          (omega (arith, c.in_ok-found.ensures.left, c.in_ok-flush_unless_more.ensures.left)) c.turns.invariant.reads
          (rw (c.in_ok-flush_unless_more.ensures.left, c.in_ok-flush_unless_more.ensures.input) at c.in_ok-found.ensures.counted);
      asked = rose_left c.args.self.now.left c.turns.self.left c.read_line_into.new.left (omega (arith, c.turns.invariant.within))
          (omega (arith, c.in_ok-found.ensures.left, c.in_ok-flush_unless_more.ensures.left)) c.turns.invariant.asked
          (rw (c.in_ok-flush_unless_more.ensures.left, c.in_ok-flush_unless_more.ensures.input) at c.in_ok-found.ensures.asked);
      read = rose_more c.turns.invariant.read (rw c.in_ok-flush_unless_more.ensures.input at c.in_ok-found.ensures.failed);
      write = rose_more c.turns.invariant.write (rose_more c.in_ok-flush_unless_more.ensures.failed c.in_ok-put_written-in-Line.ensures.failed);
    }

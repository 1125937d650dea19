use Rattle.std.proofs.Common.{arith, rules, inl}
use Rattle.till_request.proofs.Taken.{on_err_always}
use Rattle.till_request.proofs.Counts.{rose_more, rose_left}
use Rattle.line_session.proofs.Failing.{if_returned}
use Rattle.line_session.proofs.Found.{cut_found}
use Rattle.line_session.proofs.Saying.{talks_none, talks_more, ends_said, breaks_here, breaks_line, breaks_end, stops_here, stops_line}
use Rattle.line_session.proofs.answering.answer_lines_within.Goals as goal

pub turns-init : goal.turns-init
turns-init g c = record {
  answering = talks_none _ _ _ _;
  within = search rules;
  reads = search rules;
  asked = search rules;
  read = search rules;
  write = search rules;
}

pub returns-in_err-found-clause-broken : goal.returns-in_err-found-clause-broken
returns-in_err-found-clause-broken g c =
    on_err_always _ (breaks_here _ _ _ _ _ _ _ _ c.turns.count _ c.in_err-found.ensures.given.0 c.turns.invariant.answering c.in_err-found.ensures.given.1
    (inl c.in_err-found.ensures.given.2))

pub returns-in_err-handle_line-in-Line-clause-broken :
    goal.returns-in_err-handle_line-in-Line-clause-broken
returns-in_err-handle_line-in-Line-clause-broken g c =
    let t = rw c.in-Line.is at c.in_ok-found.ensures.taken in
    on_err_always _ (breaks_line _ _ g.O.LineOut.written _ _ _ _ _ _ _ _ _ c.turns.count c.read_line_into.new.line.items c.turns.invariant.answering t.1 t.0
    _ _ (rw c.deref.ensures.value at c.in_err-handle_line-in-Line.ensures.err))

pub returns-in_default-clause-all_answered : goal.returns-in_default-clause-all_answered
returns-in_default-clause-all_answered g c =
    let t = cut_found c.in_ok-found.found _ _ _ c.in_default.not-Line c.in_ok-found.ensures.taken in
    ends_said _ _ _ _ _ _ _ _ _ c.turns.count c.cut_of.result t.0 c.end.result c.turns.invariant.answering t.1 (rw c.cut_of.ensures t.2) c.end.ensures.ok

pub returns-in_default-clause-broken : goal.returns-in_default-clause-broken
returns-in_default-clause-broken g c =
    let t = cut_found c.in_ok-found.found _ _ _ c.in_default.not-Line c.in_ok-found.ensures.taken in
    breaks_end _ _ _ _ _ _ _ _ _ _ c.turns.count c.cut_of.result t.0 c.end.result c.turns.invariant.answering t.1 (rw c.cut_of.ensures t.2) c.end.ensures.err

pub turns-preserved : goal.turns-preserved
turns-preserved g c =
    let t = rw c.in-Line.is at c.in_ok-found.ensures.taken in record {
      answering = talks_more _ _ _ _ _ _ _ _ _ _ c.turns.count c.read_line_into.new.line.items c.turns.invariant.answering t.1 t.0
          (rw c.deref.ensures.value at c.in_ok-handle_line-in-Line.ensures.ok);
      within = omega (arith, c.in_ok-found.ensures.used);
      reads = rose_left c.args.left.now c.turns.left c.read_line_into.new.left (omega arith) (omega (arith, c.in_ok-found.ensures.left)) c.turns.invariant.reads
          c.in_ok-found.ensures.counted;
      asked = rose_left c.args.left.now c.turns.left c.read_line_into.new.left (omega arith) (omega (arith, c.in_ok-found.ensures.left)) c.turns.invariant.asked
          c.in_ok-found.ensures.asked;
      read = rose_more c.turns.invariant.read c.in_ok-found.ensures.failed;
      write = rose_more c.turns.invariant.write c.in_ok-handle_line-in-Line.ensures.failed;
    }

pub returns-in_err-found-clause-stopped : goal.returns-in_err-found-clause-stopped
returns-in_err-found-clause-stopped g c =
    if_returned _ _ c.from_residual.ensures _
    (λ _. stops_here _ _ _ _ _ _ _ _ _ _ c.turns.count _ c.in_err-found.ensures.given.0 c.turns.invariant.answering c.in_err-found.ensures.given.1
    c.in_err-found.ensures.given.2)

pub returns-in_err-handle_line-in-Line-clause-stopped : goal.returns-in_err-handle_line-in-Line-clause-stopped
returns-in_err-handle_line-in-Line-clause-stopped g c =
    let t = rw c.in-Line.is at c.in_ok-found.ensures.taken in
    if_returned _ _ c.from_residual-in_err-handle_line-in-Line.ensures _
    (stops_line _ _ g.O.LineOut.written _ _ _ _ _ _ _ _ _ c.turns.count c.read_line_into.new.line.items c.turns.invariant.answering t.1 t.0 _ _
    (rw c.deref.ensures.value at c.in_err-handle_line-in-Line.ensures.err))

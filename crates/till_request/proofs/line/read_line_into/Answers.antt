use Rattle.std.proofs.Common.{rules, ap, ◌≤◌, ◌++◌, ◌∷◌, [], length, arith, length-append, subst, sym}
use Rattle.std.specs.Io.KnownBytes.{Consumes}
use Rattle.till_request.specs.Line.{HasNoLf, IsLine}
use Rattle.till_request.proofs.Counts.{rose_left}
use Rattle.till_request.proofs.Taken.{byte_behind, consumes_more, lacks_behind, lacks_byte, no_lf_more, part_given}
use Rattle.till_request.proofs.line.read_line_into.Goals as goal

pub returns-in-Some-clause-taken : goal.returns-in-Some-clause-taken
returns-in-Some-clause-taken g c =
    let byte = c.in-Some.field-0 in
    let grown = c.next_byte_after_buffered.new.line.items in
    let on = rw c.in-Some.is at c.in_ok-next_byte_after_buffered.ensures.some in (
      grown ++ byte ∷ [],
      byte_behind _ _ _ c.bytes.line.items grown byte c.bytes.invariant.taken on,
      no_lf_more grown byte on.3.0 c.in-Some.field-0-test.1,
      omega (arith, length-append grown (byte ∷ []), on.3.1, c.if-len-ge-LINE_BYTES.true, c.len.ensures),
    )

pub returns-in_err-add_byte-in-Some-2-clause-given : goal.returns-in_err-add_byte-in-Some-2-clause-given
returns-in_err-add_byte-in-Some-2-clause-given g c =
    let byte = c.in-Some.field-0 in
    let grown = c.next_byte_after_buffered.new.line.items in
    let on = rw c.in-Some.is at c.in_ok-next_byte_after_buffered.ensures.some in
    let no_lf : HasNoLf (grown ++ byte ∷ []) = no_lf_more grown byte on.3.0 c.in-Some.field-0-test.1 in
    let short : length (grown ++ byte ∷ []) ≤ 8400 = omega (arith, length-append grown (byte ∷ []), c.if-len-ge-LINE_BYTES.false, c.len.ensures) in
    part_given _ _ _ (grown ++ byte ∷ [])
    (byte_behind _ _ _ c.bytes.line.items grown byte c.bytes.invariant.taken on) (no_lf, short)

pub returns-in_err-next_byte_after_buffered-clause-given : goal.returns-in_err-next_byte_after_buffered-clause-given
returns-in_err-next_byte_after_buffered-clause-given g c =
    let more = c.in_err-next_byte_after_buffered.ensures.given in
    part_given _ _ _ (c.bytes.line.items ++ more.0)
    (consumes_more _ _ _ c.bytes.line.items more.0 c.bytes.invariant.taken more.1) more.2

pub returns-in_err-add_byte-in-Some-2-clause-memory : goal.returns-in_err-add_byte-in-Some-2-clause-memory
returns-in_err-add_byte-in-Some-2-clause-memory g c = λ is.
    let byte = c.in-Some.field-0 in
    let grown = c.next_byte_after_buffered.new.line.items in
    let on = rw c.in-Some.is at c.in_ok-next_byte_after_buffered.ensures.some in
    let no_lf : HasNoLf (grown ++ byte ∷ []) = no_lf_more grown byte on.3.0 c.in-Some.field-0-test.1 in
    let short : length (grown ++ byte ∷ []) ≤ 8400 = omega (arith, length-append grown (byte ∷ []), c.if-len-ge-LINE_BYTES.false, c.len.ensures) in
    lacks_byte _ _ grown byte _ _ _ (byte_behind _ _ _ c.bytes.line.items grown byte c.bytes.invariant.taken on) (no_lf, short)
    (omega (arith, c.bytes.invariant.room, c.next_byte_after_buffered.ensures.room, c.in_err-add_byte-in-Some-2.ensures.full))
    (omega (arith, c.bytes.invariant.each, c.in_ok-next_byte_after_buffered.ensures.each))

pub returns-in_err-next_byte_after_buffered-clause-memory : goal.returns-in_err-next_byte_after_buffered-clause-memory
returns-in_err-next_byte_after_buffered-clause-memory g c = λ is.
    lacks_behind _ _ c.bytes.line.items _ _ _ _ _ c.bytes.invariant.taken c.bytes.invariant.room c.bytes.invariant.each (c.next_byte_after_buffered.ensures.memory (search rules))

pub bytes-preserved : goal.bytes-preserved
bytes-preserved g c =
    let byte = c.in-Some.field-0 in
    let grown = c.next_byte_after_buffered.new.line.items in
    let on = rw c.in-Some.is at c.in_ok-next_byte_after_buffered.ensures.some in
    let short : length (grown ++ byte ∷ []) ≤ 8400 = omega (arith, length-append grown (byte ∷ []), c.if-len-ge-LINE_BYTES.false, c.len.ensures) in record {
      taken = subst (λ l. Consumes (g.I.LineIn.remaining c.args.input.now) (g.I.LineIn.remaining c.next_byte_after_buffered.new.input) l)
          (sym c.in_ok-add_byte-in-Some-2.ensures.added) (byte_behind _ _ _ c.bytes.line.items grown byte c.bytes.invariant.taken on);
      whole = subst (λ l. IsLine l) (sym c.in_ok-add_byte-in-Some-2.ensures.added) (no_lf_more grown byte on.3.0 c.in-Some.field-0-test.1, short);
      fewer = omega (arith, c.bytes.invariant.fewer, c.next_byte_after_buffered.ensures.left);
      each = omega (
        arith,
        c.bytes.invariant.each,
        c.in_ok-next_byte_after_buffered.ensures.each,
        ap length c.in_ok-add_byte-in-Some-2.ensures.added,
        length-append grown (byte ∷ []),
      );
      room = omega (arith, c.bytes.invariant.room, c.next_byte_after_buffered.ensures.room, c.add_byte.ensures.room);
      counted = rose_left c.args.left.now c.bytes.left c.next_byte_after_buffered.new.left c.bytes.invariant.fewer c.next_byte_after_buffered.ensures.left c.bytes.invariant.counted
          c.next_byte_after_buffered.ensures.counted;
      asked = rose_left c.args.left.now c.bytes.left c.next_byte_after_buffered.new.left c.bytes.invariant.fewer c.next_byte_after_buffered.ensures.left c.bytes.invariant.asked
          c.next_byte_after_buffered.ensures.asked;
      failed = search rules;
    }

use Rattle.std.proofs.Common.{rules}
use Rattle.till_request.specs.Line.{ReadsIntoLine}
use Rattle.till_request.proofs.Taken.{goes_on, goes_part}
use Rattle.till_request.proofs.line.next_byte_after_buffered.Goals as goal

pub returns-clause-some : goal.returns-clause-some
returns-clause-some g c =
    let old = g.I.LineIn.remaining c.args.input.now in
    let behind = g.I.LineIn.remaining c.read_buffered.new.self in
    let held : ReadsIntoLine (g.I.LineIn.remaining c.args.input.now) (g.I.LineIn.remaining c.read_buffered.new.self) c.args.line.now.items
    c.read_buffered.new.line.items = search rules in
    goes_on old behind (g.I.LineIn.remaining c.next_byte.new.input) c.args.line.now.items c.read_buffered.new.line.items c.next_byte.result held
    c.next_byte.ensures.some

pub returns-clause-given : goal.returns-clause-given
returns-clause-given g c =
    let old = g.I.LineIn.remaining c.args.input.now in
    let behind = g.I.LineIn.remaining c.read_buffered.new.self in
    let held : ReadsIntoLine (g.I.LineIn.remaining c.args.input.now) (g.I.LineIn.remaining c.read_buffered.new.self) c.args.line.now.items
    c.read_buffered.new.line.items = search rules in
    goes_part old behind (g.I.LineIn.remaining c.next_byte.new.input) c.args.line.now.items c.read_buffered.new.line.items c.next_byte.result held
    c.next_byte.ensures.unchanged

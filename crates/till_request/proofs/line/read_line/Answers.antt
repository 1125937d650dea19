use Rattle.std.proofs.Common.{rules, ap, subst, ◌≡◌, [], Err}
use Rattle.till_request.specs.Line.{LacksRoom}
use Rattle.till_request.specs.declared.line.InputFault.TheVariants.{OutOfMemory}
use Rattle.till_request.proofs.Faults.{fault_taken}
use Rattle.till_request.proofs.line.read_line.Goals as goal

pub returns-in-Line-clause-fault : goal.returns-in-Line-clause-fault
returns-in-Line-clause-fault g c =
    let t = rw c.in-Line.is at c.in_ok-read_line_into.ensures.taken in
    fault_taken c.in-Err.fault _ _ c.args.role _ _ c.read_line_into.new.line.items t.0 t.1 (rw c.deref.ensures.value at c.in-Err.ensures.given)
    (λ is. rw c.deref.ensures.value at c.in-Err.ensures.memory (ap (λ f. Err f) is))

pub returns-in_err-read_line_into-clause-fault : goal.returns-in_err-read_line_into-clause-fault
returns-in_err-read_line_into-clause-fault g c =
    let memory : c.read_line_into.result ≡ Err OutOfMemory → LacksRoom (g.I.LineIn.remaining c.args.input.now) [] 0 c.args.left.now c.read_line_into.new.left =
    λ is. subst (λ room. LacksRoom (g.I.LineIn.remaining c.args.input.now) [] room c.args.left.now c.read_line_into.new.left) c.new-line.ensures.capacity
    (c.read_line_into.ensures.memory is) in
    search rules

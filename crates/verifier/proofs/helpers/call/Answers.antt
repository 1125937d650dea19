use Rattle.std.proofs.Common.{◌∙◌, ap, rules, FitsSigned, w32}
use Rattle.std.proofs.lemmas.Int.{to_z-of_z}
use Rattle.bpf_model.specs.Machine.{helper_of}
use Rattle.verifier.proofs.HelperMeaning.{machine_is}
use Rattle.verifier.proofs.helpers.call.Goals as goal

pub returns-clause-machine : goal.returns-clause-machine
returns-clause-machine c declared d =
    let f : FitsSigned w32 c.args.id = search rules in
    machine_is declared c.args.a c.args.b c.args.view.now c.args.counters.now c.args.stack.now (helper_of c.args.id) c.in-Some.helper c.answer.result
    c.answer.new.counters c.answer.new.stack (c.in-Some.ensures ∙ ap helper_of (to_z-of_z w32 c.args.id f)) c.requires.counter c.requires.place d
    c.answer.ensures.answer c.answer.ensures.counters c.answer.ensures.stack

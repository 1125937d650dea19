use Rattle.std.proofs.Common.{◌≡◌, ◌∙◌, sym, ap, subst, length}
use Rattle.bpf_model.specs.Layouts.{context_len, bytes_of}
use Rattle.verifier.specs.LoadOptions.{options_of}
use Rattle.bpf_model.specs.Program.{outcome}
use Rattle.bpf_model.specs.Machine.{counter}
use Rattle.verifier.specs.CounterChanges.{adopted}
use Rattle.interp.proofs.Depending.{rebased}
use Rattle.interp.proofs.rebasing.rebase.Goals as goal

pub returns-clause-run_result : goal.returns-clause-run_result
unfolding outcome
returns-clause-run_result c = λ answer run_result.
    let long : length (bytes_of c.args.context.now) ≡ context_len c.args.program.now.layout =
    ap length (sym c.bytes-bytes.ensures.bytes) ∙ c.bytes-bytes.ensures.many ∙ ap context_len c.requires.layout in
    rebased c.args.program.now.bytes c.ops-ops.ensures.us (options_of c.args.program.now) (bytes_of c.args.context.now) long c.args.view.now
    c.ops-ops.ensures.covered c.args.before.now c.args.now.now c.args.after.now c.adopt.new.self answer c.get-before.ensures.right.many
    c.get-old.ensures.right.many c.get-new.ensures.right.many c.requires.agree run_result
    (λ q. subst (λ d. counter c.adopt.new.self q ≡ adopted d c.args.after.now c.args.now.now q) c.declared.ensures (c.adopt.ensures q))

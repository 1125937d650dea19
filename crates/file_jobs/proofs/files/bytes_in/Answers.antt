use Rattle.std.proofs.Common.{◌≡◌, ◌≤◌, ◌<◌, ◌+◌, ◌++◌, length, take, arith, ap, sym, ◌∙◌}
use Rattle.std.proofs.lemmas.Grind.{common_steps}
use Rattle.std.proofs.lemmas.List.{take_all, length-take}
use Rattle.file_jobs.proofs.files.bytes_in.Goals as goal

pub returns-in-Ok-2-clause-all : goal.returns-in-Ok-2-clause-all
returns-in-Ok-2-clause-all g c = λ text known few.
    let given : c.read_all.new.bytes.items ≡ take (c.args.most + 1) text = c.in-Ok.ensures text known few ∙ ap (λ xs. xs ++ take (c.args.most + 1) text) c.new-bytes.ensures.items in
    let short : length c.read_all.new.bytes.items ≤ c.args.most = grind (arith, common_steps, c.len.ensures, c.if-len-most.false) in
    let few_left : length text ≤ c.args.most + 1 = omega (arith, short, sym (length-take (c.args.most + 1) text) ∙ ap length (sym given)) in
    given ∙ take_all (c.args.most + 1) text few_left

pub returns-in-Ok-clause-short : goal.returns-in-Ok-clause-short
returns-in-Ok-clause-short g c = λ text known few short.
    let given : c.read_all.new.bytes.items ≡ take (c.args.most + 1) text = c.in-Ok.ensures text known few ∙ ap (λ xs. xs ++ take (c.args.most + 1) text) c.new-bytes.ensures.items in
    let long : c.args.most < length c.read_all.new.bytes.items = grind (arith, common_steps, c.len.ensures, c.if-len-most.true) in
    absurd (omega (arith, long, short, sym (length-take (c.args.most + 1) text) ∙ ap length (sym given)))

use Rattle.std.proofs.Common.{◌∙◌, ap, take}
use Rattle.std.proofs.lemmas.List.{take_min}
use Rattle.bpf_asm.proofs.flaw.first_bytes.Goals as goal

pub returns : goal.returns
returns c = ap (λ n. take n c.args.line.now) c.min.ensures ∙ take_min 80 c.args.line.now

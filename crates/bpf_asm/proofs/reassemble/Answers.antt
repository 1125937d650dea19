use Rattle.std.proofs.Common.{◌≡◌, ◌∙◌, subst}
use Rattle.std.specs.Prelude.{Ok}
use Rattle.bpf_asm.specs.Text.{canonical_text}
use Rattle.bpf_asm.specs.Program.{assembled, IsRefused}
use Rattle.bpf_asm.proofs.EveryForm.{canon_spells, same_ok, only_memory}
use Rattle.bpf_asm.proofs.reassemble.Goals as goal

pub returns-in-Ok-assemble-clause-same : goal.returns-in-Ok-assemble-clause-same
returns-in-Ok-assemble-clause-same c =
    let code = c.args.code.now in
    let again = c.in-Ok-assemble.again in
    same_ok (assembled (canonical_text code)) again code
    (subst (λ t. assembled t ≡ Ok again) (c.as_bytes.ensures.value ∙ c.in-Ok.ensures) c.in-Ok-assemble.ensures.ok)
    (canon_spells code c.units-units.ensures.program)

pub returns-clause-refused : goal.returns-clause-refused
returns-clause-refused c =
    let code = c.args.code.now in
    only_memory (canonical_text code) code c.in-Err.fault (canon_spells code c.units-units.ensures.program)
    (subst (λ t. IsRefused t c.in-Err.fault) (c.as_bytes.ensures.value ∙ c.in-Ok.ensures) c.in-Err.ensures.refused)

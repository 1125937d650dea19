use Rattle.std.proofs.Common.{Ok, ap, subst, sym, ◌∙◌}
use Rattle.days.specs.declared.line.Line.TheVariants as lines
use Rattle.days.specs.Flaws.{IsLineFlaw}
use Rattle.days.proofs.reading.line_flaw.Goals as goal

pub returns-in-Ok-Version : goal.returns-in-Ok-Version
returns-in-Ok-Version c =
    subst (λ read. IsLineFlaw c.args.number read c.version_flaw.result)
    (sym (c.in-Ok-Version.ensures ∙ ap Ok c.in-Ok-Version.field-0-is))
    (subst (λ bytes. IsLineFlaw c.args.number
    (Ok (lines.Version c.in-Ok-Version.slot c.in-Ok-Version._version c.in-Ok-Version.mask c.in-Ok-Version.layout bytes)) c.version_flaw.result)
    c.as_slice.ensures (c.version_flaw.ensures c.in-Ok-Version._version))

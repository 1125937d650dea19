use Rattle.std.proofs.Common.{◌≡◌, ◌∙◌, subst, sym, true}
use Rattle.days.specs.Flaws.{Differs}
use Rattle.days.proofs.ReadWhole.{other_none, read_file}
use Rattle.days.proofs.reading.read_opening.Goals as goal

pub returns-clause-only : goal.returns-clause-only
returns-clause-only c = λ f good fits is. read_file c.args.text.now c.in-Ok.file f c.in-Ok.ensures.reads good fits is

pub returns-then-not-is_same-clause-flaw : goal.returns-then-not-is_same-clause-flaw
returns-then-not-is_same-clause-flaw c = λ wants. record {
  none = other_none c.args.text.now c.in-Ok.file c.in-Ok.ensures.reads
      (λ same. let yes : c.is_same.result ≡ true = c.is_same.ensures.1 (same ∙ sym (c.as_bytes.ensures.value ∙ c.in-Ok-opening_text.ensures)) in absurd (cc));
  read = c.in-Ok.file;
  reads = c.in-Ok.ensures.reads;
  good = c.in-Ok.ensures.good;
  differs = subst (λ other. Differs c.args.text.now other c.first_flaw.result)
      (c.as_bytes-then-not-is_same.ensures.value ∙ c.in-Ok-opening_text.ensures) c.first_flaw.ensures;
}

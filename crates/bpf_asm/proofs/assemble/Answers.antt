use Rattle.std.proofs.Common.{ℕ, List, map, Bor, sym, ap, ◌∙◌, subst}
use Rattle.bpf_asm.specs.declared.grammar.Line.{Line}
use Rattle.bpf_asm.specs.Program.{Row, row, AreInRange}
use Rattle.bpf_asm.specs.Sound.{AreSound}
use Rattle.bpf_asm.proofs.Sounding.{rows_sound}
use Rattle.bpf_asm.proofs.Assembling.{rows_right}
use Rattle.bpf_asm.proofs.assemble.Goals as goal

abbrev rows_at : List (Line × Bor (List ℕ)) → List Row
rows_at = map (λ (p : Line × Bor (List ℕ)). row p.0 p.1.now)

abbrev texts_at : List (Bor (List ℕ)) → List (List ℕ)
texts_at = map (λ (t : Bor (List ℕ)). t.now)

pub assemble_rows-requires-clause-fits : goal.assemble_rows-requires-clause-fits
assemble_rows-requires-clause-fits c =
    subst AreInRange (sym (ap rows_at c.as_slice-2.ensures.value ∙ c.in-Ok-rows_of.ensures.ok))
    (rows_right 1 (texts_at c.as_slice.result.now) c.in-Ok-rows_of.ensures.none)

pub assemble_rows-requires-clause-sound : goal.assemble_rows-requires-clause-sound
assemble_rows-requires-clause-sound c =
    subst AreSound (sym (ap rows_at c.as_slice-2.ensures.value ∙ c.in-Ok-rows_of.ensures.ok)) (rows_sound (texts_at c.as_slice.result.now))

use Rattle.std.proofs.Common.{◌≡◌, ◌<◌, ◌≤◌, ℕ, List, true, map, length, Bor, sym, ap, ◌∙◌, subst, rules}
use Rattle.bpf_model.specs.Making.{AreUnits}
use Rattle.bpf_asm.specs.declared.grammar.Line.{Line}
use Rattle.bpf_asm.specs.Program.{Row, Definition, row, definition, AreWithin}
use Rattle.bpf_asm.proofs.Assembling.{places_within, right_count, spelled_by, spelled_units, units_length}
use Rattle.bpf_asm.proofs.assemble_rows.Goals as goal

abbrev rows_at : List (Line × Bor (List ℕ)) → List Row
rows_at = map (λ (p : Line × Bor (List ℕ)). row p.0 p.1.now)

abbrev labels_at : List (Bor (List ℕ) × ℕ) → List Definition
labels_at = map (λ (d : Bor (List ℕ) × ℕ). definition d.0.now d.1)

pub units_of-requires-clause-places : goal.units_of-requires-clause-places
units_of-requires-clause-places c =
    let g : c.is_length.result ≡ true = search rules in
    let count = right_count (rows_at c.args.rows.now) c.units_in-count.result c.is_length.result c.units_in-count.ensures c.is_length.ensures g in
    subst (AreWithin 512) (sym (ap labels_at c.as_slice-2.ensures.value ∙ c.in-Ok.ensures)) (places_within (rows_at c.args.rows.now) count.1)

pub from_units-requires-clause-sound : goal.from_units-requires-clause-sound
from_units-requires-clause-sound c =
    let g : c.is_length.result ≡ true = search rules in
    let count = right_count (rows_at c.args.rows.now) c.units_in-count.result c.is_length.result c.units_in-count.ensures c.is_length.ensures g in
    subst (AreUnits true)
    (sym (spelled_by (rows_at c.args.rows.now) (labels_at c.as_slice-2.result.now) c.in-Ok-units_of.units.items (ap labels_at c.as_slice-2.ensures.value
    ∙ c.in-Ok.ensures) c.in-Ok-units_of.ensures))
    (spelled_units (rows_at c.args.rows.now) count.1 c.requires.fits c.requires.sound)

pub from_units-requires-clause-some : goal.from_units-requires-clause-some
from_units-requires-clause-some c =
    let g : c.is_length.result ≡ true = search rules in
    let count = right_count (rows_at c.args.rows.now) c.units_in-count.result c.is_length.result c.units_in-count.ensures c.is_length.ensures g in
    subst (λ n. 0 < n) (sym (ap length c.in-Ok-units_of.ensures ∙ units_length (labels_at c.as_slice-2.result.now) 0 (rows_at c.args.rows.now))) count.0

pub from_units-requires-clause-few : goal.from_units-requires-clause-few
from_units-requires-clause-few c =
    let g : c.is_length.result ≡ true = search rules in
    let count = right_count (rows_at c.args.rows.now) c.units_in-count.result c.is_length.result c.units_in-count.ensures c.is_length.ensures g in
    subst (λ n. n ≤ 512) (sym (ap length c.in-Ok-units_of.ensures ∙ units_length (labels_at c.as_slice-2.result.now) 0 (rows_at c.args.rows.now))) count.1

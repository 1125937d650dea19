-- The row of a decision has the fields of the context that the rule ran on.
use Rattle.std.proofs.Common.{◌≡◌, ◌≤◌, ◌<◌, ℕ, ◌+◌, ◌^◌, List, [], ◌∷◌, ◌++◌, length, drop, map, Option, refl, ap, arith, ◌∙◌}
use Rattle.std.specs.List.{AllByRecursion}
use Rattle.std.proofs.lemmas.Bool.{le-leb}
use Rattle.byteorder.specs.Endian.{little_bytes}
use Rattle.byteorder.specs.Numbers.{little_number-reads_back}
use Rattle.bpf_model.specs.declared.context.Layout.{Layout}
use Rattle.bpf_model.specs.declared.context.Layout.TheVariants as layout
use Rattle.bpf_model.specs.Layouts.{bytes_of}
use Rattle.decision_journal.specs.declared.entries.Run.{Run}
use Rattle.site_core.specs.declared.context.Field.{Field}
use Rattle.site_core.specs.declared.question.Question.{Question}
use Rattle.fuelling_point.specs.States.{state_number}
use Rattle.site_core.specs.State.{SiteState, busy_points, open_points, price_of}
use Rattle.site_core.specs.Context.{context, fields, further_fields, kind_number, laid, field_of_question_point, product_of, shared_fields}
use Rattle.day_export.specs.declared.cells.Cell.{Cell}
use Rattle.day_export.specs.declared.cells.Cell.TheVariants as cell
use Rattle.day_export.specs.Acts.{field_cell, number_at}
use Rattle.day_export.specs.Laws.{FitsField, RowsShowContexts, context_cells, cell_of_field}

-- If the `size` bytes at `offset` are those of the number x, least significant byte first, then `number_at` reads x
-- there.
read : (bytes rest : List ℕ) (offset size x : ℕ) → drop offset bytes ≡ little_bytes size x ++ rest → offset + size ≤ length bytes → x < 256 ^ size
    → number_at bytes offset size ≡ cell.Number x
read bytes rest offset size x there long fits =
    rw (le-leb (offset + size) (length bytes) long, there) (ap (λ n. cell.Number n) (little_number-reads_back size x rest fits))

abbrev laid-fields : SiteState → ℕ → ℕ → Question → List Field → List ℕ
laid-fields s till moment q more = laid (shared_fields s till moment q ++ more)

-- the cells of the fields that both layouts have, read from the bytes of a context
abbrev shared-cells : List ℕ → List Cell
shared-cells bytes =
    number_at bytes 0 4 ∷ number_at bytes 4 4 ∷ number_at bytes 8 4 ∷ number_at bytes 12 4 ∷ number_at bytes 16 4 ∷ number_at bytes 20 4
    ∷ number_at bytes 24 8 ∷ number_at bytes 32 8 ∷ number_at bytes 40 4 ∷ number_at bytes 44 4 ∷ number_at bytes 48 4 ∷ number_at bytes 52 4
    ∷ number_at bytes 56 8 ∷ []

shared-told : (s : SiteState) (till moment : ℕ) (q : Question) (more : List Field) → 64 ≤ length (laid-fields s till moment q more)
    → AllByRecursion FitsField (shared_fields s till moment q ++ more)
    → shared-cells (laid-fields s till moment q more) ≡ map cell_of_field (shared_fields s till moment q)
unfolding laid
shared-told s till moment q more big fits =
    let bytes = laid-fields s till moment q more in
    let p0 = read bytes _ 0 4 till refl (omega arith) fits.0 in
    let p1 = read bytes _ 4 4 q.point refl (omega arith) fits.1.0 in
    let p2 = read bytes _ 8 4 (kind_number q.kind) refl (omega arith) fits.1.1.0 in
    let p3 = read bytes _ 12 4 (field_of_question_point s q (λ p. state_number p.state)) refl (omega arith) fits.1.1.1.0 in
    let p4 = read bytes _ 16 4 (field_of_question_point s q (λ p. p.nozzle)) refl (omega arith) fits.1.1.1.1.0 in
    let p5 = read bytes _ 20 4 (product_of s q) refl (omega arith) fits.1.1.1.1.1.0 in
    let p6 = read bytes _ 24 8 q.asked refl (omega arith) fits.1.1.1.1.1.1.0 in
    let p7 = read bytes _ 32 8 moment refl (omega arith) fits.1.1.1.1.1.1.1.0 in
    let p8 = read bytes _ 40 4 (price_of s (product_of s q)) refl (omega arith) fits.1.1.1.1.1.1.1.1.0 in
    let p9 = read bytes _ 44 4 (busy_points s) refl (omega arith) fits.1.1.1.1.1.1.1.1.1.0 in
    let p10 = read bytes _ 48 4 (field_of_question_point s q (λ p. length p.unpaid)) refl (omega arith) fits.1.1.1.1.1.1.1.1.1.1.0 in
    let p11 = read bytes _ 52 4 q.slot refl (omega arith) fits.1.1.1.1.1.1.1.1.1.1.1.0 in
    let p12 = read bytes _ 56 8 s.cleared refl (omega arith) fits.1.1.1.1.1.1.1.1.1.1.1.1.0 in
    λ j. p0 j ∷ p1 j ∷ p2 j ∷ p3 j ∷ p4 j ∷ p5 j ∷ p6 j ∷ p7 j ∷ p8 j ∷ p9 j ∷ p10 j ∷ p11 j ∷ p12 j ∷ []

abbrev all-cells : List ℕ → List Cell
all-cells bytes = shared-cells bytes ++ number_at bytes 64 8 ∷ number_at bytes 72 4 ∷ []

layout-told : (layout : Layout) (s : SiteState) (till moment : ℕ) (q : Question) → AllByRecursion FitsField (fields layout s till moment q)
    → all-cells (bytes_of (context layout s till moment q)) ≡ context_cells layout s till moment q
unfolding laid context
layout-told layout.One s till moment q fits =
    ap (λ l. l ++ cell.Nothing ∷ cell.Nothing ∷ []) (shared-told s till moment q [] (omega arith) fits)
layout-told layout.Two s till moment q fits =
    let bytes = laid-fields s till moment q (further_fields s) in
    let shared = shared-told s till moment q (further_fields s) (omega arith) fits in
    let clears = read bytes _ 64 8 s.clears refl (omega arith) fits.1.1.1.1.1.1.1.1.1.1.1.1.1.0 in
    let open_ = read bytes _ 72 4 (open_points s) refl (omega arith) fits.1.1.1.1.1.1.1.1.1.1.1.1.1.1.0 in
    λ j. shared j ++ clears j ∷ open_ j ∷ []

-- the cells of a decision's row from the column `context_till` on: the fields of the context that the rule ran on
abbrev run-cells : Option Run → List Cell
run-cells run =
    field_cell run 0 4 ∷ field_cell run 4 4 ∷ field_cell run 8 4 ∷ field_cell run 12 4 ∷ field_cell run 16 4 ∷ field_cell run 20 4
    ∷ field_cell run 24 8 ∷ field_cell run 32 8 ∷ field_cell run 40 4 ∷ field_cell run 44 4 ∷ field_cell run 48 4
    ∷ field_cell run 52 4 ∷ field_cell run 56 8 ∷ field_cell run 64 8 ∷ field_cell run 72 4 ∷ []

pub telling : RowsShowContexts
telling layout s till moment q entry run is_granted ran is fits =
    ap run-cells ran ∙ ap (λ x. all-cells (bytes_of x)) is ∙ layout-told layout s till moment q fits

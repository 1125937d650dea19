use Rattle.std.proofs.Common.{◌≡◌, ◌++◌, ◌∷◌, ◌∙◌, [], ap, false}
use Rattle.serde_json.specs.Written.{compact_text, has_float}
use Rattle.serde_json.specs.View.{view}
use Rattle.day_export.specs.Cells.{columns}
use Rattle.day_export.specs.Text.{row_bytes}
use Rattle.day_export.proofs.NoFloats.{object-plain}
use Rattle.day_export.proofs.json_rows.line_of.Goals as goal

pub returns : goal.returns
unfolding row_bytes
returns c =
    let value = c.in_ok-object_of.ensures in
    let plain : has_float (view c.in_ok-object_of.field-0) ≡ false = ap has_float value ∙ object-plain (columns c.args.rows) c.args.cells.now in
    c.in_ok-push_str.ensures.bytes ∙ ap (λ t. t ++ 10 ∷ []) (c.in_ok-line.ensures.text plain ∙ ap compact_text value)

use Rattle.std.proofs.Common.{◌≡◌, [], Err, ap, ◌∙◌}
use Rattle.std.proofs.KnownBytes.{Appends-nil, Keeps-refl}
use Rattle.day_export.specs.declared.cells.Format.TheVariants as format
use Rattle.day_export.specs.Text.{header_bytes, row_texts}
use Rattle.day_export.proofs.Appending.{behind_header, handed_back}
use Rattle.day_export.proofs.writing.write_json.Goals as goal

pub returns-in-Err-OutOfMemory-clause-memory : goal.returns-in-Err-OutOfMemory-clause-memory
unfolding header_bytes
returns-in-Err-OutOfMemory-clause-memory g c after is =
    let out = c.in-Err-OutOfMemory in
    let same : c.put_rows.new.to.out ≡ after = cc is in
    handed_back g.W.Write.contents _ (row_texts c.args.rows format.Json c.args.sales.now c.args.entries.now) _ after same
    (behind_header _ _ _ _ [] _ (Appends-nil _) (c.put_rows.ensures.memory (out.is ∙ ap Err out.field-0-is)) (Keeps-refl _))

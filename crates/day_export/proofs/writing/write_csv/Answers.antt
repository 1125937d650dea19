use Rattle.std.proofs.Common.{◌≡◌, Err, ap, ◌∙◌}
use Rattle.day_export.specs.declared.cells.Format.TheVariants as format
use Rattle.day_export.specs.Text.{row_texts}
use Rattle.day_export.proofs.Appending.{behind_header, handed_back}
use Rattle.day_export.proofs.writing.write_csv.Goals as goal

pub returns-in_ok-finish-in-Err-OutOfMemory-clause-memory : goal.returns-in_ok-finish-in-Err-OutOfMemory-clause-memory
returns-in_ok-finish-in-Err-OutOfMemory-clause-memory g c after is =
    let out = c.in-Err-OutOfMemory in
    let same : c.in_ok-finish-in-Err-OutOfMemory.field-0 ≡ after = cc is in
    handed_back g.W.Write.contents _ (row_texts c.args.rows format.Csv c.args.sales.now c.args.entries.now) _ after same
    (behind_header _ _ _ _ _ _ c.in_ok-to.ensures.text (c.put_rows.ensures.memory (out.is ∙ ap Err out.field-0-is)) c.in_ok-finish-in-Err-OutOfMemory.ensures)

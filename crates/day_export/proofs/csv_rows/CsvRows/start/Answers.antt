use Rattle.day_export.specs.Text.{header_bytes}
use Rattle.day_export.proofs.Appending.{from-empty}
use Rattle.day_export.proofs.csv_rows.CsvRows.start.Goals as goal

pub returns-clause-text : goal.returns-clause-text
unfolding header_bytes
returns-clause-text g c =
    let from = c.from_writer-writer.ensures in
    from-empty _ _ _ _ from.empty (rw (from.wtr, c.in-Ok.ensures) at c.in_ok-write_record.ensures.text)

use Rattle.day_export.specs.Text.{row_bytes}
use Rattle.day_export.proofs.csv_rows.CsvRowsRowWriter.write_row.Goals as goal

pub returns-clause-text : goal.returns-clause-text
unfolding row_bytes
returns-clause-text g c = rw c.in_ok-fill_record.ensures at c.in_ok-write_record.ensures.text

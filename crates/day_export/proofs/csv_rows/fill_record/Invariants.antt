use Rattle.std.proofs.Common.{◌≡◌, [], map, take}
use Rattle.csv.specs.Records.{fields_of, partial_of}
use Rattle.day_export.specs.Cells.{cell_text}
use Rattle.day_export.proofs.csv_rows.fill_record.Given as goal

abbrev pub invariant-loop-cell : goal.invariant-loop-cell
invariant-loop-cell l = (fields_of l.row ≡ map cell_text (take l.cell-index l.cells)) × (partial_of l.row ≡ [])

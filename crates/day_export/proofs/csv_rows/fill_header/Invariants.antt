use Rattle.std.proofs.Common.{◌≡◌, [], map, take}
use Rattle.csv.specs.Records.{fields_of, partial_of}
use Rattle.day_export.proofs.csv_rows.fill_header.Given as goal

abbrev pub invariant-loop-name : goal.invariant-loop-name
invariant-loop-name l = (fields_of l.row ≡ map (λ name. name.now) (take l.name-index l.name-items)) × (partial_of l.row ≡ [])

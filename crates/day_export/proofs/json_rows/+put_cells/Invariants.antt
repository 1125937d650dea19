use Rattle.std.proofs.Common.{length}
use Rattle.day_export.proofs.json_rows.+put_cells.Given as goal

abbrev pub decreases-put_cells : goal.decreases-put_cells
decreases-put_cells l = length l.names.now

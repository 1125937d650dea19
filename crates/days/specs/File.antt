-- Definitions: what holds of an opening that is written to a file.
use Rattle.std.specs.Prelude.{◌≡◌, ◌≤◌, length, All}
use Rattle.fuelling_point.specs.Snapshot.{IsPointState}
use Rattle.site_core.specs.Opening.{IsOpening}
use Rattle.days.specs.declared.file.OpeningFile.{OpeningFile}

-- A site with as many fuelling points as the opening has can begin with this opening, and the values of each point are
-- in their ranges. The opening has the prices of 8 products, and is that of day 2 or of a later day.
pub record IsOpeningFile (f : OpeningFile) : Type 0 where
  pub day : 2 ≤ f.day
  pub opening : IsOpening (length f.opening.points) f.opening
  pub points : All IsPointState f.opening.points
  pub products : length f.opening.prices ≡ 8

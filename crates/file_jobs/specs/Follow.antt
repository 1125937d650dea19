-- Definitions: what is printed of days that are audited as they grow (source: this project).
use Rattle.std.specs.Prelude.{ℕ, List, ◌++◌, codes}
use Rattle.std.specs.Fmt.{decimal}

-- The line `legal DAY ENTRIES` for a day and the number of its entries.
abbrev pub day_text : ℕ → ℕ → List ℕ
day_text day entries = codes "legal " ++ (decimal day ++ (codes " " ++ (decimal entries ++ codes "\n")))

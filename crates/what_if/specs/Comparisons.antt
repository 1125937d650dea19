-- Promises: what a comparison has found, and what it has looked at.
use Rattle.std.specs.Prelude.{◌≡◌, List}
use Rattle.site_core.specs.State.{SiteState, view_of}
use Rattle.site_core.specs.Steps.{StepValue}
use Rattle.what_if.specs.Rows.{Found, found_in}
use Rattle.what_if.specs.declared.comparison.Comparison.{Comparison}

abbrev pub found_by : Comparison → Found
found_by c = record { rows = c.rows.items; own = c.own; misfit = c.misfit }

-- It has found what these steps show, and nothing else.
abbrev pub HasFound : Comparison → List StepValue → Type 0
HasFound c steps = found_by c ≡ found_in c.rule.now c.slot c.reading steps

-- It keeps the view and the counters of this state.
pub record HasLookedAt (c : Comparison) (before : SiteState) : Type 0 where
  pub view : c.view ≡ view_of before
  pub counters : c.counters ≡ before.counters

-- Definitions: the words that say why no opening for the next day can be made from a day's site, and why a site with a
-- given configuration can't begin with a given opening (source: this project).
use Rattle.std.specs.Prelude.{ℕ, ◌+◌, List, ◌++◌, codes, min}
use Rattle.std.specs.Fmt.{decimal}
use Rattle.fuelling_point.specs.declared.kinds.Transaction.{Transaction}
use Rattle.site_core.specs.Words.{opening_fault_text}
use Rattle.days.specs.declared.file.Uncarried.{Uncarried}
use Rattle.days.specs.declared.file.Uncarried.TheVariants.{LastDay, Fault}
use Rattle.days.specs.declared.fitting.Misfit.{Misfit}
use Rattle.days.specs.declared.fitting.Misfit.TheVariants as misfit
use Rattle.days.specs.declared.beginning.Unfit.{Unfit}
use Rattle.days.specs.declared.beginning.Unfit.TheVariants as unfit

abbrev pub uncarried_text : Uncarried → List ℕ
uncarried_text LastDay = codes "no day comes after day 4294967295"
uncarried_text (Fault fault) = opening_fault_text fault

-- The words for a transaction that is held by a till with a number over `tills`, the number of tills in the
-- configuration.
abbrev pub held_by_text : Transaction → ℕ → List ℕ
held_by_text t tills =
    codes "transaction " ++ (decimal t.number ++ (codes " is held by till " ++ (decimal t.holder ++ (codes ", 'tills' is " ++ decimal tills))))

-- The words for a counter's value in an opening, with its bound in the configuration.
abbrev pub over_bound_text : ℕ → ℕ → List ℕ
over_bound_text value bound = codes "has the value " ++ (decimal value ++ (codes ", its bound in the configuration is " ++ decimal bound))

-- The words for why an opening doesn't fit a configuration. They count points from 1; a point's number above 2^64 - 1
-- is written as 2^64 - 1.
abbrev pub misfit_text : Misfit → List ℕ
misfit_text (misfit.Point there at) =
    codes "point " ++ (decimal (min (min (there + at) 18446744073709551615 + 1) 18446744073709551615)
    ++ (codes " isn't closed or has unpaid transactions, the configuration has " ++ (decimal there ++ codes " points")))
misfit_text (misfit.Till at t tills) = codes "point " ++ (decimal (min (at + 1) 18446744073709551615) ++ (codes ": " ++ held_by_text t tills))
misfit_text (misfit.Counter c value bound) = codes "counter " ++ (decimal c ++ (codes " " ++ over_bound_text value bound))

abbrev pub unfit_text : Unfit → List ℕ
unfit_text (unfit.Misfit why) = misfit_text why
unfit_text (unfit.Fault fault) = opening_fault_text fault

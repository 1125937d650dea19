-- No site of a configuration begins with an opening in these two cases:
-- - The opening doesn't fit the configuration.
-- - The opening fits. Let the changed opening be the same opening, except that each counter has its bound from the
--   configuration, and that there are as many points. No site of as many points can begin with the changed opening.
-- There is at most one way for a site of a configuration to begin with an opening.
use Rattle.std.proofs.Common.{◌≡◌, ℕ, ◌<◌, ◌≤◌, List, [], ◌∷◌, length, Option, Some, None, false, sym, ap, ◌∙◌, subst, arith, refl}
use Rattle.std.specs.Prelude.{All, IfSome, drop, nat_lt, slice_index_or}
use Rattle.std.proofs.lemmas.Bool.Decides.{nat_tests}
use Rattle.std.proofs.lemmas.List.{ext_get_or}
use Rattle.std.proofs.lemmas.List.Elements.{All-head, All-tail}
use Rattle.std.proofs.lemmas.Option.{slice_get-get_or}
use Rattle.bpf_model.specs.Machine.{Counters, counter}
use Rattle.fuelling_point.specs.Table.{PointState, fresh_point}
use Rattle.fuelling_point.specs.declared.kinds.Transaction.{Transaction}
use Rattle.site_core.specs.Limits.{ConfigValue}
use Rattle.site_core.specs.Opening.{IsOpening, OpeningValue}
use Rattle.site_core.specs.Fitting.{Misfits as IsFaulty}
use Rattle.site_core.specs.declared.opening.OpeningFault.{OpeningFault}
use Rattle.site_core.specs.declared.opening.OpeningFault.TheVariants as fault
use Rattle.days.specs.Fitting.{AreBounded, BeginsWith, Fits, HasTill, MayGo, refitted}
use Rattle.days.specs.Misfits.{CannotBegin, IsHeldOver, IsKept, IsUnfit, IsOutOfMemory, Misfits, first_held}
use Rattle.days.specs.declared.beginning.Unfit.{Unfit}
use Rattle.days.specs.declared.beginning.Unfit.TheVariants as unfit
use Rattle.days.specs.declared.fitting.Misfit.{Misfit}
use Rattle.days.specs.declared.fitting.Misfit.TheVariants as misfit

over_none : (value bound least : ℕ) (v : ℕ) → value ≡ v → bound ≡ least → bound < value → v ≤ least → ⊥
over_none value bound least v a b over within = omega (arith, a, b, over, within)

-- if each transaction is held by nobody or by one of the tills 1 to `tills`, then `first_held` finds none
found_not : (tills : ℕ) (ts : List Transaction) → All (HasTill tills) ts → first_held tills ts ≡ None
found_not tills [] all = refl
found_not tills (u ∷ ts) all =
    let within : u.holder ≤ tills = All-head (HasTill tills) u ts all in
    let test : nat_lt tills u.holder ≡ false = grind (arith, nat_tests) in
    rw test (found_not tills ts (All-tail (HasTill tills) u ts all))

till_none : (config : ConfigValue) (o : OpeningValue) (at : ℕ) (t : Transaction) (tills : ℕ) → tills ≡ config.tills → IsHeldOver tills o.points at t
    → Fits config o → ⊥
till_none config o at t tills is there fits =
    let found : first_held tills (slice_index_or o.points at fresh_point).unpaid ≡ Some t =
    subst (λ (p : Option PointState). IfSome p (λ (p : PointState). first_held tills p.unpaid ≡ Some t))
    (slice_get-get_or o.points at fresh_point there.within) there.held in
    let none : first_held tills (slice_index_or o.points at fresh_point).unpaid ≡ None =
    found_not tills (slice_index_or o.points at fresh_point).unpaid
    (subst (λ n. All (HasTill n) (slice_index_or o.points at fresh_point).unpaid) (sym is) (fits.tills at fresh_point there.within)) in
    let e : ◌≡◌ {A = Option Transaction} None (Some t) = sym none ∙ found in absurd (cc)

kept_none : (points : List PointState) (at : ℕ) → IsKept points at → All MayGo points → ⊥
kept_none points at kept all = kept.kept (all at fresh_point kept.within)

pub misfit_none : (config : ConfigValue) (o : OpeningValue) (m : Misfit) → Misfits config o m → Fits config o → ⊥
misfit_none config o (misfit.Point there at) h fits = kept_none (drop (length config.points) o.points) at h.1 fits.points
misfit_none config o (misfit.Till at t tills) h fits = till_none config o at t tills h.1 h.2 fits
misfit_none config o (misfit.Counter c value bound) h fits =
    over_none value bound (counter config.counters c).1 (counter o.counters c).0 h.2.1 h.2.2 h.2.3 (fits.counters c h.2.0)

pub faulty_none : (count : ℕ) (o : OpeningValue) (f : OpeningFault) → IsFaulty count o f → IsOpening count o → f ≡ fault.OutOfMemory
faulty_none count o fault.Points h good = absurd (h.1 good.points)
faulty_none count o fault.Prices h good = absurd (h.1 good.prices)
faulty_none count o fault.Transactions h good = absurd (h.1 good.last)
faulty_none count o fault.Cleared h good = absurd (h.1 good.cleared)
faulty_none count o fault.Clears h good = absurd (h.1 good.clears)
faulty_none count o fault.Versions h good = absurd (h.1 good.versions)
faulty_none count o fault.Slots h good = absurd (h.1 good.slots)
faulty_none count o fault.Rules h good = absurd (h.1 good.rules)
faulty_none count o fault.DuplicateVersion h good = absurd (h.1 good.distinct)
faulty_none count o fault.OutOfMemory h good = refl

-- there is at most one list of 32 counters that has these values and these bounds
cells_once : (values bounds a b : Counters) → AreBounded values bounds a → AreBounded values bounds b → length a ≡ 32 → length b ≡ 32 → a ≡ b
cells_once values bounds a b h k long same = ext_get_or (0, 0) a b (long ∙ sym same) (λ c lt. h c (omega (arith, long, lt)) ∙ sym (k c (omega (arith, long, lt))))

pub unfit_none : (config : ConfigValue) (o : OpeningValue) (u : Unfit) → IsUnfit config o u → (IsOutOfMemory u → ⊥) → CannotBegin config o
unfit_none config o (unfit.Misfit m) h wants begun b = misfit_none config o m h b.0
unfit_none config o (unfit.Fault f) h wants begun b =
    let k = h.1 in
    let count = length config.points in
    let same : b.1.0 ≡ k.0 = cells_once o.counters config.counters b.1.0 k.0 b.1.1 k.1 b.1.2.counters.many k.2 in
    wants (ap (λ x. unfit.Fault x) (faulty_none count (refitted count o k.0) f k.3
    (subst (λ (cells : Counters). IsOpening count (refitted count o cells)) same b.1.2)))

pub begins_once : (config : ConfigValue) (o : OpeningValue) (a b : ConfigValue) → BeginsWith config o a → BeginsWith config o b → a ≡ b
begins_once config o a b h k =
    let same : h.1.0 ≡ k.1.0 = cells_once o.counters config.counters h.1.0 k.1.0 h.1.1 k.1.1 h.1.2.counters.many k.1.2.counters.many in
    h.1.3 ∙ ap (λ (cells : Counters). record config { opening = Some (refitted (length config.points) o cells) }) same ∙ sym k.1.3

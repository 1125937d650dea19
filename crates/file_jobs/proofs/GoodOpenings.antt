-- A good opening is refused only for want of memory.
use Rattle.std.proofs.Common.{◌≡◌, ℕ, List, refl, ap}
use Rattle.site_core.specs.declared.opening.OpeningFault.{OpeningFault}
use Rattle.site_core.specs.declared.opening.OpeningFault.TheVariants as fault
use Rattle.days.specs.Flaws.{HasNoOpening, IsFlaw}
use Rattle.days.specs.Misfits.{IsOutOfMemory}
use Rattle.days.specs.declared.beginning.Unfit.{Unfit}
use Rattle.days.specs.declared.beginning.Unfit.TheVariants as unfit
use Rattle.days.specs.declared.file.OpeningFlaw.{OpeningFlaw}
use Rattle.days.specs.declared.file.OpeningFlaw.TheVariants as flaw

pub flaw_is_memory : (text : List ℕ) (f : OpeningFlaw) → IsFlaw text f → ¬ HasNoOpening text → f ≡ flaw.OutOfMemory
flaw_is_memory text (flaw.BadLine n) is some = absurd (some (is (λ e. absurd (cc))).none)
flaw_is_memory text (flaw.Ends n) is some = absurd (some (is (λ e. absurd (cc))).none)
flaw_is_memory text (flaw.CutLine n) is some = absurd (some (is (λ e. absurd (cc))).none)
flaw_is_memory text (flaw.BadProgram n slot program refusal) is some = absurd (some (is (λ e. absurd (cc))).none)
flaw_is_memory text flaw.OutOfMemory is some = refl

fault_is_memory : (f : OpeningFault) → ¬ ¬ (f ≡ fault.OutOfMemory) → f ≡ fault.OutOfMemory
fault_is_memory fault.Points h = absurd (h (λ e. cc))
fault_is_memory fault.Prices h = absurd (h (λ e. cc))
fault_is_memory fault.Transactions h = absurd (h (λ e. cc))
fault_is_memory fault.Cleared h = absurd (h (λ e. cc))
fault_is_memory fault.Clears h = absurd (h (λ e. cc))
fault_is_memory fault.Versions h = absurd (h (λ e. cc))
fault_is_memory fault.Slots h = absurd (h (λ e. cc))
fault_is_memory fault.Rules h = absurd (h (λ e. cc))
fault_is_memory fault.DuplicateVersion h = absurd (h (λ e. cc))
fault_is_memory fault.OutOfMemory h = refl

pub unfit_is_memory : (u : Unfit) → ¬ ¬ IsOutOfMemory u → IsOutOfMemory u
unfit_is_memory (unfit.Misfit m) h = absurd (h (λ e. cc))
unfit_is_memory (unfit.Fault f) h = ap (λ x. unfit.Fault x) (fault_is_memory f (λ no. h (λ e. no (cc))))

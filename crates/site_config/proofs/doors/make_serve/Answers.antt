use Rattle.std.proofs.Common.{◌≡◌, ℤ, length, ap, Err, FitsSigned, w64, refl, rules}
use Rattle.std.proofs.lemmas.Int.{to_z-of_z}
use Rattle.site_config.specs.declared.flaw.ConfigFlaw.TheVariants.{OutOfMemory}
use Rattle.site_config.specs.Doors.{serve_of}
use Rattle.site_config.proofs.Making.{all_made, with_doors}
use Rattle.site_config.proofs.doors.make_serve.Goals as goal

pub returns-in-Err-make_doors-clause-memory : goal.returns-in-Err-make_doors-clause-memory
unfolding serve_of
returns-in-Err-make_doors-clause-memory c = λ is.
    let idle : ℤ = c.args.served.now.idle_seconds in
    let lines : ℤ = c.args.served.now.lines_per_second in
    let short : FitsSigned w64 idle = search rules in
    let few : FitsSigned w64 lines = search rules in
    let fit = rw c.deref.ensures.value at c.in-Ok.ensures.read in
    let taken : c.in-Err-make_doors.flaw ≡ OutOfMemory = cc in
    rw (
      fit,
      rw c.deref-2.ensures.value at c.in-Ok-check_apart.ensures.read,
      c.in-Ok-shared_of.ensures.read,
      c.in-Ok-shared_of-2.ensures.read,
      c.in-Ok-connections_of.ensures.read,
      rw (to_z-of_z w64 idle short) at c.in-Ok-number_of.ensures.read,
      rw (to_z-of_z w64 lines few) at c.in-Ok-number_of-2.ensures.read,
      rw c.deref-3.ensures.value at c.in-Ok-page_of.ensures.read,
      c.in-Ok-day_ends_of.ensures.read,
      c.in-Ok-zone_of.ensures.read,
      rw c.deref-4.ensures.value at c.in-Ok-check_side.ensures.read,
      rw c.deref-5.ensures.value at c.in-Ok-check_side-2.ensures.read,
    )
    (with_doors _ (length c.args.served.now.doors.items) _ (λ ds. refl)
    (rw c.deref-6.ensures.value at c.in-Err-make_doors.ensures.memory (ap Err taken)) (all_made _ _ fit))

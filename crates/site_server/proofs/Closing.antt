-- A close of a forecourt is tried with the passes that all workers returned. If it succeeds, then the site was served
-- by the plan, and closed (`IsServed`). If it is refused, then the workers returned all passes, and the close with them
-- was refused with the fault that is returned (`ServingFails`).
use Rattle.std.proofs.Common.{◌≡◌, ℕ, ◌<◌, ◌+◌, List, length, slice_index_or, Option, None, true, false, Result, Ok, Err, IfOk, IfErr, ap, subst, sym, arith}
use Rattle.std.proofs.lemmas.List.{length-map}
use Rattle.site_core.specs.Site.{SiteValue}
use Rattle.site_lock.specs.Closing.{ClosesSince}
use Rattle.site_lock.specs.Passes.{PassView, Opened, new_pass}
use Rattle.site_lock.specs.Merge.{AreAll}
use Rattle.site_server.specs.Plans.{Plan}
use Rattle.site_server.specs.Ending.{HaveWorked, IsReturned, IsServed, RefusesWithFault, ServingFails, StaysUnclosed}
use Rattle.site_server.specs.Tasks.{Fills}
use Rattle.site_server.specs.declared.serving.ServeFault.{ServeFault}
use Rattle.site_server.specs.declared.serving.ServeFault.TheVariants.{OutOfMemory, TooFewThreads, Journal, NotClosed}

pub if_ok_both : {T E : Type 0} (P Q R : T → Type 0) (r : Result T E) → ((x : T) → P x → Q x → R x) → IfOk r P → IfOk r Q → IfOk r R
if_ok_both P Q R (Ok x) more h k = more x h k
if_ok_both P Q R (Err e) more h k = h

pub if_err_more : {T E : Type 0} (P Q : E → Type 0) (r : Result T E) → ((e : E) → P e → Q e) → IfErr r P → IfErr r Q
if_err_more P Q (Ok x) more h = h
if_err_more P Q (Err e) more h = more e h

-- If a close with these passes succeeds, then the site was served by the plan, and closed (`IsServed`). If the close is
-- refused with a fault, and `passes` has all passes of the forecourt, each once, then serving failed with this fault
-- (`ServingFails`). The forecourt must have started with `from`, as the plan says. Workers of the plan must have
-- returned `passes`, and `clean` of their connections, at all workers, must have ended without a SessionFault.
module _ (plan : Plan) (from : Opened) (same : from ≡ plan.from) (passes : List PassView) (clean : ℕ) (worked : HaveWorked plan passes clean) where
  pub leaves_so : (counted : ℕ) (site : SiteValue) (written : Option (List ℕ)) → counted ≡ clean → ClosesSince from passes site written
      → IsServed plan counted site written
  leaves_so counted site written is h = record {
    passes = passes;
    closes = subst (λ (o : Opened). ClosesSince o passes site written) same h;
    worked = subst (λ (n : ℕ). HaveWorked plan passes n) (sym is) worked;
  }

  refused_so : (fault : ServeFault) → AreAll plan.from.passes passes → RefusesWithFault from plan.may_fail passes fault → StaysUnclosed plan fault
  refused_so fault all h = record {
    passes = passes;
    clean = clean;
    all = all;
    worked = worked;
    refused = subst (λ (o : Opened). RefusesWithFault o plan.may_fail passes fault) same h;
  }

  pub spoils_so : (fault : ServeFault) → AreAll plan.from.passes passes → RefusesWithFault from plan.may_fail passes fault → ServingFails plan fault
  spoils_so OutOfMemory all h = tt
  spoils_so TooFewThreads all h = tt
  spoils_so Journal all h = refused_so Journal all h
  spoils_so (NotClosed why) all h = refused_so (NotClosed why) all h

-- workers that serve without end, and can't be asked to stop, never return their passes
never_returned : (plan : Plan) (k : ℕ) (done : PassView × ℕ) → plan.shift.connections ≡ None → plan.shift.may_stop ≡ false → IsReturned plan k done → ⊥
never_returned plan k done endless stays h =
    let stops : plan.shift.may_stop ≡ true = subst (λ (c : Option ℕ). Fills c plan.shift.may_stop (length h.3.outcomes)) endless h.3.all_asked in
    absurd (cc)

pub never_return : (plan : Plan) (workers : ℕ) (passes : List PassView) (clean : ℕ) → plan.shift.connections ≡ None → plan.shift.may_stop ≡ false → 0 < workers
    → HaveWorked plan passes clean → AreAll workers passes → ⊥
never_return plan workers passes clean endless stays some worked all =
    let many = length-map worked.done (λ (d : PassView × ℕ). d.0) in
    never_returned plan 0 (slice_index_or worked.done 0 (new_pass 1, 0)) endless stays
    (worked.each 0 (new_pass 1, 0) (omega (arith, some, all.0, ap length worked.passes_are, many)))

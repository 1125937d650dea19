-- Promises: what holds when the serving of a site ends, with a closed site or with a fault.
use Rattle.std.specs.Prelude.{◌≡◌, ℕ, ◌+◌, ◌-◌, ◌^◌, ◌<◌, min, Bool, true, false, List, [], ◌∷◌, length, map, slice_get, slice_index_or, Option, Some, if◌then◌else◌}
use Rattle.till_request.specs.declared.act.Role.{Role}
use Rattle.site_core.specs.Site.{SiteValue}
use Rattle.site_lock.specs.declared.close.CloseRefusal.{CloseRefusal}
use Rattle.site_lock.specs.Passes.{PassView, Opened, new_pass}
use Rattle.site_lock.specs.Closing.{ClosesSince, HaltedValue, IsHalted, RefusesSince}
use Rattle.site_lock.specs.Merge.{AreAll}
use Rattle.site_server.specs.declared.crew.Worker.{Worker}
use Rattle.site_server.specs.declared.shift.Shift.{Shift}
use Rattle.site_server.specs.Collecting.{AreWaiting}
use Rattle.site_server.specs.Crews.{roles_of}
use Rattle.site_server.specs.Plans.{Plan}
use Rattle.site_server.specs.Tasks.{Worked}
use Rattle.site_server.specs.declared.serving.ServeFault.{ServeFault}
use Rattle.site_server.specs.declared.serving.ServeFault.TheVariants.{OutOfMemory, TooFewThreads, Journal, NotClosed}

-- `IsReturned plan k done`: the worker with pass k + 1 served its connections, in the plan's role at place k. It
-- returned `done`: its pass, and how many of these connections ended without a SessionFault.
abbrev pub IsReturned : Plan → ℕ → PassView × ℕ → Type 0
IsReturned plan k done =
    (done.0.id ≡ k + 1) × (role : Role) × (slice_get plan.roles k ≡ Some role)
    × Worked plan.from plan.may_fail plan.day role plan.shift done.1 (new_pass (k + 1)) done.0

-- the list has what the workers with the passes 1, 2, 3 and so on returned, in this order
abbrev pub AreReturned : Plan → List (PassView × ℕ) → Type 0
AreReturned plan done = (k : ℕ) (d : PassView × ℕ) → k < length done → IsReturned plan k (slice_index_or done k d)

-- the number of connections that ended without a SessionFault, at all workers
abbrev pub all_clean : List (PassView × ℕ) → ℕ
all_clean [] = 0
all_clean (d ∷ done) = d.1 + all_clean done

-- Workers of the plan served their connections, and returned `passes`. In all, `clean` of these connections ended
-- without a SessionFault, or more if it is 2^64 - 1.
pub record HaveWorked (plan : Plan) (passes : List PassView) (clean : ℕ) : Type 0 where
  pub done : List (PassView × ℕ)
  pub passes_are : passes ≡ map (λ (d : PassView × ℕ). d.0) done
  pub each : AreReturned plan done
  pub counted : clean ≡ min (all_clean done) (2 ^ 64 - 1)

-- What running all tasks gives. If the tasks held new passes and their workers, then the workers have served their
-- connections, at a forecourt that started with `from`. The result is all these passes, and how many of the connections
-- ended without a SessionFault.
abbrev pub RunsAllTasks : Opened → Type 0 → ℕ → Shift → List (Option (PassView × Worker)) → List PassView → ℕ → Type 0
RunsAllTasks from may_fail day shift tasks passes clean =
    (workers : List Worker) → AreWaiting workers tasks
    → HaveWorked (record { from = from; may_fail = may_fail; day = day; roles = roles_of workers; shift = shift }) passes clean
    × AreAll (length workers) passes

-- Workers of this plan served a site, and the site was closed. In all, `clean` of their connections ended without a
-- SessionFault. The site's history is the one at the start, followed by the entries that the passes have receipts of.
-- While the site was served, the journal took exactly the text of the entries that have receipts.
pub record IsServed (plan : Plan) (clean : ℕ) (site : SiteValue) (written : Option (List ℕ)) : Type 0 where
  pub passes : List PassView
  pub closes : ClosesSince plan.from passes site written
  pub worked : HaveWorked plan passes clean

-- A forecourt that started with `from` refused a close with these passes, for the reason `why`. `journal_has_failed`
-- says whether the forecourt's journal had failed.
pub record RefusesClose (from : Opened) (may_fail : Type 0) (passes : List PassView) (journal_has_failed : Bool) (why : CloseRefusal) : Type 0 where
  pub forecourt : HaltedValue
  pub opened_is : forecourt.opened ≡ from
  pub halted : IsHalted may_fail forecourt
  pub stopped_is : forecourt.locked_site.journal_failed ≡ journal_has_failed
  pub refused : RefusesSince forecourt passes why

-- the fault that is returned for a refused close: `Journal` if the journal failed, or else the refusal
abbrev pub fault_of_close : CloseRefusal → Bool → ServeFault
fault_of_close why journal_has_failed = if journal_has_failed then Journal else NotClosed why

-- A close with these passes was refused. The fault is `Journal` exactly if the journal had failed.
abbrev pub RefusesWithFault : Opened → Type 0 → List PassView → ServeFault → Type 0
RefusesWithFault from may_fail passes OutOfMemory = ⊥
RefusesWithFault from may_fail passes TooFewThreads = ⊥
RefusesWithFault from may_fail passes Journal = (why : CloseRefusal) × RefusesClose from may_fail passes true why
RefusesWithFault from may_fail passes (NotClosed why) = RefusesClose from may_fail passes false why

-- The workers returned all passes, but the close with these passes was refused with `fault`: their receipts differ from
-- the history.
pub record StaysUnclosed (plan : Plan) (fault : ServeFault) : Type 0 where
  pub passes : List PassView
  pub clean : ℕ
  pub all : AreAll plan.from.passes passes
  pub worked : HaveWorked plan passes clean
  pub refused : RefusesWithFault plan.from plan.may_fail passes fault

-- What holds if serving ended with this fault:
-- - `OutOfMemory` or `TooFewThreads`: nothing is claimed.
-- - `Journal` or `NotClosed`: the workers returned all passes, but the close with them was refused.
abbrev pub ServingFails : Plan → ServeFault → Type 0
ServingFails plan OutOfMemory = Unit {0}
ServingFails plan TooFewThreads = Unit {0}
ServingFails plan Journal = StaysUnclosed plan Journal
ServingFails plan (NotClosed why) = StaysUnclosed plan (NotClosed why)

-- serving ended with this fault before any connection was served
abbrev pub NeverServes : ServeFault → Type 0
NeverServes OutOfMemory = Unit {0}
NeverServes TooFewThreads = Unit {0}
NeverServes Journal = ⊥
NeverServes (NotClosed why) = ⊥

-- Promises: the data in the workers' tasks. Before a task has run, it has a worker and the worker's pass. After that,
-- it has the pass, and the number of connections that ended without a SessionFault.
use Rattle.std.specs.Prelude.{◌≡◌, ℕ, ◌+◌, ◌<◌, List, [], ◌∷◌, length, slice_get, slice_index_or, Option, Some, None}
use Rattle.site_lock.specs.Passes.{PassView, Opened, new_pass}
use Rattle.site_server.specs.declared.crew.Worker.{Worker}
use Rattle.site_server.specs.declared.shift.Shift.{Shift}
use Rattle.site_server.specs.Crews.{IsCrew}
use Rattle.site_server.specs.Tasks.{Worked}

-- There is one task for each worker. The task at place k, counted from 0, holds the worker at place k, and a new pass
-- with the number k + 1.
abbrev pub AreWaiting : List Worker → List (Option (PassView × Worker)) → Type 0
AreWaiting workers tasks =
    (length tasks ≡ length workers)
    × ((k : ℕ) (d : Option (PassView × Worker)) → k < length workers
    → (worker : Worker) × (slice_get workers k ≡ Some worker) × (slice_index_or tasks k d ≡ Some (new_pass (k + 1), worker)))

-- these are the tasks of a crew of 1 to 96 workers, and none of them has run yet
abbrev pub HasCrew : List (Option (PassView × Worker)) → Type 0
HasCrew tasks = (workers : List Worker) × IsCrew (length workers) × AreWaiting workers tasks

-- A task ran. If it held a pass and a worker before:
-- - The connections of a shift were served with the pass, in the worker's role (`Worked`).
-- - The task now holds the pass, and the number of these connections that ended without a SessionFault.
abbrev pub RunsWorker : Opened → Type 0 → ℕ → Shift → Option (PassView × Worker) → Option (PassView × ℕ) → Type 0
RunsWorker f may_fail day shift None after = Unit {0}
RunsWorker f may_fail day shift (Some w) None = ⊥
RunsWorker f may_fail day shift (Some w) (Some d) = (d.0.id ≡ w.0.id) × Worked f may_fail day w.1.role shift d.1 w.0 d.0

-- What a worker's thread returned is `after`, if it served at all: where the site isn't served, it returns None.
abbrev pub MayRunWorker : Opened → Type 0 → ℕ → Shift → Option (PassView × Worker) → Option (PassView × ℕ) → Type 0
MayRunWorker f may_fail day shift before None = Unit {0}
MayRunWorker f may_fail day shift before (Some done) = RunsWorker f may_fail day shift before (Some done)

-- Each of these tasks ran. `waiting` is what they held before, and `done` what they hold now.
abbrev pub RunEach : Opened → Type 0 → ℕ → Shift → List (Option (PassView × Worker)) → List (Option (PassView × ℕ)) → Type 0
RunEach f may_fail day shift [] [] = Unit {0}
RunEach f may_fail day shift [] (after ∷ done) = ⊥
RunEach f may_fail day shift (before ∷ waiting) [] = ⊥
RunEach f may_fail day shift (before ∷ waiting) (after ∷ done) =
    RunsWorker f may_fail day shift before after × RunEach f may_fail day shift waiting done

-- the passes of the finished tasks, in the order of the tasks
abbrev pub collected : List (Option (PassView × ℕ)) → List PassView
collected [] = []
collected (None ∷ tasks) = collected tasks
collected (Some d ∷ tasks) = d.0 ∷ collected tasks

-- the number of a task's connections that ended without a SessionFault; 0 if the task isn't finished
abbrev pub clean_at : Option (PassView × ℕ) → ℕ
clean_at None = 0
clean_at (Some d) = d.1

-- the number of connections that ended without a SessionFault, in all finished tasks together
abbrev pub clean_in : List (Option (PassView × ℕ)) → ℕ
clean_in [] = 0
clean_in (task ∷ tasks) = clean_at task + clean_in tasks

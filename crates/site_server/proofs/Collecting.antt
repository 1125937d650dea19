-- What is collected from the finished tasks is what the workers returned: their passes, and how many connections ended
-- without a SessionFault.
use Rattle.std.proofs.Common.{◌≡◌, ℕ, ◌+◌, ◌<◌, List, [], ◌∷◌, ◌++◌, length, map, slice_index_or, Option, Some, None, slice_get, refl, sym, ◌∙◌, ap, subst}
use Rattle.std.proofs.Common.{◌-◌, ◌^◌, min, arith, zero, suc}
use Rattle.std.proofs.lemmas.List.{length-map}
use Rattle.std.proofs.lemmas.Slice.Zip.{length-zip}
use Rattle.std.specs.List.{zip}
use Rattle.std.specs.Option.{option_map}
use Rattle.site_lock.specs.Merge.{AreAll}
use Rattle.site_lock.specs.Passes.{PassView, Opened, new_pass, AreNew}
use Rattle.site_server.specs.declared.crew.Worker.{Worker}
use Rattle.site_server.specs.declared.shift.Shift.{Shift}
use Rattle.site_server.specs.Crews.{roles_of}
use Rattle.site_server.specs.Plans.{Plan}
use Rattle.site_server.specs.Ending.{IsReturned, AreReturned, HaveWorked, all_clean}
use Rattle.site_server.specs.Collecting.{AreWaiting, RunEach, RunsWorker, collected, clean_in}
use Rattle.site_server.specs.Tasks.{Worked}
use Rattle.site_server.proofs.Numbering.{all_worked}

-- the results of the finished tasks, in the order of the tasks; an unfinished task is None and has no result
abbrev pub results : List (Option (PassView × ℕ)) → List (PassView × ℕ)
results [] = []
results (None ∷ tasks) = results tasks
results (Some r ∷ tasks) = r ∷ results tasks

handed_first : (tasks : List (Option (PassView × ℕ))) → collected tasks ≡ map (λ (x : PassView × ℕ). x.0) (results tasks)
handed_first [] = refl
handed_first (None ∷ tasks) = handed_first tasks
handed_first (Some r ∷ tasks) = ap (λ (ps : List PassView). r.0 ∷ ps) (handed_first tasks)

clean_first : (tasks : List (Option (PassView × ℕ))) → clean_in tasks ≡ all_clean (results tasks)
clean_first [] = refl
clean_first (None ∷ tasks) = omega (arith, clean_first tasks)
clean_first (Some r ∷ tasks) = ap (λ (n : ℕ). r.1 + n) (clean_first tasks)

abbrev IsNone : {A : Type 0} → Option A → Type 0
IsNone None = Unit {0}
IsNone (Some p) = ⊥

none_is : {A : Type 0} (k : ℕ) (p : A) → slice_get [] k ≡ Some p → ⊥
none_is {A} k p is = subst (λ (o : Option A). IsNone o) is tt

role_at : (workers : List Worker) (k : ℕ) (worker : Worker) → slice_get workers k ≡ Some worker → slice_get (roles_of workers) k ≡ Some worker.role
role_at [] k worker is = absurd (none_is k worker is)
role_at (first ∷ workers) zero worker is = ap (λ (o : Option Worker). option_map (λ (w : Worker). w.role) o) is
role_at (first ∷ workers) (suc k) worker is = role_at workers k worker is

module _ (may_fail : Type 0) (day : ℕ) (workers : List Worker) (shift : Shift) (from own : Opened) (same : from ≡ own) where
  -- the plan by which the site is served
  abbrev pub plan : Plan
  plan = record { from = from; may_fail = may_fail; day = day; roles = roles_of workers; shift = shift }

  -- `AllBack b tasks`: all tasks are finished. The first has the result of the worker with pass b + 1, the second that
  -- of the worker with pass b + 2, and so on.
  abbrev pub AllBack : ℕ → List (Option (PassView × ℕ)) → Type 0
  AllBack b [] = Unit {0}
  AllBack b (None ∷ tasks) = ⊥
  AllBack b (Some r ∷ tasks) = IsReturned plan b r × AllBack (b + 1) tasks

  one_back : (b : ℕ) (worker : Worker) (y : Option (PassView × ℕ)) (rest : List (Option (PassView × ℕ))) → slice_get workers b ≡ Some worker
      → RunsWorker own may_fail day shift (Some (new_pass (b + 1), worker)) y → AllBack (b + 1) rest → AllBack b (y ∷ rest)
  one_back b worker None rest at h more = absurd h
  one_back b worker (Some r) rest at h more = (
    (
      h.0,
      worker.role,
      role_at workers b worker at,
      subst (λ (o : Opened). Worked o may_fail day worker.role shift r.1 (new_pass (b + 1)) r.0) (sym same) h.1,
    ),
    more,
  )

  -- `WaitsAt tasks k n e`: the task at place k holds the worker at place n, and a new pass with the number n + 1. If
  -- there is no place k, `e` is taken for the task.
  abbrev WaitsAt : List (Option (PassView × Worker)) → ℕ → ℕ → Option (PassView × Worker) → Type 0
  WaitsAt tasks k n e = (worker : Worker) × (slice_get workers n ≡ Some worker) × (slice_index_or tasks k e ≡ Some (new_pass (n + 1), worker))

  all_back : (b : ℕ) (waiting : List (Option (PassView × Worker))) (done : List (Option (PassView × ℕ)))
      → RunEach own may_fail day shift waiting done
      → ((k n : ℕ) (e : Option (PassView × Worker)) → n ≡ b + k → k < length waiting → WaitsAt waiting k n e)
      → AllBack b done
  all_back b [] [] ran at = tt
  all_back b [] (y ∷ ys) ran at = absurd ran
  all_back b (x ∷ xs) [] ran at = absurd ran
  all_back b (x ∷ xs) (y ∷ ys) ran at =
      let first : WaitsAt (x ∷ xs) 0 b None = at 0 b None (omega arith) (omega arith) in
      one_back b first.0 y ys first.1 (subst (λ (z : Option (PassView × Worker)). RunsWorker own may_fail day shift z y) first.2 ran.0)
      (all_back (b + 1) xs ys ran.1 (λ k n e num lt. at (suc k) n e (omega (arith, num)) (omega (arith, lt))))

  as_many_ran : (waiting : List (Option (PassView × Worker))) (done : List (Option (PassView × ℕ))) → RunEach own may_fail day shift waiting done
      → length done ≡ length waiting
  as_many_ran [] [] ran = refl
  as_many_ran [] (y ∷ ys) ran = absurd ran
  as_many_ran (x ∷ xs) [] ran = absurd ran
  as_many_ran (x ∷ xs) (y ∷ ys) ran = (let more = as_many_ran xs ys ran.1 in omega (arith, more))

  -- When the tasks of all workers have run, each has the result of its worker, and there are as many tasks as workers.
  pub all_done : (waiting : List (Option (PassView × Worker))) (done : List (Option (PassView × ℕ))) → AreWaiting workers waiting
      → RunEach own may_fail day shift waiting done → AllBack 0 done × (length done ≡ length workers)
  all_done waiting done are ran = (
    all_back 0 waiting done ran
        (λ k m e num lt. subst (λ (j : ℕ). WaitsAt waiting k j e) (omega (arith, num)) (are.1 k e (omega (arith, lt, are.0)))),
    as_many_ran waiting done ran ∙ are.0,
  )

  back_at : (b : ℕ) (tasks : List (Option (PassView × ℕ))) → AllBack b tasks → (k n : ℕ) (d : PassView × ℕ) → n ≡ b + k → k < length (results tasks)
      → IsReturned plan n (slice_index_or (results tasks) k d)
  back_at b [] h k n d e lt = absurd (omega arith)
  back_at b (None ∷ tasks) h k n d e lt = absurd h
  back_at b (Some r ∷ tasks) h zero n d e lt = subst (λ (m : ℕ). IsReturned plan m r) (omega arith) h.0
  back_at b (Some r ∷ tasks) h (suc k) n d e lt = back_at (b + 1) tasks h.1 k n d (omega arith) (omega arith)

  hands_back : (tasks : List (Option (PassView × ℕ))) → AllBack 0 tasks → AreReturned plan (results tasks)
  hands_back tasks h k d lt = back_at 0 tasks h k k d (omega arith) lt

  handed_length : (b : ℕ) (tasks : List (Option (PassView × ℕ))) → AllBack b tasks → length (collected tasks) ≡ length tasks
  handed_length b [] h = refl
  handed_length b (None ∷ tasks) h = absurd h
  handed_length b (Some r ∷ tasks) h = (let more = handed_length (b + 1) tasks h.1 in omega arith)

  -- If each task has the result of its worker, then what is collected from the tasks is what the workers of the plan
  -- returned (`HaveWorked`): the passes, moved into an empty list, and the number of connections that ended without a
  -- SessionFault.
  pub have_worked : (tasks : List (Option (PassView × ℕ))) (room passes : List PassView) (clean : ℕ) → AllBack 0 tasks → room ≡ []
      → passes ≡ room ++ collected tasks → clean ≡ min (clean_in tasks) (2 ^ 64 - 1) → HaveWorked plan passes clean
  have_worked tasks room passes clean back none are counted = record {
    done = results tasks;
    passes_are = are ∙ ap (λ (ps : List PassView). ps ++ collected tasks) none ∙ handed_first tasks;
    each = hands_back tasks back;
    counted = counted ∙ ap (λ (n : ℕ). min n (2 ^ 64 - 1)) (clean_first tasks);
  }

  pub are_all : (n : ℕ) (tasks : List (Option (PassView × ℕ))) (room passes : List PassView) (clean : ℕ) → AllBack 0 tasks → length tasks ≡ n → room ≡ []
      → passes ≡ room ++ collected tasks → HaveWorked plan passes clean → AreAll n passes
  are_all n tasks room passes clean back many none are worked =
      all_worked plan passes n clean (ap length (are ∙ ap (λ (ps : List PassView). ps ++ collected tasks) none) ∙ handed_length 0 tasks back ∙ many) worked

abbrev pub here : PassView × Worker → Option (PassView × Worker)
here pair = Some pair

pub seen_again : (pairs : List (PassView × Worker)) → map here pairs ≡ map here (map (λ (pair : PassView × Worker). (pair.0, pair.1)) pairs)
seen_again [] = refl
seen_again (pair ∷ pairs) = ap (λ (more : List (Option (PassView × Worker))). here pair ∷ more) (seen_again pairs)

waits_at : (k : ℕ) (e : Option (PassView × Worker)) (p : PassView) (ps : List PassView) (workers : List Worker) → slice_get ps k ≡ Some p
    → k < length workers → (worker : Worker) × (slice_get workers k ≡ Some worker) × (slice_index_or (map here (zip ps workers)) k e ≡ Some (p, worker))
waits_at k e p [] workers is lt = absurd (none_is k p is)
waits_at k e p (q ∷ ps) [] is lt = absurd (omega arith)
waits_at zero e p (q ∷ ps) (worker ∷ workers) is lt = (worker, refl, ap (λ (o : Option PassView). option_map (λ (x : PassView). (x, worker)) o) is)
waits_at (suc k) e p (q ∷ ps) (worker ∷ workers) is lt = waits_at k e p ps workers is (omega arith)

-- Let `tasks` be made of the new passes `ps` and of `workers`, in their order: the task at each place holds the pass
-- and the worker at this place. Then there is one task for each worker, and the task at place k, counted from 0, holds
-- the worker at place k and the pass with the number k + 1 (`AreWaiting`).
module _ {P : Type 0} (w : P → Option (PassView × Worker)) (tasks : List P) (ps : List PassView) (workers : List Worker)
    (are : map w tasks ≡ map here (zip ps workers)) (new : AreNew (length workers) ps) where
  pub are_waiting : AreWaiting workers (map w tasks)
  are_waiting = rw are (
    omega (arith, length-map (zip ps workers) here, length-zip ps workers, new.0),
    λ k e lt. waits_at k e (new_pass (k + 1)) ps workers (new.1 k lt) lt,
  )

  pub as_many : length tasks ≡ length workers
  as_many = sym (length-map tasks w) ∙ are_waiting.0

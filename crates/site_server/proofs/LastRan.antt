-- If the tasks before the last one ran, and the last one did, then all did.
use Rattle.std.proofs.Common.{◌≡◌, ℕ, List, [], ◌∷◌, ◌++◌, map, Option, Some, None, Bool, true, false, subst, ap, sym, ◌∙◌}
use Rattle.std.specs.Prelude.{IsTrue, is_some}
use Rattle.std.proofs.lemmas.List.{map-append}
use Rattle.site_lock.specs.Passes.{PassView, Opened}
use Rattle.site_server.specs.declared.crew.Worker.{Worker}
use Rattle.site_server.specs.declared.shift.Shift.{Shift}
use Rattle.site_server.specs.Collecting.{MayRunWorker, RunEach, RunsWorker}

abbrev IsNot : Bool → Type 0
IsNot true = ⊥
IsNot false = Unit {0}

module _ (f : Opened) (may_fail : Type 0) (day : ℕ) (shift : Shift) where
  pub ran_if_some : (before : Option (PassView × Worker)) (after : Option (PassView × ℕ)) → IsTrue (is_some after)
      → MayRunWorker f may_fail day shift before after → RunsWorker f may_fail day shift before after
  ran_if_some before None is h = absurd (subst IsNot is tt)
  ran_if_some before (Some done) is h = h

  -- a task without a worker counts as one that ran
  pub none_ran : (before : Option (PassView × Worker)) (after : Option (PassView × ℕ)) → before ≡ None → RunsWorker f may_fail day shift before after
  none_ran before after is = subst (λ (b : Option (PassView × Worker)). RunsWorker f may_fail day shift b after) (sym is) tt

  with_last : (waiting : List (Option (PassView × Worker))) (done : List (Option (PassView × ℕ))) (before : Option (PassView × Worker)) (after : Option (PassView × ℕ))
      → RunEach f may_fail day shift waiting done → RunsWorker f may_fail day shift before after
      → RunEach f may_fail day shift (waiting ++ before ∷ []) (done ++ after ∷ [])
  with_last [] [] before after ran h = (h, tt)
  with_last [] (d ∷ done) before after ran h = absurd ran
  with_last (w ∷ waiting) [] before after ran h = absurd ran
  with_last (w ∷ waiting) (d ∷ done) before after ran h = (ran.0, with_last waiting done before after ran.1 h)

  pub all_ran : {P : Type 0} (w : P → Option (PassView × Worker)) (d : P → Option (PassView × ℕ)) (tasks rest done : List P) (last ended : P)
      → tasks ≡ rest ++ last ∷ [] → RunEach f may_fail day shift (map w rest) (map d done)
      → RunsWorker f may_fail day shift (w last) (d ended) → RunEach f may_fail day shift (map w tasks) (map d (done ++ ended ∷ []))
  all_ran w d tasks rest done last ended are ran h =
      let more = with_last (map w rest) (map d done) (w last) (d ended) ran h in
      let waits : map w tasks ≡ map w rest ++ w last ∷ [] = ap (map w) are ∙ map-append w rest (last ∷ []) in
      rw waits rw (map-append d done (ended ∷ [])) more

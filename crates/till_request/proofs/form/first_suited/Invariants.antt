use Rattle.std.proofs.Common.{◌≡◌, drop, map}
use Rattle.std.specs.Prelude.{find}
use Rattle.till_request.specs.Grammar.{suits}
use Rattle.till_request.proofs.form.first_suited.Given as goal

-- searching the forms that weren't tried yet gives the same as searching all forms
abbrev pub invariant-loop-form : goal.invariant-loop-form
invariant-loop-form l =
    find (suits l.role (map (λ w. w.now) l.words)) l.forms ≡ find (suits l.role (map (λ w. w.now) l.words)) (drop l.form-index l.forms)

-- If passes 1 to n are new and pass n + 1 is added, then passes 1 to n + 1 are new.
use Rattle.std.proofs.Common.{◌≡◌, ℕ, ◌+◌, ◌<◌, List, [], ◌∷◌, ◌++◌, length, refl, sym, ap, ◌∙◌, subst, arith, length-append, Some, zero, suc, below_more}
use Rattle.std.specs.List.{slice_get}
use Rattle.site_lock.specs.Passes.{PassView, new_pass}
use Rattle.site_lock.specs.Passes.{AreNew}

pub slice_get-front : {X : Type 0} (xs ys : List X) (k : ℕ) → k < length xs → slice_get (xs ++ ys) k ≡ slice_get xs k
slice_get-front [] ys k h = absurd (omega arith)
slice_get-front (x ∷ xs) ys zero h = refl
slice_get-front (x ∷ xs) ys (suc k) h = slice_get-front xs ys k (omega arith)

pub slice_get-last : {X : Type 0} (xs : List X) (y : X) → slice_get (xs ++ y ∷ []) (length xs) ≡ Some y
slice_get-last [] y = refl
slice_get-last (x ∷ xs) y = slice_get-last xs y

pub one_new : (n : ℕ) (old now : List PassView) → AreNew n old → now ≡ old ++ new_pass (n + 1) ∷ [] → AreNew (n + 1) now
one_new n old now h is =
    let Q : List PassView → Type 0 = λ xs. AreNew (n + 1) xs in
    subst Q (sym is) (
      omega (arith, h.0, length-append old (new_pass (n + 1) ∷ [])),
      below_more (λ k. slice_get (old ++ new_pass (n + 1) ∷ []) k ≡ Some (new_pass (k + 1))) n
          (λ k below. slice_get-front old (new_pass (n + 1) ∷ []) k (omega (arith, h.0)) ∙ h.1 k below)
          (ap (λ (m : ℕ). slice_get (old ++ new_pass (n + 1) ∷ []) m) (sym h.0) ∙ slice_get-last old (new_pass (n + 1))),
    )

-- If a program is installed in a slot as a new version, then no other slot changes, and the program is added to those
-- of the versions before.
use Rattle.std.proofs.Common.{◌≡◌, ℕ, ◌+◌, ◌-◌, ◌<◌, List, [], ◌∷◌, ◌++◌, length, Option, option_map, Some, None, slice_set, refl, arith, get_or, suc, zero, ◌∙◌}
use Rattle.std.specs.List.{slice_get}
use Rattle.std.specs.Prelude.{All}
use Rattle.std.proofs.lemmas.List.{get_or-set_same, get_or-set_other}
use Rattle.bpf_model.specs.Program.{ProgramText}
use Rattle.site_core.specs.SlotsValue.{Version}
use Rattle.site_core.specs.SlotsView.{IsVersion}
use Rattle.site_core.specs.Installing.{Installs}

slice_get-last : {A : Type 0} → (xs : List A) (x : A) → slice_get (xs ++ x ∷ []) (length xs) ≡ Some x
slice_get-last [] x = refl
slice_get-last (y ∷ ys) x = slice_get-last ys x

slice_get-earlier : {A : Type 0} → (xs : List A) (x : A) (k : ℕ) → k < length xs → slice_get (xs ++ x ∷ []) k ≡ slice_get xs k
slice_get-earlier [] x k h = absurd (omega arith)
slice_get-earlier (y ∷ ys) x zero h = refl
slice_get-earlier (y ∷ ys) x (suc k) h = slice_get-earlier ys x k (omega arith)

-- The version in a slot. `Some n` is the number of the version that was installed there last: the result is this
-- version. None means that none was installed: the result is `opened`, with which the slot began. `programs` are the
-- programs of all versions after version `before`, in the order of their numbers.
abbrev shown : ℕ → List ProgramText → Option Version → Option ℕ → Option Version
shown before programs opened None = opened
shown before programs opened (Some n) = option_map (λ program. record { number = n; program = program }) (slice_get programs (n - before - 1))

-- If P holds for all items of a list and for the default d, then it holds for the item at place k. Past the end of the
-- list, this item is d.
at_or : {A : Type 0} (P : A → Type 0) (xs : List A) (k : ℕ) (d : A) → P d → All P xs → P (get_or xs k d)
at_or P [] k d h all = h
at_or P (x ∷ xs) zero d h all = all 0 d (omega arith)
at_or P (x ∷ xs) (suc k) d h all = at_or P xs k d h (λ j e lt. all (suc j) e (omega arith))

shown-earlier : (before : ℕ) (programs : List ProgramText) (p : ProgramText) (opened : Option Version) (o : Option ℕ)
    → IsVersion before (length programs) o → shown before (programs ++ p ∷ []) opened o ≡ shown before programs opened o
shown-earlier before programs p opened None h = refl
shown-earlier before programs p opened (Some n) h =
    let at : n - before - 1 < length programs = omega arith in
    rw (slice_get-earlier programs p (n - before - 1) at)

shown-last : (before : ℕ) (programs : List ProgramText) (p : ProgramText) (opened : Option Version) (n : ℕ)
    → n ≡ before + length programs + 1 → shown before (programs ++ p ∷ []) opened (Some n) ≡ Some (record { number = n; program = p })
shown-last before programs p opened n is =
    let at : n - before - 1 ≡ length programs = omega arith in
    rw (at, slice_get-last programs p)

pub installs : (before : ℕ) (opened : List (Option Version)) (installed : List (Option ℕ)) (since : List ℕ) (programs : List ProgramText) (slot : ℕ)
    (p : ProgramText) (entry number : ℕ) → number ≡ before + length programs + 1 → slot < length installed → slot < length since
    → All (IsVersion before (length programs)) installed
    → Installs (record { before = before; opened = opened; installed = installed; since = since; programs = programs }) slot p entry number
    (record { before = before; opened = opened; installed = slice_set installed slot (Some number); since = slice_set since slot entry; programs = programs ++ p ∷ [] })
installs before opened installed since programs slot p entry number is lt entry_lt all = record {
  number_is = is;
  programs_are = refl;
  installed_is = refl;
  since_is = refl;
  before_is = refl;
  opened_is = refl;
  in_slot = (λ i. shown before (programs ++ p ∷ []) (get_or opened slot None) (get_or-set_same installed slot (Some number) None lt i))
      ∙ shown-last before programs p (get_or opened slot None) number is;
  elsewhere = λ other differ. (λ i. shown before (programs ++ p ∷ []) (get_or opened other None) (get_or-set_other installed slot other (Some number) None differ i))
      ∙ shown-earlier before programs p (get_or opened other None) (get_or installed other None) (at_or (IsVersion before (length programs)) installed other None tt all);
  since_slot = get_or-set_same since slot entry 0 entry_lt;
  since_elsewhere = λ other differ. get_or-set_other since slot other entry 0 differ;
}

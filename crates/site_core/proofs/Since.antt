-- The first moment of a history with one more entry.
use Rattle.std.proofs.Common.{◌≡◌, ℕ, ◌==◌, List, [], ◌∷◌, ◌++◌, Option, Some, None, Bool, true, false, not, refl, rules}
use Rattle.std.specs.Prelude.{find, if◌then◌else◌}
use Rattle.std.proofs.lemmas.Grind.{common_steps}
use Rattle.decision_journal.specs.declared.entries.Entry.{Entry}
use Rattle.site_core.specs.Sights.{first_moment}

abbrev moment_of : Option Entry → ℕ
moment_of found = elim found [ None ↦ 0 | Some e ↦ e.moment ]

alone : (m : ℕ) (e : Entry) → m ≡ e.moment → moment_of (if not (e.moment == 0) then Some e else None) ≡ e.moment
alone m e h = search (rules, common_steps)

behind : (b : Bool) (x e : Entry) (few more : Option Entry) → (x.moment == 0) ≡ b
    → moment_of more ≡ (if moment_of few == 0 then e.moment else moment_of few)
    → moment_of (if not b then Some x else more)
    ≡ (if moment_of (if not b then Some x else few) == 0 then e.moment else moment_of (if not b then Some x else few))
behind true x e few more is h = h
behind false x e few more is h = rw is refl

-- it is that of the history, or else the moment of the entry
pub first_more : (history : List Entry) (e : Entry)
    → first_moment (history ++ e ∷ []) ≡ (if first_moment history == 0 then e.moment else first_moment history)
first_more [] e = alone e.moment e refl
first_more (x ∷ history) e =
    behind (x.moment == 0) x e (find (λ e. not (e.moment == 0)) history) (find (λ e. not (e.moment == 0)) (history ++ e ∷ [])) refl (first_more history e)

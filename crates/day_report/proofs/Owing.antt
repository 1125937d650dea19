-- Whether a point has an unpaid transaction, and whether a list has the delivery of a transaction.
use Rattle.std.proofs.Common.{◌≡◌, ℕ, Bool, true, false, List, [], ◌∷◌, Option, Some, None, refl, ap, ◌∙◌}
use Rattle.std.specs.Prelude.{◌==◌, ◌&&◌, ◌||◌, not, is_some, find, if◌then◌else◌, option_map}
use Rattle.std.specs.List.{list_any}
use Rattle.std.proofs.lemmas.Bool.{and_parts, eqb-true}
use Rattle.std.proofs.lemmas.Map.Views.{any-filter_same}
use Rattle.fuelling_point.specs.Table.{PointState}
use Rattle.fuelling_point.specs.declared.kinds.Transaction.{Transaction}
use Rattle.day_report.specs.Sales.{end_of, is_delivery_of, unpaid_at, without}
use Rattle.day_report.specs.declared.sales.Ended.{Ended}

pub nothing : {P : Type 0} → ◌≡◌ {A = Bool} false true → P
nothing h = absurd (cc)

-- Whether a list has the transaction of number x.
abbrev pub has_number : ℕ → List Transaction → Bool
has_number x ts = list_any (λ (t : Transaction). t.number == x) ts

-- Whether transaction x is unpaid at the point.
abbrev pub owes : ℕ → Option PointState → Bool
owes x None = false
owes x (Some p) = has_number x p.unpaid

-- Whether a list has the delivery of transaction x of point n.
abbrev pub has_delivery : ℕ → ℕ → List Ended → Bool
has_delivery n x us = list_any (λ (u : Ended). is_delivery_of n x u) us

first-or-rest : {A : Type 0} (b : Bool) (x : A) (o : Option A) → is_some (if b then Some x else o) ≡ (b || is_some o)
first-or-rest true x o = refl
first-or-rest false x o = refl

find-any : {A : Type 0} (test : A → Bool) (xs : List A) → is_some (find test xs) ≡ list_any test xs
find-any test [] = refl
find-any test (x ∷ xs) = first-or-rest (test x) x (find test xs) ∙ ap (λ b. test x || b) (find-any test xs)

pub owes-is : (x : ℕ) (o : Option PointState) → is_some (unpaid_at o x) ≡ owes x o
owes-is x None = refl
owes-is x (Some p) = find-any (λ (t : Transaction). t.number == x) p.unpaid

map-some : (o : Option Ended) → is_some (option_map (λ (e : Ended). e.number) o) ≡ is_some o
map-some None = refl
map-some (Some u) = refl

pub delivery-is : (us : List Ended) (n x : ℕ) → is_some (end_of us n x) ≡ has_delivery n x us
delivery-is us n x = map-some (find (λ (u : Ended). is_delivery_of n x u) us) ∙ find-any (λ (u : Ended). is_delivery_of n x u) us

-- Without the deliveries of transaction y of point m, a list has the same other deliveries as before.
pub without-is : (us : List Ended) (m y n x : ℕ)
    → has_delivery n x (without us m y) ≡ (not ((n == m) && (x == y)) && has_delivery n x us)
without-is us m y n x =
    any-filter_same (λ (u : Ended). is_delivery_of n x u) (λ (u : Ended). not (is_delivery_of m y u)) (not ((n == m) && (x == y)))
    (λ u is. let two = and_parts (u.point == n) (u.transaction == x) is in
    λ j. not ((eqb-true u.point n two.0 j == m) && (eqb-true u.transaction x two.1 j == y))) us

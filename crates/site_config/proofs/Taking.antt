-- A till has a door if some door takes the till's lines. A point has a door if some door takes the dispensers' lines
-- that name the point. Trying the numbers from 1 up finds the lowest number of a till or point without a door, if there
-- is one.
use Rattle.std.proofs.Common.{◌≡◌, ℕ, zero, suc, ◌+◌, ◌-◌, ◌≤◌, List, Option, Some, None, true, false, Bool, cond, sym, subst, arith}
use Rattle.site_config.specs.declared.flaw.ConfigFlaw.{ConfigFlaw}
use Rattle.site_config.specs.declared.flaw.ConfigFlaw.TheVariants.{WithoutDoor}
use Rattle.site_config.specs.declared.flaw.Side.{Side}
use Rattle.site_config.specs.declared.raw.RawDoor.{RawDoor}
use Rattle.site_config.specs.Document.{first_of}
use Rattle.site_config.specs.Doors.{is_taken, first_without_door}

found_before : (o other : Option ConfigFlaw) (flaw : ConfigFlaw) → o ≡ Some flaw → first_of o other ≡ Some flaw
found_before o other flaw e = rw e

found_none : (o : Option ConfigFlaw) (taken : Bool) (flaw : ConfigFlaw) → o ≡ None → taken ≡ true → first_of o (cond taken None (Some flaw)) ≡ None
found_none o taken flaw e t = rw (e, t)

found_here : (o : Option ConfigFlaw) (taken : Bool) (flaw : ConfigFlaw) → o ≡ None → taken ≡ false
    → first_of o (cond taken None (Some flaw)) ≡ Some flaw
found_here o taken flaw e t = rw (e, t)

none_and : (n : ℕ) → 0 + n ≡ n
none_and n = omega arith

one_and : (j n : ℕ) → suc j + n ≡ suc (j + n)
one_and j n = omega arith

left_above : (side : Side) (ds : List RawDoor) (n : ℕ) (flaw : ConfigFlaw) (j : ℕ) → first_without_door side ds n ≡ Some flaw → first_without_door side ds (j + n) ≡ Some flaw
left_above side ds n flaw zero found = rw (none_and n) found
left_above side ds n flaw (suc j) found = rw (one_and j n) (found_before (first_without_door side ds (j + n)) _ flaw (left_above side ds n flaw j found))

-- If each till or point with a number below m has a door (`is_taken`), and m has one too, then each number up to m has
-- one.
pub none_left : (side : Side) (ds : List RawDoor) (n m : ℕ) → m ≡ n + 1 → None ≡ first_without_door side ds n → is_taken side ds m ≡ true
    → None ≡ first_without_door side ds m
none_left side ds n m is none taken =
    let e : m ≡ suc n = omega (arith, is) in
    rw e (sym (found_none (first_without_door side ds n) (is_taken side ds (suc n)) (WithoutDoor side (suc n)) (sym none) (rw e at taken)))

-- If each till or point with a number below m has a door (`is_taken`), and m has none, then m is the lowest number
-- without a door.
pub one_left : (side : Side) (ds : List RawDoor) (n m most : ℕ) → m ≡ n + 1 → m ≤ most → None ≡ first_without_door side ds n → is_taken side ds m ≡ false
    → Some (WithoutDoor side m) ≡ first_without_door side ds most
one_left side ds n m most is le none taken =
    let e : m ≡ suc n = omega (arith, is) in
    let here : first_without_door side ds m ≡ Some (WithoutDoor side m) =
    rw e (found_here (first_without_door side ds n) (is_taken side ds (suc n)) (WithoutDoor side (suc n)) (sym none) (rw e at taken)) in
    let k : most - m + m ≡ most = omega (arith, le) in
    sym (subst (λ q. first_without_door side ds q ≡ Some (WithoutDoor side m)) k (left_above side ds m (WithoutDoor side m) (most - m) here))

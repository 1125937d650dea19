-- A door takes a line exactly if the role of its sessions is allowed to send the line. `role_of` makes this role from
-- the door's role in the configuration. This holds for each till's line, and for each dispenser's line that names a
-- point from 1 to 32.
use Rattle.std.proofs.Common.{◌≡◌, ℕ, ◌+◌, ◌-◌, ◌/◌, ◌%◌, ◌^◌, ◌≤◌, ◌==◌, ◌&&◌, ◌||◌, nat_le, not, length, ℤ, pos, negsuc, List, [], ◌∷◌, Bool, true, false, cond}
use Rattle.std.proofs.Common.{Result, Ok, Err, refl, sym, subst, ap, ◌∙◌, arith}
use Rattle.std.specs.Prelude.{bit_or}
use Rattle.std.specs.Ordering.{int_eq}
use Rattle.std.specs.List.{list_any}
use Rattle.std.proofs.lemmas.Nat.{shr_le}
use Rattle.std.proofs.lemmas.Bool.Decides.{nat_tests}
use Rattle.till_request.specs.declared.act.Role.{Role}
use Rattle.till_request.specs.declared.act.Role.TheVariants as roles
use Rattle.till_request.specs.declared.act.Stray.{Stray}
use Rattle.till_request.specs.declared.act.Stray.TheVariants as strays
use Rattle.site_config.specs.declared.flaw.ConfigFlaw.{ConfigFlaw}
use Rattle.site_config.specs.declared.flaw.Key.TheVariants as key
use Rattle.site_config.specs.declared.flaw.Place.{Place}
use Rattle.site_config.specs.declared.raw.RawRole.{RawRole}
use Rattle.site_config.specs.declared.raw.RawRole.TheVariants.{Tills, OneTill, Dispensers, SomePoints, Owner}
use Rattle.site_config.specs.Document.{◌>>=◌, demand}
use Rattle.site_config.specs.Demands.{ranged}
use Rattle.site_config.specs.Doors.{sibling_key, item_of, bits_of, role_of, telling, with_point, with_points}
use Rattle.site_config.specs.Laws.{TakesOwnLines, DoorsTakeOwnLines}
use Rattle.site_config.proofs.Bits.{bit_more}

-- if two steps succeed together, then the first step gives a value, and the second one succeeds with this value
pub went_on : {A B : Type 0} (r : Result A ConfigFlaw) (f : A → Result B ConfigFlaw) (y : B) → (r >>= f) ≡ Ok y → (x : A) × (r ≡ Ok x) × (f x ≡ Ok y)
went_on (Ok x) f y e = (x, refl, e)
went_on (Err flaw) f y e = absurd (cc)

in_range : (b : Bool) (k n : ℕ) (flaw : ConfigFlaw) → cond b (Ok k) (Err flaw) ≡ Ok n → n ≡ k
in_range true k n flaw e = cc
in_range false k n flaw e = absurd (cc)

number_is : (place : Place) (low high : ℕ) (z : ℤ) (n : ℕ) → ranged place low high z ≡ Ok n → z ≡ pos n
number_is place low high (pos k) n e = ap pos (sym (in_range (nat_le low k && nat_le k high) k n _ e))
number_is place low high (negsuc k) n e = absurd (cc)

at_least : (b c : Bool) (k n : ℕ) (flaw : ConfigFlaw) → cond (b && c) (Ok k) (Err flaw) ≡ Ok n → b ≡ true
at_least true c k n flaw e = refl
at_least false c k n flaw e = absurd (cc)

number_from : (place : Place) (low high : ℕ) (z : ℤ) (n : ℕ) → ranged place low high z ≡ Ok n → low ≤ n
number_from place low high (pos k) n e =
    let t : nat_le low k ≡ true = at_least (nat_le low k) (nat_le k high) k n _ e in
    let is : n ≡ k = in_range (nat_le low k && nat_le k high) k n _ e in
    grind (arith, nat_tests)
number_from place low high (negsuc k) n e = absurd (cc)

or_assoc : (a b c : Bool) → (a || b) || c ≡ a || (b || c)
or_assoc true b c = refl
or_assoc false b c = refl

or_false : (a : Bool) → a ≡ a || false
or_false true = refl
or_false false = refl

same_place : (p q : ℕ) → 1 ≤ p → 1 ≤ q → ((p - 1) == (q - 1)) ≡ int_eq (pos p) (pos q)
same_place p q some other = grind (arith, nat_tests)

-- If the points of the list `zs` are added to the set `bits` without a flaw (`with_points`), then a point is in the
-- resulting set `new` exactly if it is in `bits` or in `zs`.
in_bits : (list : Place) (place points bits : ℕ) (zs : List ℤ) (new q : ℕ) → 1 ≤ q → with_points list place points bits zs ≡ Ok new
    → (new / 2 ^ (q - 1) % 2 == 1) ≡ ((bits / 2 ^ (q - 1) % 2 == 1) || list_any (λ z. int_eq z (pos q)) zs)
unfolding with_point
in_bits list place points bits [] new q some e =
    let is : bits ≡ new = cc in subst (λ n. (n / 2 ^ (q - 1) % 2 == 1) ≡ ((bits / 2 ^ (q - 1) % 2 == 1) || false)) is (or_false _)
in_bits list place points bits (z ∷ zs) new q some e =
    let s = went_on (with_point list place points bits z) (λ more. with_points list (place + 1) points more zs) new e in
    let r = went_on (ranged (item_of list place) 1 points z) _ s.0 s.1 in
    let d = went_on (demand _ (bits / 2 ^ (r.0 - 1) % 2 == 0)) (λ _. Ok (bit_or bits (2 ^ (r.0 - 1)))) s.0 r.2 in
    let z_is : z ≡ pos r.0 = number_is (item_of list place) 1 points z r.0 r.1 in
    let more_is : bit_or bits (2 ^ (r.0 - 1)) ≡ s.0 = cc in
    in_bits list (place + 1) points s.0 zs new q some s.2
    ∙ ap (λ b. b || list_any (λ x. int_eq x (pos q)) zs)
    (ap (λ n. n / 2 ^ (q - 1) % 2 == 1) (sym more_is) ∙ bit_more bits (r.0 - 1) (q - 1)
    ∙ ap (λ b. (bits / 2 ^ (q - 1) % 2 == 1) || b) (same_place r.0 q (number_from (item_of list place) 1 points z r.0 r.1) some
    ∙ ap (λ x. int_eq x (pos q)) (sym z_is)))
    ∙ or_assoc (bits / 2 ^ (q - 1) % 2 == 1) (int_eq z (pos q)) (list_any (λ x. int_eq x (pos q)) zs)

none_yet : (j : ℕ) → (0 / 2 ^ j % 2 == 1) ≡ false
none_yet j = let small = shr_le 0 j in let none : 0 / 2 ^ j ≡ 0 = omega (arith, small) in ap (λ x. x % 2 == 1) none

bits_in : (list : Place) (points bits q : ℕ) (zs : List ℤ) → 1 ≤ q → bits_of list points zs ≡ Ok bits
    → (bits / 2 ^ (q - 1) % 2 == 1) ≡ list_any (λ z. int_eq z (pos q)) zs
unfolding bits_of
bits_in list points bits q zs some e =
    let s = went_on (demand _ (not (length zs == 0))) (λ _. with_points list 0 points 0 zs) bits e in
    in_bits list 0 points 0 zs bits q some s.2 ∙ ap (λ b. b || list_any (λ z. int_eq z (pos q)) zs) (none_yet (q - 1))

same_numbers : (a b : ℕ) → int_eq (pos a) (pos b) ≡ (b == a)
same_numbers a b = grind (arith, nat_tests)

named_point : (p : ℕ) (b c : Bool) → 1 ≤ p → p ≤ 32 → b ≡ c → c ≡ nat_le 1 p && (nat_le p 32 && b)
named_point p b c some few e = grind (arith, nat_tests)

read_lines : (tills points : ℕ) (place : Place) (raw : RawRole) (role : Role) → role_of tills points place raw ≡ Ok role → TakesOwnLines raw role
unfolding role_of
read_lines tills points place Tills role e =
    let is : roles.Till ≡ role = cc in subst (TakesOwnLines Tills) is (record { of_tills = λ n r. refl; of_points = λ p v s f. refl })
read_lines tills points place Dispensers role e =
    let is : roles.Dispenser ≡ role = cc in subst (TakesOwnLines Dispensers) is (record { of_tills = λ n r. refl; of_points = λ p v s f. refl })
read_lines tills points place Owner role e =
    let is : roles.Owner ≡ role = cc in subst (TakesOwnLines Owner) is (record { of_tills = λ n r. refl; of_points = λ p v s f. refl })
read_lines tills points place (OneTill z) role e =
    let s = went_on (ranged (sibling_key place key.Number) 1 tills z) (λ n. Ok (roles.OneTill n strays.BadLine)) role e in
    let z_is : z ≡ pos s.0 = number_is (sibling_key place key.Number) 1 tills z s.0 s.1 in
    let is : roles.OneTill s.0 strays.BadLine ≡ role = cc in
    subst (TakesOwnLines (OneTill z)) is (record {
      of_tills = λ n r. ap (λ x. int_eq x (pos n)) z_is ∙ same_numbers s.0 n;
      of_points = λ p v some few. refl;
    })
read_lines tills points place (SomePoints zs) role e =
    let s = went_on (bits_of (sibling_key place key.Points) points zs) (λ bits. Ok (roles.SomePoints bits strays.BadLine)) role e in
    let is : roles.SomePoints s.0 strays.BadLine ≡ role = cc in
    subst (TakesOwnLines (SomePoints zs)) is (record {
      of_tills = λ n r. refl;
      of_points = λ p v some few. named_point p _ _ some few (bits_in (sibling_key place key.Points) points s.0 p zs some s.1);
    })

-- what a stray line is told changes no line that the door takes
told_lines : (stray : Stray) (raw : RawRole) (role : Role) → TakesOwnLines raw role → TakesOwnLines raw (telling stray role)
told_lines stray raw roles.Till h = h
told_lines stray raw roles.Dispenser h = h
told_lines stray raw roles.Owner h = h
told_lines stray raw roles.DaysOwner h = h
told_lines stray raw roles.All h = h
told_lines stray raw (roles.OneTill n other) h = record { of_tills = h.of_tills; of_points = h.of_points }
told_lines stray raw (roles.SomePoints bits other) h = record { of_tills = h.of_tills; of_points = h.of_points }

pub own_lines : DoorsTakeOwnLines
own_lines tills points stray place raw role e = told_lines stray raw role (read_lines tills points place raw role e)

-- If `doors_fit` finds no flaw in the doors of a configuration, then a door of the site can be made from each of them.
-- If the prices of the site can be made from those in the configuration, then making them takes memory.
use Rattle.std.proofs.Common.{◌≡◌, ℕ, suc, ◌<◌, ◌==◌, ℤ, List, [], ◌∷◌, length, Bool, true, false, Option, Some, None, Result, Ok, Err, IsOk, IsOkAnd, is_ok, refl, ap, arith}
use Rattle.std.proofs.lemmas.Bool.{eqb-true}
use Rattle.site_config.specs.declared.flaw.ConfigFlaw.{ConfigFlaw}
use Rattle.site_config.specs.declared.doors.DoorCounts.{DoorCounts}
use Rattle.site_config.specs.declared.flaw.Place.{Place}
use Rattle.site_config.specs.declared.raw.RawDoor.{RawDoor}
use Rattle.site_config.specs.Document.{◌>>=◌, demand, each_of}
use Rattle.site_config.specs.Doors.{DoorValue, ServeValue, address_of, role_of, telling, lines_of, workers_of, door_fits, doors_fit, door_of, each_door}
use Rattle.site_config.specs.Ranges.{price_of, prices_of}
use Rattle.site_config.specs.Memory.{HasDoors, MakesFirst, TakesPrices}
use Rattle.site_config.proofs.Laws.{went_on}

-- The bound on a door's lines is in its range or not, whatever the bound of `[serve]` is.
lines_fit : (shared : ℕ) (place : Place) (own : Option ℤ) → IsOk (lines_of 0 place own) → IsOk (lines_of shared place own)
lines_fit shared place None o = refl
lines_fit shared place (Some z) o = o

all_three : {A B C D : Type 0} (a : Result A ConfigFlaw) (r : Result B ConfigFlaw) (l m : Result C ConfigFlaw) (f : A → B → C → D)
    → (IsOk l → IsOk m) → (a >>= (λ x. r >>= (λ y. l >>= (λ z. Ok (tt {0}))))) ≡ Ok (tt {0})
    → IsOk (a >>= (λ x. r >>= (λ y. m >>= (λ z. Ok (f x y z)))))
all_three (Ok x) (Ok y) (Ok z) (Ok w) f so e = refl
all_three (Ok x) (Ok y) (Ok z) (Err g) f so e = absurd (let no = so refl in cc)
all_three (Ok x) (Ok y) (Err g) m f so e = absurd (cc)
all_three (Ok x) (Err g) l m f so e = absurd (cc)
all_three (Err g) r l m f so e = absurd (cc)

fits_made : (counts : DoorCounts) (d : RawDoor) → door_fits counts.tills counts.points d ≡ Ok tt → IsOk (door_of counts d)
unfolding door_fits door_of
fits_made counts d e =
    all_three (address_of d.place d.address) (role_of counts.tills counts.points d.place d.role) (lines_of 0 d.place d.lines_per_second)
    (lines_of counts.lines_per_second d.place d.lines_per_second)
    (λ a r l. record {
      place = d.place;
      address = a;
      role = telling counts.own_lines r;
      workers = workers_of counts.till_workers counts.dispenser_workers d.role;
      lines_per_second = l;
    })
    (lines_fit counts.lines_per_second d.place d.lines_per_second) e

one_more : {B : Type 0} (r : Result B ConfigFlaw) (rs : Result (List B) ConfigFlaw) (n : ℕ) → IsOk r → IsOkAnd rs (λ xs. length xs ≡ n)
    → IsOkAnd (r >>= (λ x. rs >>= (λ xs. Ok (x ∷ xs)))) (λ xs. length xs ≡ suc n)
one_more (Ok x) (Ok xs) n o l = ap suc l
one_more (Ok x) (Err g) n o l = absurd l
one_more (Err g) rs n o l = absurd (cc)

-- If the check of all doors finds no flaw (`doors_fit`), then a door of the site is made from each of them.
pub all_made : (counts : DoorCounts) (ds : List RawDoor) → doors_fit counts.tills counts.points ds ≡ Ok tt
    → IsOkAnd (each_door (door_of counts) ds) (λ made. length made ≡ length ds)
all_made counts [] e = refl
all_made counts (d ∷ ds) e =
    let s = went_on (door_fits counts.tills counts.points d) (λ _. doors_fit counts.tills counts.points ds) tt e in
    one_more (door_of counts d) (each_door (door_of counts) ds) (length ds) (fits_made counts d s.1) (all_made counts ds s.2)

pub with_doors : (r : Result (List DoorValue) ConfigFlaw) (n : ℕ) (f : List DoorValue → ServeValue) → ((ds : List DoorValue) → (f ds).doors ≡ ds) → 0 < n
    → IsOkAnd r (λ ds. length ds ≡ n) → IsOkAnd (r >>= (λ ds. Ok (f ds))) HasDoors
with_doors (Ok ds) n f same some l = rw (same ds) (omega (arith, some, l))
with_doors (Err g) n f same some l = absurd l

demanded : (b : Bool) (flaw : ConfigFlaw) (x : Unit {0}) → demand flaw b ≡ Ok x → b ≡ true
demanded true flaw x e = refl
demanded false flaw x e = absurd (cc)

first_made : (zs : List ℤ) (ps : List ℕ) → length zs ≡ 8 → each_of price_of 0 zs ≡ Ok ps → MakesFirst (price_of 0) zs
first_made [] ps eight e = absurd (omega (arith, eight))
first_made (z ∷ zs) ps eight e = let s = went_on (price_of 0 z) _ ps e in ap is_ok s.1

-- If the prices of a site can be made from the numbers `zs`, then there are 8 of these numbers, and the first one is in
-- the range of a price.
pub prices_made : (zs : List ℤ) (ps : List ℕ) → prices_of zs ≡ Ok ps → TakesPrices zs
unfolding prices_of TakesPrices
prices_made zs ps e =
    let s = went_on (demand _ (length zs == 8)) (λ _. each_of price_of 0 zs) ps e in
    let eight : length zs ≡ 8 = eqb-true (length zs) 8 (demanded (length zs == 8) _ s.0 s.1) in
    (eight, first_made zs ps eight s.2)

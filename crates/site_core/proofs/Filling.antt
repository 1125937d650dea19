-- Filling one place after another from the front of a list leaves the later places at their initial value. Replacing a
-- point of a station, both in the list of points and in the view for helpers, keeps the station's invariant.
use Rattle.std.proofs.Common.{◌≡◌, ℕ, zero, suc, ◌-◌, ◌<◌, ◌≤◌, List, [], ◌∷◌, ◌++◌, length, map, take, replicate, set, get_or, refl, ap, arith, ◌∙◌, sym, drop, max}
use Rattle.std.proofs.lemmas.List.{length-set, drop-replicate}
use Rattle.bpf_model.specs.declared.machine.View.{View}
use Rattle.bpf_model.specs.declared.machine.PointView.{PointView}
use Rattle.bpf_model.specs.Machine.{no_point}
use Rattle.fuelling_point.specs.Table.{PointState}
use Rattle.site_core.specs.State.{SiteState, seen, seen_points, view_of}

pub fill-more : {A B : Type 0} (f : A → B) (z : B) (xs : List A) (d : A) (i left : ℕ) → i < length xs
    → set (map f (take i xs) ++ replicate (suc left) z) i (f (get_or xs i d)) ≡ map f (take (suc i) xs) ++ replicate left z
fill-more f z [] d i left lt = absurd (omega arith)
fill-more f z (x ∷ xs) d zero left lt = refl
fill-more f z (x ∷ xs) d (suc j) left lt = ap (λ r. f x ∷ r) (fill-more f z xs d j left (omega arith))

set-map : {A B : Type 0} (f : A → B) (z : B) (xs : List A) (i n : ℕ) (x : A) → i < length xs
    → set (map f xs ++ replicate n z) i (f x) ≡ map f (set xs i x) ++ replicate n z
set-map f z [] i n x lt = absurd (omega arith)
set-map f z (y ∷ ys) zero n x lt = refl
set-map f z (y ∷ ys) (suc i) n x lt = ap (λ r. f y ∷ r) (set-map f z ys i n x (omega arith))

-- If one point changes, then only its own place changes in what programs see of all points.
pub seen-set : (points : List PointState) (i : ℕ) (p : PointState) → i < length points → set (seen_points points) i (seen p) ≡ seen_points (set points i p)
unfolding seen_points
seen-set points i p lt =
    let same : length (set points i p) ≡ length points = length-set points i p in
    set-map seen no_point points i (32 - length points) p lt ∙ ap (λ n. map seen (set points i p) ++ replicate (32 - n) no_point) (sym same)

-- If a view has the number of points, the points and the prices that programs see of a state, then it is that state's
-- view.
pub view-is : (s : SiteState) (v : View) → v.count ≡ length s.points → v.points ≡ seen_points s.points → v.prices ≡ s.prices → v ≡ view_of s
unfolding view_of
view-is s v count points prices = λ i. record { count = count i; points = points i; prices = prices i }

pub place-below : (n m : ℕ) → 1 ≤ n → n ≤ m → n - 1 < m
place-below n m one le = omega arith

-- The invariant of a station still holds after `p` replaces the point at place i, and `one` replaces the item at place
-- i of the view's points. `one` must be what programs see of `p`.
pub keeps-seen : (points : List PointState) (view : View) (i : ℕ) (p : PointState) (one : PointView) → i < length points → length points ≤ 32
    → length view.prices ≡ 8 → view.count ≡ length points → view.points ≡ seen_points points → one ≡ seen p
    → (length (set points i p) ≤ 32) × (length view.prices ≡ 8) × (view.count ≡ length (set points i p))
    × (set view.points i one ≡ seen_points (set points i p))
keeps-seen points view i p one lt most prices count shown is =
    let same : length (set points i p) ≡ length points = length-set points i p in
    (omega (arith, same), prices, count ∙ sym same, (λ j. set (shown j) i (is j)) ∙ seen-set points i p lt)

-- If two lists of the same length are the same at each place before n, and from n on, then they are the same.
pub same-both : {A : Type 0} (n : ℕ) (xs ys : List A) → length xs ≡ length ys → ((k : ℕ) (d : A) → k < n → get_or xs k d ≡ get_or ys k d)
    → drop n xs ≡ drop n ys → xs ≡ ys
same-both zero xs ys len front rest = rest
same-both (suc n) [] [] len front rest = refl
same-both (suc n) [] (y ∷ ys) len front rest = absurd (omega arith)
same-both (suc n) (x ∷ xs) [] len front rest = absurd (omega arith)
same-both (suc n) (x ∷ xs) (y ∷ ys) len front rest =
    let same : xs ≡ ys = same-both n xs ys (omega arith) (λ k d lt. front (suc k) d (omega arith)) rest in
    λ i. front zero x (omega arith) i ∷ same i

-- If a list of at most n items is mapped and then filled up to m places with z, the places from n on have only z.
drop-filled : {A B : Type 0} (f : A → B) (z : B) (xs : List A) (n m : ℕ) → length xs ≤ n
    → drop n (map f xs ++ replicate (m - length xs) z) ≡ replicate (m - n) z
drop-filled f z [] n m le =
    let all : m - 0 ≡ m = omega arith in
    ap (λ k. drop n (replicate k z)) all ∙ drop-replicate n m z
drop-filled f z (x ∷ xs) zero m le = absurd (omega arith)
drop-filled f z (x ∷ xs) (suc n) m le =
    let less : m - suc (length xs) ≡ (m - 1) - length xs = omega arith in
    let left : (m - 1) - n ≡ m - suc n = omega arith in
    ap (λ k. drop n (map f xs ++ replicate k z)) less ∙ drop-filled f z xs n (m - 1) (omega arith) ∙ ap (λ k. replicate k z) left

-- If n is the greater of the counts of two views of at most 32 points, then n is at most 32, and the points of both
-- views are the same from place n on.
pub same-others : (s t : SiteState) (v w : View) (n : ℕ) → v ≡ view_of s → w ≡ view_of t → length s.points ≤ 32 → length t.points ≤ 32
    → n ≡ max v.count w.count → (n ≤ 32) × (drop n v.points ≡ drop n w.points)
unfolding view_of seen_points
same-others s t v w n v_is w_is v_few w_few greater =
    let v_count : v.count ≡ length s.points = λ i. (v_is i).count in
    let w_count : w.count ≡ length t.points = λ i. (w_is i).count in
    let v_points : drop n v.points ≡ drop n (map seen s.points ++ replicate (32 - length s.points) no_point) = λ i. drop n (v_is i).points in
    let w_points : drop n w.points ≡ drop n (map seen t.points ++ replicate (32 - length t.points) no_point) = λ i. drop n (w_is i).points in (
      omega (arith, greater),
      v_points ∙ drop-filled seen no_point s.points n 32 (omega (arith, greater)) ∙ sym (drop-filled seen no_point t.points n 32 (omega (arith, greater)))
          ∙ sym w_points,
    )

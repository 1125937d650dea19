-- The JSON object of a row has no floating-point number. So the contract of `serde_json` says exactly what text is
-- written for the object.
use Rattle.std.proofs.Common.{◌≡◌, ℕ, List, [], ◌∷◌, false, refl}
use Rattle.std.proofs.lemmas.Bool.{or_from, or_parts}
use Rattle.std.specs.Ordering.{nat_cmp, match_ordering}
use Rattle.std.specs.declared.cmp.Ordering.TheVariants.{Less, Equal, Greater}
use Rattle.std.specs.Cmp.Lexicographic.{slice_cmp}
use Rattle.serde_json.specs.Data.{Data, Members, no_members, member, put}
use Rattle.serde_json.specs.Written.{has_float, members_have_float}
use Rattle.day_export.specs.declared.cells.Cell.{Cell}
use Rattle.day_export.specs.declared.cells.Cell.TheVariants as cell
use Rattle.day_export.specs.Text.{cell_data, object_of, with_cells}

cell-plain : (c : Cell) → has_float (cell_data c) ≡ false
unfolding cell_data
cell-plain (cell.Number n) = refl
cell-plain (cell.Word w) = refl
cell-plain cell.Nothing = refl

-- If an object has no float, and a member without a float is put into the object, then the result has no float.
put-plain : (k : List ℕ) (d : Data) (ms : Members) → has_float d ≡ false → members_have_float ms ≡ false → members_have_float (put k d ms) ≡ false
put-plain k d no_members p q = or_from (has_float d) false p refl
put-plain k d (member l e ms) p q =
    let here = (or_parts (has_float e) (members_have_float ms) q).0 in
    let later = (or_parts (has_float e) (members_have_float ms) q).1 in
    elim (slice_cmp nat_cmp k l) as (λ o. members_have_float (match_ordering o (member k d (member l e ms)) (member l d ms) (member l e (put k d ms))) ≡ false) [
      | Less ↦ or_from (has_float d) _ p q
      | Equal ↦ or_from (has_float d) _ p later
      | Greater ↦ or_from (has_float e) _ here (put-plain k d ms p later)
    ]

cells-plain : (ms : Members) (names : List (List ℕ)) (cells : List Cell) → members_have_float ms ≡ false → members_have_float (with_cells ms names cells) ≡ false
cells-plain ms [] cells p = p
cells-plain ms (n ∷ names) [] p = p
cells-plain ms (n ∷ names) (c ∷ cells) p = cells-plain (put n (cell_data c) ms) names cells (put-plain n (cell_data c) ms (cell-plain c) p)

pub object-plain : (names : List (List ℕ)) (cells : List Cell) → has_float (object_of names cells) ≡ false
object-plain names cells = cells-plain no_members names cells refl

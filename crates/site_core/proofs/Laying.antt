-- Writing fields one after another into bytes gives the bytes of all fields.
use Rattle.std.proofs.Common.{◌≡◌, ℕ, ◌+◌, ◌-◌, ◌<◌, ◌≤◌, List, [], ◌∷◌, ◌++◌, length, take, refl, sym, ap, ◌∙◌, arith, get_or}
use Rattle.std.specs.Prelude.{drop}
use Rattle.std.proofs.lemmas.List.{take_more, take-append-drop, length-append, append_assoc, length-take-le, length-drop}
use Rattle.std.proofs.lemmas.Slice.{take-put_mid}
use borrow.Rule.Slice.PartMut.{put_mid, same_len_mid}
use Rattle.site_core.specs.declared.context.Field.{Field}
use Rattle.site_core.specs.declared.context.Field.TheVariants.{Four, Eight}
use Rattle.site_core.specs.Context.{size_of, field_bytes, laid}

pub length-field : (f : Field) → length (field_bytes f) ≡ size_of f
length-field (Four x) = refl
length-field (Eight x) = refl

pub laid-none : laid [] ≡ []
unfolding laid
laid-none = refl

laid-one : (f : Field) → laid (f ∷ []) ≡ field_bytes f
unfolding laid
laid-one (Four x) = refl
laid-one (Eight x) = refl

laid-append : (xs ys : List Field) → laid (xs ++ ys) ≡ laid xs ++ laid ys
unfolding laid
laid-append [] ys = refl
laid-append (x ∷ xs) ys = ap (λ bytes. field_bytes x ++ bytes) (laid-append xs ys) ∙ sym (append_assoc (field_bytes x) (laid xs) (laid ys))

pub laid-more : (fs : List Field) (i : ℕ) (d : Field) → i < length fs → laid (take (i + 1) fs) ≡ laid (take i fs) ++ field_bytes (get_or fs i d)
laid-more fs i d lt =
    ap laid (take_more fs i d lt) ∙ laid-append (take i fs) (get_or fs i d ∷ []) ∙ ap (λ bytes. laid (take i fs) ++ bytes) (laid-one (get_or fs i d))

-- The first i fields and the field after them take together at most as many bytes as all fields.
pub laid-room : (fs : List Field) (i : ℕ) (d : Field) → i < length fs → length (laid (take i fs)) + size_of (get_or fs i d) ≤ length (laid fs)
laid-room fs i d lt =
    let whole : length (laid fs) ≡ length (laid (take (i + 1) fs) ++ laid (drop (i + 1) fs)) =
    ap (λ l. length (laid l)) (sym (take-append-drop (i + 1) fs)) ∙ ap length (laid-append (take (i + 1) fs) (drop (i + 1) fs)) in
    let two = length-append (laid (take (i + 1) fs)) (laid (drop (i + 1) fs)) in
    let more = ap length (laid-more fs i d lt) in
    let one = length-append (laid (take i fs)) (field_bytes (get_or fs i d)) in
    let size = length-field (get_or fs i d) in
    omega (arith, whole, two, more, one, size)

-- If the first i fields are written, then writing the next field after them gives the first i + 1 fields.
pub laid-put : (fs : List Field) (i at size : ℕ) (d : Field) (bytes ys : List ℕ) → i < length fs → at ≡ length (laid (take i fs))
    → length bytes ≡ length (laid fs) → take at bytes ≡ laid (take i fs) → size ≡ size_of (get_or fs i d) → ys ≡ field_bytes (get_or fs i d)
    → (at + size ≡ length (laid (take (i + 1) fs))) × (length (put_mid at (at + size - at) bytes ys) ≡ length (laid fs))
    × (take (at + size) (put_mid at (at + size - at) bytes ys) ≡ laid (take (i + 1) fs))
laid-put fs i at size d bytes ys lt begins many front is put =
    let room = laid-room fs i d lt in
    let more = laid-more fs i d lt in
    let all = ap length more ∙ length-append (laid (take i fs)) (field_bytes (get_or fs i d)) in
    let wide = length-field (get_or fs i d) in
    let long : length ys ≡ size = omega (arith, ap length put, wide, is) in
    let next : at + size ≡ at + length ys = omega (arith, long) in
    let inside : at ≤ length bytes = omega (arith, room, begins, many) in
    let k = at + size - at in
    let part : length (take k (drop at bytes)) ≡ k =
    length-take-le k (drop at bytes) (let rest = length-drop at bytes in omega (arith, rest, room, begins, many, is)) in (
      omega (arith, all, wide, begins, is),
      same_len_mid at k bytes ys (omega (arith, part, long)) ∙ many,
      take-put_mid at k bytes ys (at + size) next inside ∙ ap (λ l. l ++ ys) front ∙ ap (λ l. laid (take i fs) ++ l) put ∙ sym more,
    )

-- Lemmas on pointers that are stored in the stack, and on spills. A spill is the type of such a pointer as a number. If
-- before a store the stack holds a pointer for each spill, then after the store it holds a pointer for each spill that
-- the store leaves or adds.
use Rattle.std.proofs.Common.{◌≡◌, ◌≢◌, ℕ, zero, suc, ◌+◌, ◌-◌, ◌*◌, ◌<◌, ◌≤◌, ◌⊎◌, ◌↔◌, List, [], ◌∷◌, Option, Some, None, Bool, true, false, refl, sym, ap}
use Rattle.std.proofs.Common.{◌∙◌, subst, inl, inr, arith, length}
use Rattle.std.specs.Prelude.{pos, negsuc, ◌+ℤ◌, ◌/◌, ◌%◌, ◌==◌, ◌&&◌, cond, nat_le, nat_lt, slice_set, slice_index, ⊤}
use Rattle.std.proofs.lemmas.Bool.{cases_lt, cases_eq, eqb-true, eq-eqb, and_parts, and_from}
use Rattle.std.proofs.lemmas.Bool.Decides.{nat_tests}
use Rattle.std.proofs.lemmas.Int.{ints}
use Rattle.std.proofs.lemmas.List.{get_or-set_other, get_or-set_same, get_or-replicate, get_or_past, length-set, length-replicate, ext_get_or}
use Rattle.bpf_model.specs.declared.machine.Value.{Value}
use Rattle.bpf_model.specs.declared.machine.Value.TheVariants.{Unset, Number, Context, Stack}
use Rattle.bpf_model.specs.declared.machine.Cell.{Cell}
use Rattle.bpf_model.specs.declared.machine.Cell.TheVariants.{Empty, Byte, Piece}
use Rattle.bpf_model.specs.Machine.{cell_at, low_byte, written, pieces_written, same_pointer, is_piece, has_pieces, value_if, pointer_from, pointer_at, is_aligned}
use Rattle.verifier.specs.Places.{Has, Within}
use Rattle.verifier.specs.declared.types.RegType.{RegType}
use Rattle.verifier.specs.declared.types.RegType.TheVariants.{Unset as Anything, Num, Const, Ctx, Stk}
use Rattle.verifier.specs.Rules.{is_unset, is_pointer, natural, lowest, spill_of, spilled_type}
use Rattle.verifier.specs.declared.types.Fact.{Fact}
use Rattle.verifier.specs.Effects.{Effect}
use Rattle.verifier.specs.Facts.{FitsType, FitsSpill, HasAfter, IsAfter}
use Rattle.verifier.specs.Inference.{no_spills, touches, respilled, join_spills}

-- ---- a store changes no cell outside the bytes that it writes

apart : (at n p : ℕ) → (p < at) ⊎ (at + suc n ≤ p) → ((p < suc at) ⊎ (suc at + n ≤ p)) × (p ≢ at)
apart at n p (inl l) = (inl (omega (arith, l)), omega (arith, l))
apart at n p (inr l) = (inr (omega (arith, l)), omega (arith, l))

pub written_other : (stack : List Cell) (at : ℕ) (bytes : List ℕ) (p : ℕ) → (p < at) ⊎ (at + length bytes ≤ p)
    → cell_at (written stack at bytes) p ≡ cell_at stack p
written_other stack at [] p o = refl
written_other stack at (b ∷ bytes) p o =
    let x = apart at (length bytes) p o in
    written_other (slice_set stack at (Byte b)) (suc at) bytes p x.0 ∙ get_or-set_other stack at p (Byte b) Empty x.1

pub pieces_other : (stack : List Cell) (at : ℕ) (v : Value) (i n p : ℕ) → (p < at) ⊎ (at + n ≤ p) → cell_at (pieces_written stack at v i n) p ≡ cell_at stack p
pieces_other stack at v i zero p o = refl
pieces_other stack at v i (suc n) p o =
    let x = apart at n p o in
    pieces_other (slice_set stack at (Piece v i)) (suc at) v (suc i) n p x.0 ∙ get_or-set_other stack at p (Piece v i) Empty x.1

pub length-pieces : (stack : List Cell) (at : ℕ) (v : Value) (i n : ℕ) → length (pieces_written stack at v i n) ≡ length stack
length-pieces stack at v i zero = refl
length-pieces stack at v i (suc n) = length-pieces (slice_set stack at (Piece v i)) (suc at) v (suc i) n ∙ length-set stack at (Piece v i)

-- ---- whether eight cells hold a pointer depends on these cells only; after a store of a pointer, they hold it

has_pieces_same : (a b : List Cell) (v : Value) (at i n : ℕ) → ((p : ℕ) → at ≤ p → p < at + n → cell_at a p ≡ cell_at b p)
    → has_pieces a at v i n ≡ has_pieces b at v i n
has_pieces_same a b v at i zero h = refl
has_pieces_same a b v at i (suc n) h =
    ap (λ c. is_piece c v i && has_pieces a (suc at) v (suc i) n) (h at (omega arith) (omega arith))
    ∙ ap (λ t. is_piece (cell_at b at) v i && t) (has_pieces_same a b v (suc at) (suc i) n (λ p l m. h p (omega (arith, l)) (omega (arith, m))))

kept_by_cells : (c : Cell) (a b : List Cell) (at : ℕ) → ((p : ℕ) → at ≤ p → p < at + 8 → cell_at a p ≡ cell_at b p) → pointer_from c a at ≡ pointer_from c b at
kept_by_cells (Piece v i) a b at h = ap (λ t. value_if t v) (has_pieces_same a b v at 0 8 h)
kept_by_cells Empty a b at h = refl
kept_by_cells (Byte n) a b at h = refl

pub kept_same : (a b : List Cell) (at : ℕ) → ((p : ℕ) → at ≤ p → p < at + 8 → cell_at a p ≡ cell_at b p) → pointer_at a at ≡ pointer_at b at
kept_same a b at h = ap (λ c. pointer_from c a at) (h at (omega arith) (omega arith)) ∙ kept_by_cells (cell_at b at) a b at h

abbrev pub IsPointer : Value → Type 0
IsPointer (Context k) = ⊤
IsPointer (Stack k) = ⊤
IsPointer Unset = ⊥
IsPointer (Number n) = ⊥

same_self : (v : Value) → IsPointer v → same_pointer v v ≡ true
same_self (Context k) h = eq-eqb k k refl
same_self (Stack k) h = eq-eqb k k refl
same_self Unset h = absurd h
same_self (Number n) h = absurd h

piece_self : (v : Value) (i : ℕ) → IsPointer v → is_piece (Piece v i) v i ≡ true
piece_self v i h = and_from (same_pointer v v) (i == i) (same_self v h) (eq-eqb i i refl)

first_piece : (stack : List Cell) (at : ℕ) (v : Value) (i n : ℕ) → at < length stack → cell_at (pieces_written stack at v i (suc n)) at ≡ Piece v i
first_piece stack at v i n l =
    pieces_other (slice_set stack at (Piece v i)) (suc at) v (suc i) n at (inl (omega arith)) ∙ get_or-set_same stack at (Piece v i) Empty l

pieces_there : (stack : List Cell) (at : ℕ) (v : Value) (i n : ℕ) → IsPointer v → at + n ≤ length stack
    → has_pieces (pieces_written stack at v i n) at v i n ≡ true
pieces_there stack at v i zero p l = refl
pieces_there stack at v i (suc n) p l =
    let next = slice_set stack at (Piece v i) in
    let long = length-set stack at (Piece v i) in
    let all = pieces_written next (suc at) v (suc i) n in
    and_from (is_piece (cell_at all at) v i) (has_pieces all (suc at) v (suc i) n) (ap (λ c. is_piece c v i) (first_piece stack at v i n (omega (arith, l)))
    ∙ piece_self v i p) (pieces_there next (suc at) v (suc i) n p (omega (arith, l, long)))

pub kept_there : (stack : List Cell) (at : ℕ) (v : Value) → IsPointer v → at + 8 ≤ length stack → pointer_at (pieces_written stack at v 0 8) at ≡ Some v
kept_there stack at v p l =
    let all = pieces_written stack at v 0 8 in
    ap (λ c. pointer_from c all at) (first_piece stack at v 0 7 (omega (arith, l))) ∙ ap (λ t. value_if t v) (pieces_there stack at v 0 8 p l)

-- if c is the first of eight cells that hold a pointer, then a load from c on gives no number
pub no_number : (c : Cell) (stack : List Cell) (at : ℕ) (v : Value) (o : Option ℕ) → pointer_from c stack at ≡ Some v → low_byte c o ≡ None
no_number (Piece w i) stack at v o e = refl
no_number Empty stack at v o e = refl
no_number (Byte b) stack at v o e = absurd (cc)

pub pointer_of : (t : RegType) (v : Value) → FitsType t v → is_pointer t ≡ true → IsPointer v
pointer_of (Ctx k) (Context n) h e = tt
pointer_of (Stk k) (Stack n) h e = tt
pointer_of Anything v h e = absurd (cc)
pointer_of Num v h e = absurd (cc)
pointer_of (Const c) v h e = absurd (cc)
pointer_of (Ctx k) Unset h e = absurd h
pointer_of (Ctx k) (Number n) h e = absurd h
pointer_of (Ctx k) (Stack n) h e = absurd h
pointer_of (Stk k) Unset h e = absurd h
pointer_of (Stk k) (Number n) h e = absurd h
pointer_of (Stk k) (Context n) h e = absurd h

pub pointer_set : (t : RegType) → is_pointer t ≡ true → is_unset t ≡ false
pointer_set (Ctx k) e = refl
pointer_set (Stk k) e = refl
pointer_set Anything e = absurd (cc)
pointer_set Num e = absurd (cc)
pointer_set (Const c) e = absurd (cc)

pub aligned : (size at : ℕ) → is_aligned size at ≡ true → (size ≡ 8) × (at % 8 ≡ 0)
aligned size at e = let h = and_parts (size == 8) (at % 8 == 0) e in (eqb-true size 8 h.0, eqb-true (at % 8) 0 h.1)

-- ---- if the stack holds a pointer for each spill, it still does so after a store of bytes or of a pointer

le_from : (m n : ℕ) → nat_le m n ≡ true → m ≤ n
le_from m n e = grind (arith, nat_tests)

lt_from : (m n : ℕ) → nat_lt m n ≡ true → m < n
lt_from m n e = grind (arith, nat_tests)

not_below : (m n : ℕ) → nat_lt m n ≡ false → n ≤ m
not_below m n e = grind (arith, nat_tests)

pub spilled_context : (k : ℕ) → k ≤ 80 → spilled_type (k + 1) ≡ Ctx k
spilled_context k l =
    let some : (k + 1 == 0) ≡ false = grind (arith, nat_tests) in
    let small : nat_le (k + 1) 81 ≡ true = grind (arith, nat_tests) in
    let back : k + 1 - 1 ≡ k = omega arith in
    ap (λ b. cond b Anything (cond (nat_le (k + 1) 81) (Ctx (k + 1 - 1)) (Stk (pos (k + 1 - 82) +ℤ negsuc 511)))) some
    ∙ ap (λ b. cond b (Ctx (k + 1 - 1)) (Stk (pos (k + 1 - 82) +ℤ negsuc 511))) small
    ∙ ap Ctx back

pub spilled_stack : (m : ℕ) → spilled_type (82 + m) ≡ Stk (pos m +ℤ negsuc 511)
spilled_stack m =
    let some : (82 + m == 0) ≡ false = grind (arith, nat_tests) in
    let large : nat_le (82 + m) 81 ≡ false = grind (arith, nat_tests) in
    let back : 82 + m - 82 ≡ m = omega arith in
    ap (λ b. cond b Anything (cond (nat_le (82 + m) 81) (Ctx (82 + m - 1)) (Stk (pos (82 + m - 82) +ℤ negsuc 511)))) some
    ∙ ap (λ b. cond b (Ctx (82 + m - 1)) (Stk (pos (82 + m - 82) +ℤ negsuc 511))) large
    ∙ ap (λ x. Stk (pos x +ℤ negsuc 511)) back

pub back_again : (m : ℕ) → pos m ≡ ((pos m +ℤ negsuc 511) +ℤ pos 512)
back_again m = omega (arith, ints)

context_spill : (b : Bool) (k n : ℕ) → (b ≡ true → k ≤ 80) → n ≡ k → is_unset (spilled_type (cond b (k + 1) 0)) ≡ false
    → FitsType (spilled_type (cond b (k + 1) 0)) (Context n)
context_spill true k n l e u = subst (λ t. FitsType t (Context n)) (sym (spilled_context k (l refl))) e
context_spill false k n l e u = absurd (cc)

stack_spill : (b : Bool) (m n : ℕ) → n ≡ m → is_unset (spilled_type (cond b (82 + m) 0)) ≡ false → FitsType (spilled_type (cond b (82 + m) 0)) (Stack n)
stack_spill true m n e u = subst (λ t. FitsType t (Stack n)) (sym (spilled_stack m)) (ap pos e ∙ back_again m)
stack_spill false m n e u = absurd (cc)

-- A spill is a pointer's type as a number. If a value fits type t, and the type that is read back from the spill of t
-- isn't Unset, then the value also fits the type that is read back.
pub spill_fits : (t : RegType) (v : Value) → FitsType t v → is_unset (spilled_type (spill_of t)) ≡ false → FitsType (spilled_type (spill_of t)) v
spill_fits (Ctx k) (Context n) h u = context_spill (nat_le k 80) k n (λ e. le_from k 80 e) h u
spill_fits (Stk k) (Stack n) h u = stack_spill (nat_le (lowest k) 512) (lowest k) n (sym (ap natural (sym h))) u
spill_fits Anything v h u = absurd (cc)
spill_fits Num v h u = absurd (cc)
spill_fits (Const c) v h u = absurd (cc)
spill_fits (Ctx k) Unset h u = absurd h
spill_fits (Ctx k) (Number n) h u = absurd h
spill_fits (Ctx k) (Stack n) h u = absurd h
spill_fits (Stk k) Unset h u = absurd h
spill_fits (Stk k) (Number n) h u = absurd h
spill_fits (Stk k) (Context n) h u = absurd h

-- a spill of 0 means that no pointer is known, so it fits every stack
pub no_spill_fits : (spill : ℕ) (stack : List Cell) (at : ℕ) → spill ≡ 0 → FitsSpill (spilled_type spill) stack at
no_spill_fits spill stack at z = subst (λ n. FitsSpill (spilled_type n) stack at) (sym z) (λ u. absurd (cc))

kept_on : (t : RegType) (a b : List Cell) (at : ℕ) → pointer_at b at ≡ pointer_at a at → FitsSpill t a at → FitsSpill t b at
kept_on t a b at e h = λ u. let x = h u in (x.0, x.1, e ∙ x.2)

pub none_spilled : (k : ℕ) → slice_index no_spills k ≡ 0
none_spilled k =
    elim (cases_lt k 64) [
      | inl l ↦ get_or-replicate {A = ℕ} 64 k 0 0 l
      | inr l ↦ get_or_past no_spills k 0 (let n = length-replicate {A = ℕ} 64 0 in omega (arith, n, l))
    ]

-- the join of two spills is equal to both of them, or it is 0
join_if : (a b : ℕ) (t : Bool) → (t ≡ true → a ≡ b) → ((cond t a 0 ≡ a) × (cond t a 0 ≡ b)) ⊎ (cond t a 0 ≡ 0)
join_if a b true e = inl (refl, e refl)
join_if a b false e = inr refl

pub joined_spill : (a b : List ℕ) (k : ℕ) → ((slice_index (join_spills a b) k ≡ slice_index a k) × (slice_index (join_spills a b) k ≡ slice_index b k))
    ⊎ (slice_index (join_spills a b) k ≡ 0)
joined_spill [] b k = inr refl
joined_spill (x ∷ a) [] k = inr refl
joined_spill (x ∷ a) (y ∷ b) zero = join_if x y (x == y) (eqb-true x y)
joined_spill (x ∷ a) (y ∷ b) (suc k) = joined_spill a b k

-- `old` is the spill of an aligned place before a store, and `new` the one after it. The store writes a value with the
-- spill n. If the store touches the place, `new` is n or 0. If it doesn't, `new` is `old` or 0.
abbrev IsRespilled : Bool → ℕ → ℕ → ℕ → Type 0
IsRespilled touched n old new = (new ≡ 0) ⊎ (((touched ≡ false) × (new ≡ old)) ⊎ ((touched ≡ true) × (new ≡ n)))

respilled_if : (b : Bool) (n m : ℕ) → IsRespilled b n m (cond b n m)
respilled_if true n m = inr (inr (refl, refl))
respilled_if false n m = inr (inl (refl, refl))

respilled_is : (n at len j : ℕ) (spills : List ℕ) (k q : ℕ) → q ≡ j + k
    → IsRespilled (touches at len q) n (slice_index spills k) (slice_index (respilled n at len j spills) k)
respilled_is n at len j [] k q e = inl refl
respilled_is n at len j (m ∷ rest) zero q e =
    let same : j ≡ q = omega (arith, e) in
    subst (λ x. IsRespilled (touches at len x) n m (cond (touches at len j) n m)) same (respilled_if (touches at len j) n m)
respilled_is n at len j (m ∷ rest) (suc k) q e = respilled_is n at len (suc j) rest k q (omega (arith, e))

untouched_by : (a b : Bool) → (a && b) ≡ false → (a ≡ false) ⊎ (b ≡ false)
untouched_by true b e = inr e
untouched_by false b e = inl refl

-- if a store doesn't touch aligned place k, then each byte p of the place lies before or after the written bytes
untouched : (at len k p : ℕ) → touches at len k ≡ false → 8 * k ≤ p → p < 8 * k + 8 → (p < at) ⊎ (at + len ≤ p)
untouched at len k p e l m = elim (untouched_by (nat_lt at (8 * k + 8)) (nat_lt (8 * k) (at + len)) e) [
  | inl a ↦ inl (let b = not_below at (8 * k + 8) a in omega (arith, b, m))
  | inr a ↦ inr (let b = not_below (8 * k) (at + len) a in omega (arith, b, l))
]

touched : (at k : ℕ) → at % 8 ≡ 0 → touches at 8 k ≡ true → 8 * k ≡ at
touched at k z e =
    let h = and_parts (nat_lt at (8 * k + 8)) (nat_lt (8 * k) (at + 8)) e in
    let a = lt_from at (8 * k + 8) h.0 in
    let b = lt_from (8 * k) (at + 8) h.1 in
    omega (arith, z, a, b)

abbrev AllSpillsFit : List ℕ → List Cell → Type 0
AllSpillsFit spills stack = (k : ℕ) → FitsSpill (spilled_type (slice_index spills k)) stack (8 * k)

-- If the stack holds a pointer for each spill of `spills`, then after a store of plain bytes it holds a pointer for
-- each spill of `after`. In `after` the aligned places that the store touches have the spill 0 (no pointer), and all
-- others have the spill that they had before.
pub kept_after_bytes : (spills after : List ℕ) (stack : List Cell) (at : ℕ) (bytes : List ℕ) → after ≡ respilled 0 at (length bytes) 0 spills → AllSpillsFit spills stack
    → AllSpillsFit after (written stack at bytes)
kept_after_bytes spills after stack at bytes e all k =
    let new = slice_index (respilled 0 at (length bytes) 0 spills) k in
    subst (λ ns. FitsSpill (spilled_type (slice_index ns k)) (written stack at bytes) (8 * k)) (sym e)
    (elim (respilled_is 0 at (length bytes) 0 spills k k (omega arith)) [
      | inl none ↦ no_spill_fits new (written stack at bytes) (8 * k) none
      | inr some ↦ elim some [
        | inl old ↦ subst (λ m. FitsSpill (spilled_type m) (written stack at bytes) (8 * k)) (sym old.1)
            (kept_on (spilled_type (slice_index spills k)) stack (written stack at bytes) (8 * k)
            (kept_same (written stack at bytes) stack (8 * k) (λ p l m. written_other stack at bytes p (untouched at (length bytes) k p old.0 l m)))
            (all k))
        | inr none ↦ no_spill_fits new (written stack at bytes) (8 * k) none.1
      ]
    ])

-- If the stack holds a pointer for each spill of `spills`, and the pointer v, which fits type t, is written to the
-- eight bytes of the stack from `at` on (a multiple of 8), then the stack holds a pointer for each spill of `after`. In
-- `after` these eight bytes have the spill of t, and all other aligned places have the spill that they had before.
pub kept_after_pointer : (spills after : List ℕ) (stack : List Cell) (at : ℕ) (t : RegType) (v : Value) → after ≡ respilled (spill_of t) at 8 0 spills → at % 8 ≡ 0
    → at + 8 ≤ length stack → IsPointer v → FitsType t v → AllSpillsFit spills stack → AllSpillsFit after (pieces_written stack at v 0 8)
kept_after_pointer spills after stack at t v e z inside p f all k =
    let new = slice_index (respilled (spill_of t) at 8 0 spills) k in
    let cells = pieces_written stack at v 0 8 in
    subst (λ ns. FitsSpill (spilled_type (slice_index ns k)) (pieces_written stack at v 0 8) (8 * k)) (sym e)
    (elim (respilled_is (spill_of t) at 8 0 spills k k (omega arith)) [
      | inl none ↦ no_spill_fits new (pieces_written stack at v 0 8) (8 * k) none
      | inr some ↦ elim some [
        | inl old ↦ subst (λ m. FitsSpill (spilled_type m) (pieces_written stack at v 0 8) (8 * k)) (sym old.1)
            (kept_on (spilled_type (slice_index spills k)) stack (pieces_written stack at v 0 8) (8 * k)
            (kept_same (pieces_written stack at v 0 8) stack (8 * k) (λ q l m. pieces_other stack at v 0 8 q (untouched at 8 k q old.0 l m)))
            (all k))
        | inr here ↦ subst (λ m. FitsSpill (spilled_type m) (pieces_written stack at v 0 8) (8 * k)) (sym here.1)
            (λ u. (v, spill_fits t v f u, ap (pointer_at (pieces_written stack at v 0 8)) (touched at k z here.0) ∙ kept_there stack at v p inside))
      ]
    ])

-- if byte p of the stack isn't one of the `len` bytes from `at` on, then it lies before or after them
pub outside : (at len p : ℕ) → ¬ (Within at len p) → (p < at) ⊎ (at + len ≤ p)
outside at len p out = elim (cases_lt p at) [
  | inl l ↦ inl l
  | inr l ↦ elim (cases_lt p (at + len)) [ inl m ↦ absurd (out (l, m)) | inr m ↦ inr m ]
]

-- ---- the loops of the code over the spills compute what `join_spills` and `respilled` define

abbrev pub both_spill : ℕ → ℕ → ℕ
both_spill a b = cond (a == b) a 0

spill_at-joined : (a b : List ℕ) (k : ℕ) → length a ≡ length b → slice_index (join_spills a b) k ≡ both_spill (slice_index a k) (slice_index b k)
spill_at-joined [] [] k e = refl
spill_at-joined [] (y ∷ b) k e = absurd (omega (arith, e))
spill_at-joined (x ∷ a) [] k e = absurd (omega (arith, e))
spill_at-joined (x ∷ a) (y ∷ b) zero e = refl
spill_at-joined (x ∷ a) (y ∷ b) (suc k) e = spill_at-joined a b k (omega (arith, e))

length-joined_spills : (a b : List ℕ) → length a ≡ length b → length (join_spills a b) ≡ length b
length-joined_spills [] [] e = refl
length-joined_spills [] (y ∷ b) e = absurd (omega (arith, e))
length-joined_spills (x ∷ a) [] e = absurd (omega (arith, e))
length-joined_spills (x ∷ a) (y ∷ b) e = ap suc (length-joined_spills a b (omega (arith, e)))

-- One step of the loop that joins the spills of `b` into those of `a`. If the first r spills of `ts` are joined, and
-- spill r of `ts` is still that of `a`, then the first r + 1 spills are joined after spill r was set to its join with
-- spill r of `b`.
pub spill_step : (ts a b : List ℕ) (r v : ℕ) → r < length ts → v ≡ both_spill (slice_index ts r) (slice_index b r) → slice_index ts r ≡ slice_index a r
    → ((k : ℕ) → k < r → slice_index ts k ≡ both_spill (slice_index a k) (slice_index b k)) → (k : ℕ) → k < r + 1
    → slice_index (slice_set ts r v) k ≡ both_spill (slice_index a k) (slice_index b k)
spill_step ts a b r v l e same below k h =
    elim (cases_eq k r) [
      | inl at ↦ subst (λ q. slice_index (slice_set ts r v) q ≡ both_spill (slice_index a q) (slice_index b q)) (sym at) (get_or-set_same ts r v 0 l ∙ e ∙ ap
          (λ t. both_spill t (slice_index b r)) same)
      | inr other ↦ get_or-set_other ts r k v 0 other ∙ below k (omega (arith, h, other))
    ]

pub spill_rest : (ts a : List ℕ) (r v : ℕ) → ((k : ℕ) → r ≤ k → slice_index ts k ≡ slice_index a k) → (k : ℕ) → r + 1 ≤ k
    → slice_index (slice_set ts r v) k ≡ slice_index a k
spill_rest ts a r v above k h = let other : k ≢ r = omega arith in get_or-set_other ts r k v 0 other ∙ above k (omega arith)

pub spills_joined : (a b j : List ℕ) (n : ℕ) → length a ≡ 64 → length b ≡ 64 → length j ≡ 64 → 64 ≤ n
    → ((k : ℕ) → k < n → slice_index j k ≡ both_spill (slice_index a k) (slice_index b k)) → j ≡ join_spills a b
spills_joined a b j n la lb lj le h =
    let long = length-joined_spills a b (la ∙ sym lb) in
    ext_get_or 0 j (join_spills a b) (omega (arith, long, lb, lj)) (λ k l. h k (omega (arith, l, lj, le)) ∙ sym (spill_at-joined a b k (la ∙ sym lb)))

spill_at-respilled : (n at len j : ℕ) (spills : List ℕ) (k q : ℕ) → q ≡ j + k → k < length spills
    → slice_index (respilled n at len j spills) k ≡ cond (touches at len q) n (slice_index spills k)
spill_at-respilled n at len j [] k q e l = absurd (omega (arith, l))
spill_at-respilled n at len j (m ∷ rest) zero q e l = let same : j ≡ q = omega (arith, e) in ap (λ x. cond (touches at len x) n m) same
spill_at-respilled n at len j (m ∷ rest) (suc k) q e l = spill_at-respilled n at len (suc j) rest k q (omega (arith, e)) (omega (arith, l))

length-respilled : (n at len j : ℕ) (spills : List ℕ) → length (respilled n at len j spills) ≡ length spills
length-respilled n at len j [] = refl
length-respilled n at len j (m ∷ rest) = ap suc (length-respilled n at len (suc j) rest)

-- `new` has 64 spills, one for each aligned place (eight bytes). From index `at` / 8 to index k - 1 each spill is n,
-- the one that was put there. All other spills are those of `old`.
pub record ArePut (n at k : ℕ) (old new : List ℕ) : Type 0 where
  pub long : length new ≡ 64
  pub inside : (j : ℕ) → at / 8 ≤ j → j < k → slice_index new j ≡ n
  pub before : (j : ℕ) → j < at / 8 → slice_index new j ≡ slice_index old j
  pub behind : (j : ℕ) → k ≤ j → slice_index new j ≡ slice_index old j

pub none_put : (n at : ℕ) (spills : List ℕ) → length spills ≡ 64 → ArePut n at (at / 8) spills spills
none_put n at spills l = record { long = l; inside = λ j a b. absurd (omega (arith, a, b)); before = λ j a. refl; behind = λ j a. refl }

pub more_put : (n at k : ℕ) (old new : List ℕ) → at / 8 ≤ k → k < 64 → ArePut n at k old new → ArePut n at (k + 1) old (slice_set new k n)
more_put n at k old new first small h =
    let long = h.long in
    record {
      long = length-set new k n ∙ h.long;
      inside = λ j a b. elim (cases_eq j k) [
        | inl same ↦ subst (λ q. slice_index (slice_set new k n) q ≡ n) (sym same) (get_or-set_same new k n 0 (omega (arith, small, long)))
        | inr other ↦ get_or-set_other new k j n 0 other ∙ h.inside j a (omega (arith, b, other))
      ];
      before = λ j a. let other : j ≢ k = omega (arith, a, first) in get_or-set_other new k j n 0 other ∙ h.before j a;
      behind = λ j a. let other : j ≢ k = omega (arith, a) in get_or-set_other new k j n 0 other ∙ h.behind j (omega (arith, a));
    }

put_if : (b : Bool) (n m new : ℕ) → (b ≡ true → new ≡ n) → (b ≡ false → new ≡ m) → new ≡ cond b n m
put_if true n m new f g = f refl
put_if false n m new f g = g refl

pub all_put : (n at len k : ℕ) (old new : List ℕ) → length old ≡ 64 → at + len ≤ 8 * k → 8 * k < at + len + 8 → ArePut n at k old new
    → new ≡ respilled n at len 0 old
all_put n at len k old new lo enough least h =
    let long = length-respilled n at len 0 old in
    let room = h.long in
    ext_get_or 0 new (respilled n at len 0 old) (omega (arith, long, lo, room))
    (λ j l. put_if (touches at len j) n (slice_index old j) (slice_index new j)
    (λ t. let x = and_parts (nat_lt at (8 * j + 8)) (nat_lt (8 * j) (at + len)) t in
    let a = lt_from at (8 * j + 8) x.0 in
    let b = lt_from (8 * j) (at + len) x.1 in
    h.inside j (omega (arith, a)) (omega (arith, b, enough)))
    (λ f. elim (untouched_by (nat_lt at (8 * j + 8)) (nat_lt (8 * j) (at + len)) f) [
      | inl a ↦ h.before j (let b = not_below at (8 * j + 8) a in omega (arith, b))
      | inr a ↦ h.behind j (let b = not_below (8 * j) (at + len) a in omega (arith, b, least))
    ])
    ∙ sym (spill_at-respilled n at len 0 old j j (omega arith) (omega (arith, l, lo, room))))

-- ---- a write of 0 bytes at byte 0 changes neither the set of stack bytes nor the spills

second_false : (a b : Bool) → b ≡ false → (a && b) ≡ false
second_false true b e = e
second_false false b e = refl

pub respilled_none : (n j : ℕ) (spills : List ℕ) → spills ≡ respilled n 0 0 j spills
respilled_none n j [] = refl
respilled_none n j (m ∷ rest) =
    let never : nat_lt (8 * j) 0 ≡ false = grind (arith, nat_tests) in
    let none : touches 0 0 j ≡ false = second_false (nat_lt 0 (8 * j + 8)) (nat_lt (8 * j) 0) never in
    ap (λ b. cond b n m ∷ rest) (sym none) ∙ ap (λ ms. cond (touches 0 0 j) n m ∷ ms) (respilled_none n (suc j) rest)

pub after_none : (b : Bool) (set : List Bool) (p : ℕ) → Has set p ↔ HasAfter b set 0 0 p
after_none true set p = (λ h. inl h, λ h. elim h [ inl old ↦ old | inr w ↦ absurd (omega (arith, w.1)) ])
after_none false set p = (λ h. (h, λ w. omega (arith, w.1)), λ h. h.0)

pub unwritten : (fact after : Fact) (e : Effect) → e.at ≡ 0 → e.len ≡ 0 → after.types ≡ e.types → after.stack ≡ fact.stack
    → after.spills ≡ fact.spills → IsAfter fact e after
unwritten fact after e at len types stack spills =
    record {
      types = types;
      places =
          λ p. subst (λ set. Has set p ↔ HasAfter (is_unset e.spilled) fact.stack e.at e.len p) (sym stack)
          (subst (λ a. Has fact.stack p ↔ HasAfter (is_unset e.spilled) fact.stack a e.len p) (sym at)
          (subst (λ l. Has fact.stack p ↔ HasAfter (is_unset e.spilled) fact.stack 0 l p) (sym len) (after_none (is_unset e.spilled) fact.stack p)));
      spills =
          spills ∙ respilled_none (spill_of e.spilled) 0 fact.spills
          ∙ ap (λ a. respilled (spill_of e.spilled) a 0 0 fact.spills) (sym at)
          ∙ ap (λ l. respilled (spill_of e.spilled) e.at l 0 fact.spills) (sym len);
    }

-- The fact after an instruction with effect e (`IsAfter`) doesn't depend on the register types before the instruction.
-- If `typed` and `fact` have the same set of stack bytes and the same spills, then the fact after `typed` is also the
-- fact after `fact`.
pub after_of : (fact typed after : Fact) (e : Effect) → typed.stack ≡ fact.stack → typed.spills ≡ fact.spills → IsAfter typed e after → IsAfter fact e after
after_of fact typed after e stack spills h =
    record {
      types = h.types;
      places = subst (λ set. (p : ℕ) → Has after.stack p ↔ HasAfter (is_unset e.spilled) set e.at e.len p) stack h.places;
      spills = subst (λ ns. after.spills ≡ respilled (spill_of e.spilled) e.at e.len 0 ns) spills h.spills;
    }

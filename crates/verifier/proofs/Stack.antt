-- Lemmas on the cells of the stack. If the cells in a fact's set of stack bytes all hold bytes (`Covered`), then a load
-- of bytes that are all in the set gives a number. After a store of bytes inside the stack, each cell that held a byte
-- still holds one, and so does each cell that the store wrote.
use Rattle.std.proofs.Common.{◌≡◌, ℕ, zero, suc, ◌+◌, ◌-◌, ◌*◌, ◌<◌, ◌≤◌, List, [], ◌∷◌, Option, Some, None, Bool, true, false, refl, sym, ap, ◌∙◌, subst, inl}
use Rattle.std.proofs.Common.{inr, arith, length}
use Rattle.std.specs.Prelude.{ℤ, pos, negsuc, ◌&&◌, cond, nat_le, nat_lt, slice_set, slice_index_or}
use Rattle.std.specs.Int.{bytes_low_first}
use Rattle.std.proofs.lemmas.Bool.{cases_eq}
use Rattle.std.proofs.lemmas.Bool.Decides.{nat_tests}
use Rattle.std.proofs.lemmas.List.{get_or-set_other, get_or-set_same, length-set}
use Rattle.bpf_model.specs.declared.instruction.Inst.{Inst}
use Rattle.bpf_model.specs.declared.instruction.Size.{Size}
use Rattle.bpf_model.specs.declared.instruction.Size.TheVariants.{Byte as ByteSize, Half, Word, Double}
use Rattle.bpf_model.specs.declared.machine.Value.{Value}
use Rattle.bpf_model.specs.declared.machine.Value.TheVariants.{Unset, Number, Context, Stack}
use Rattle.bpf_model.specs.declared.machine.Cell.{Cell}
use Rattle.bpf_model.specs.declared.machine.Cell.TheVariants.{Empty, Byte}
use Rattle.bpf_model.specs.Reading.{bytes_in}
use Rattle.bpf_model.specs.Machine.{cell_at, low_byte, number_in, written, shifted, stack_at}
use Rattle.verifier.specs.Places.{Has, Within}
use Rattle.verifier.specs.Rules.{all_in}
use Rattle.verifier.specs.Facts.{HasByte, Covered}

pub both : (a b : Bool) → (a && b) ≡ true → (a ≡ true) × (b ≡ true)
both true b e = (refl, e)
both false b e = absurd (cc)

low_some : (c : Cell) (o : Option ℕ) → HasByte c → ((n : ℕ) × (o ≡ Some n)) → (n : ℕ) × (low_byte c o ≡ Some n)
low_some c o b r = (b.0 + 256 * r.0, ap (λ x. low_byte x o) b.1 ∙ ap (low_byte (Byte b.0)) r.1)

-- If each stack cell whose place is in `set` holds a byte (`Covered`), and the n places from `at` on are all in `set`,
-- then a load of these n bytes gives a number.
pub covered_load : (set : List Bool) (stack : List Cell) (at n : ℕ) → Covered set stack → all_in set at n ≡ true → (v : ℕ) × (number_in stack at n ≡ Some v)
covered_load set stack at zero c h = (0, refl)
covered_load set stack at (suc n) c h =
    let t = both (slice_index_or set at false) (all_in set (suc at) n) h in
    low_some (cell_at stack at) (number_in stack (suc at) n) (c.bytes at t.0) (covered_load set stack (suc at) n c t.1)

pub length-written : (stack : List Cell) (at : ℕ) (bytes : List ℕ) → length (written stack at bytes) ≡ length stack
length-written stack at [] = refl
length-written stack at (b ∷ bytes) = length-written (slice_set stack at (Byte b)) (suc at) bytes ∙ length-set stack at (Byte b)

keeps_one : (stack : List Cell) (at b p : ℕ) → at < length stack → HasByte (cell_at stack p) → HasByte (cell_at (slice_set stack at (Byte b)) p)
keeps_one stack at b p l h =
    elim (cases_eq p at) [
      | inl same ↦ subst (λ q. HasByte (cell_at (slice_set stack at (Byte b)) q)) (sym same) (b, get_or-set_same stack at (Byte b) Empty l)
      | inr other ↦ subst HasByte (sym (get_or-set_other stack at p (Byte b) Empty other)) h
    ]

-- a cell that holds a byte still holds one after a store of bytes
pub keeps_bytes : (stack : List Cell) (at : ℕ) (bytes : List ℕ) (p : ℕ) → at + length bytes ≤ length stack → HasByte (cell_at stack p)
    → HasByte (cell_at (written stack at bytes) p)
keeps_bytes stack at [] p l h = h
keeps_bytes stack at (b ∷ bytes) p l h =
    let e = length-set stack at (Byte b) in
    keeps_bytes (slice_set stack at (Byte b)) (suc at) bytes p (omega (arith, e)) (keeps_one stack at b p (omega arith) h)

-- after a store of bytes, each cell that it wrote holds a byte
pub sets_bytes : (stack : List Cell) (at : ℕ) (bytes : List ℕ) (p : ℕ) → at + length bytes ≤ length stack → Within at (length bytes) p
    → HasByte (cell_at (written stack at bytes) p)
sets_bytes stack at [] p l w = absurd (omega (arith, w.0, w.1))
sets_bytes stack at (b ∷ bytes) p l w =
    let e = length-set stack at (Byte b) in
    elim (cases_eq p at) [
      | inl same ↦ keeps_bytes (slice_set stack at (Byte b)) (suc at) bytes p (omega (arith, e))
          (subst (λ q. HasByte (cell_at (slice_set stack at (Byte b)) q)) (sym same) (b, get_or-set_same stack at (Byte b) Empty (omega arith)))
      | inr other ↦ sets_bytes (slice_set stack at (Byte b)) (suc at) bytes p (omega (arith, e)) (omega (arith, w.0), omega (arith, w.1))
    ]

pub length-little : (i n x : ℕ) → length (bytes_low_first i n x) ≡ n
length-little i zero x = refl
length-little i (suc n) x = ap suc (length-little (suc i) n x)

some_if : (b : Bool) (n at : ℕ) → cond b (Some n) None ≡ Some at → (b ≡ true) × (n ≡ at)
some_if true n at e = (refl, cc)
some_if false n at e = absurd (cc)

le_from : (m n : ℕ) → nat_le m n ≡ true → m ≤ n
le_from m n e = grind (arith, nat_tests)

pub at_most : (k : ℕ) (z : ℤ) (at limit : ℕ) → shifted k z limit ≡ Some at → at ≤ limit
at_most k (pos n) at limit e = let h = some_if (nat_le (k + n) limit) (k + n) at e in let l : k + n ≤ limit = le_from _ _ h.0 in omega (arith, h.1)
at_most k (negsuc n) at limit e =
    let h = some_if (nat_lt n k && nat_le (k - suc n) limit) (k - suc n) at e in
    let t = both (nat_lt n k) (nat_le (k - suc n) limit) h.0 in
    let l : k - suc n ≤ limit = le_from _ _ t.1 in
    omega (arith, h.1)

-- if `stack_at` gives a place for at most eight bytes, then all of them are inside the stack
pub store_inside : (v : Value) (i : Inst) (size at : ℕ) → size ≤ 8 → stack_at v i.offset size ≡ Some at → at + size ≤ 512
store_inside (Stack n) i size at small e =
    let l = at_most n i.offset at (512 - size) e in omega (arith, l)
store_inside (Context n) i size at small e = absurd (cc)
store_inside Unset i size at small e = absurd (cc)
store_inside (Number n) i size at small e = absurd (cc)

pub size_small : (size : Size) → bytes_in size ≤ 8
size_small ByteSize = omega arith
size_small Half = omega arith
size_small Word = omega arith
size_small Double = omega arith

-- ---- `all_in` is true exactly if the set has each of the `len` places from `at` on

pub same_bool : (a b : Bool) → (a ≡ true → b ≡ true) → (b ≡ true → a ≡ true) → a ≡ b
same_bool true b f g = sym (f refl)
same_bool false true f g = g refl
same_bool false false f g = refl

all_from : (set : List Bool) (at len : ℕ) → all_in set at len ≡ true → (p : ℕ) → Within at len p → Has set p
all_from set at zero h p w = absurd (omega (arith, w.0, w.1))
all_from set at (suc n) h p w =
    let t = both (slice_index_or set at false) (all_in set (suc at) n) h in
    elim (cases_eq p at) [
      | inl same ↦ subst (Has set) (sym same) t.0
      | inr other ↦ all_from set (suc at) n t.1 p (omega (arith, w.0), omega (arith, w.1))
    ]

and_true : (a b : Bool) → a ≡ true → b ≡ true → (a && b) ≡ true
and_true true b p q = q
and_true false b p q = absurd (cc)

all_to : (set : List Bool) (at len : ℕ) → ((p : ℕ) → Within at len p → Has set p) → all_in set at len ≡ true
all_to set at zero h = refl
all_to set at (suc n) h =
    and_true (slice_index_or set at false) (all_in set (suc at) n) (h at (omega arith, omega arith)) (all_to set (suc at) n
    (λ p w. h p (omega (arith, w.0), omega (arith, w.1))))

pub tells_all : (set : List Bool) (at len : ℕ) (b : Bool) → (b ≡ true → (p : ℕ) → Within at len p → Has set p)
    → (((p : ℕ) → Within at len p → Has set p) → b ≡ true) → b ≡ all_in set at len
tells_all set at len b f g = same_bool b (all_in set at len) (λ e. all_to set at len (f e)) (λ e. g (all_from set at len e))

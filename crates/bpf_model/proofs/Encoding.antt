-- If bytes can be decoded as a program, then encoding its units gives these bytes.
use Rattle.std.proofs.Common.{◌≡◌, ℕ, zero, suc, ◌+◌, ◌*◌, ◌<◌, ◌≤◌, List, [], ◌∷◌, ◌++◌, Option, Some, None, Bool, true, false, refl, sym, ap, ◌∙◌, subst}
use Rattle.std.proofs.Common.{arith, length, take, drop, append_assoc, w16, w32}
use Rattle.std.specs.Prelude.{nat_le, is_none, ◌&&◌}
use Rattle.std.specs.Prelude.{◌/◌, ◌%◌, ◌==◌, cond, slice_index}
use Rattle.std.specs.Int.{cast_signed, cast_unsigned}
use Rattle.std.proofs.lemmas.Int.{of_z-to_z}
use Rattle.std.proofs.lemmas.List.{get_or-drop}
use Rattle.byteorder.specs.Endian.{little_bytes, little_number}
use Rattle.bpf_model.specs.declared.instruction.Unit.{Unit as ProgramUnit}
use Rattle.bpf_model.specs.declared.instruction.Unit.TheVariants.{First, Second}
use Rattle.bpf_model.specs.Reading.{unit_at, units_below, unit_fault, fields_at, imm_at, begins, first_fault, second_fault, form_of, opcode_at, is_last}
use Rattle.bpf_model.specs.Reading.{fault_below, or_at}
use Rattle.bpf_model.specs.declared.instruction.UnitFault.{UnitFault}
use Rattle.bpf_model.specs.declared.instruction.UnitFault.TheVariants.{Field}
use Rattle.std.proofs.lemmas.Bool.{eqb-true}
use Rattle.std.proofs.Math.Seq.{take-add}
use Rattle.std.proofs.Common.{length-drop}
use Rattle.std.proofs.Common.{take_all, get_or}
use Rattle.std.proofs.lemmas.List.{take_more}
use Rattle.bpf_model.specs.Reading.{units, has_valid_length}
use Rattle.bpf_model.proofs.Reading.{some_where, both_true, none_is}
use Rattle.bpf_model.specs.DecodeFaults.{AreBytes, IsProgram, IsDecodingInjective}
use Rattle.bpf_model.specs.Encoded.{unit_bytes, encoded}

list2 : (a b c d : ℕ) → a ≡ c → b ≡ d → a ∷ b ∷ [] ≡ c ∷ d ∷ []
list2 a b c d e f = ap (λ x. x ∷ b ∷ []) e ∙ ap (λ x. c ∷ x ∷ []) f

two : (a b : ℕ) → a < 256 → b < 256 → little_bytes 2 (cast_unsigned w16 (cast_signed w16 (a + 256 * (b + 256 * 0)))) ≡ a ∷ b ∷ []
two a b p q =
    let n = a + 256 * (b + 256 * 0) in
    let e = of_z-to_z w16 n (omega arith) in
    ap (little_bytes 2) e ∙ list2 (n % 256) (n / 256 % 256) a b (omega arith) (omega arith)

list4 : (a b c d w x y z : ℕ) → a ≡ w → b ≡ x → c ≡ y → d ≡ z → a ∷ b ∷ c ∷ d ∷ [] ≡ w ∷ x ∷ y ∷ z ∷ []
list4 a b c d w x y z e f g h =
    ap (λ u. u ∷ b ∷ c ∷ d ∷ []) e ∙ ap (λ u. w ∷ u ∷ c ∷ d ∷ []) f ∙ ap (λ u. w ∷ x ∷ u ∷ d ∷ []) g ∙ ap (λ u. w ∷ x ∷ y ∷ u ∷ []) h

four : (a b c d : ℕ) → a < 256 → b < 256 → c < 256 → d < 256
    → little_bytes 4 (cast_unsigned w32 (cast_signed w32 (a + 256 * (b + 256 * (c + 256 * (d + 256 * 0)))))) ≡ a ∷ b ∷ c ∷ d ∷ []
four a b c d p q r s =
    let n = a + 256 * (b + 256 * (c + 256 * (d + 256 * 0))) in
    let e = of_z-to_z w32 n (omega arith) in
    ap (little_bytes 4) e
    ∙ list4 (n % 256) (n / 256 % 256) (n / 65536 % 256) (n / 16777216 % 256) a b c d (omega arith) (omega arith) (omega arith) (omega arith)

eight : (xs : List ℕ) → 8 ≤ length xs → take 8 xs ≡ slice_index xs 0 ∷ slice_index xs 1 ∷ slice_index xs 2 ∷ slice_index xs 3 ∷ slice_index xs 4
    ∷ slice_index xs 5 ∷ slice_index xs 6 ∷ slice_index xs 7 ∷ []
eight (a ∷ b ∷ c ∷ d ∷ e ∷ f ∷ g ∷ h ∷ xs) l = refl
eight [] l = absurd (omega arith)
eight (a ∷ []) l = absurd (omega arith)
eight (a ∷ b ∷ []) l = absurd (omega arith)
eight (a ∷ b ∷ c ∷ []) l = absurd (omega arith)
eight (a ∷ b ∷ c ∷ d ∷ []) l = absurd (omega arith)
eight (a ∷ b ∷ c ∷ d ∷ e ∷ []) l = absurd (omega arith)
eight (a ∷ b ∷ c ∷ d ∷ e ∷ f ∷ []) l = absurd (omega arith)
eight (a ∷ b ∷ c ∷ d ∷ e ∷ f ∷ g ∷ []) l = absurd (omega arith)

no_more : (xs : List ℕ) → xs ++ [] ≡ xs
no_more [] = refl
no_more (x ∷ xs) = ap (λ l. x ∷ l) (no_more xs)

encoded-snoc : (us : List ProgramUnit) (u : ProgramUnit) → encoded (us ++ u ∷ []) ≡ encoded us ++ unit_bytes u
encoded-snoc [] u = no_more (unit_bytes u)
encoded-snoc (v ∷ us) u = ap (λ l. unit_bytes v ++ l) (encoded-snoc us u) ∙ sym (append_assoc (unit_bytes v) (encoded us) (unit_bytes u))

test : (b : Bool) → cond b None (Some Field) ≡ None → b ≡ true
test true e = refl
test false e = absurd (cc)

pub at_drop : (xs : List ℕ) (n k m : ℕ) → n + k ≡ m → slice_index (drop n xs) k ≡ slice_index xs m
at_drop xs n k m e = get_or-drop n xs k 0 ∙ ap (slice_index xs) e

module _ (bytes : List ℕ) (small : (i : ℕ) → slice_index bytes i < 256) (pc : ℕ) where
  below : (n k : ℕ) → slice_index (drop n bytes) k < 256
  below n k = subst (λ x. x < 256) (sym (at_drop bytes n k (n + k) refl)) (small (n + k))

  imm_bytes : little_bytes 4 (cast_unsigned w32 (imm_at bytes pc)) ≡ slice_index bytes (8 * pc + 4) ∷ slice_index bytes (8 * pc + 5)
      ∷ slice_index bytes (8 * pc + 6) ∷ slice_index bytes (8 * pc + 7) ∷ []
  imm_bytes =
      let at = 8 * pc + 4 in
      four (slice_index (drop at bytes) 0) (slice_index (drop at bytes) 1) (slice_index (drop at bytes) 2) (slice_index (drop at bytes) 3) (below at 0)
      (below at 1) (below at 2) (below at 3)
      ∙ list4 _ _ _ _ _ _ _ _ (at_drop bytes at 0 (8 * pc + 4) (omega arith)) (at_drop bytes at 1 (8 * pc + 5) (omega arith))
      (at_drop bytes at 2 (8 * pc + 6) (omega arith)) (at_drop bytes at 3 (8 * pc + 7) (omega arith))

  offset_bytes : little_bytes 2 (cast_unsigned w16 (fields_at bytes pc).offset) ≡ slice_index bytes (8 * pc + 2) ∷ slice_index bytes (8 * pc + 3) ∷ []
  offset_bytes =
      let at = 8 * pc + 2 in
      two (slice_index (drop at bytes) 0) (slice_index (drop at bytes) 1) (below at 0) (below at 1)
      ∙ list2 _ _ _ _ (at_drop bytes at 0 (8 * pc + 2) (omega arith)) (at_drop bytes at 1 (8 * pc + 3) (omega arith))

  registers_byte : slice_index bytes (8 * pc + 1) % 16 % 16 + 16 * (slice_index bytes (8 * pc + 1) / 16 % 16) ≡ slice_index bytes (8 * pc + 1)
  registers_byte = let fits = small (8 * pc + 1) in omega arith

  -- the eight bytes of unit pc in the program's bytes
  raw : List ℕ
  raw =
      slice_index bytes (8 * pc) ∷ slice_index bytes (8 * pc + 1) ∷ slice_index bytes (8 * pc + 2) ∷ slice_index bytes (8 * pc + 3)
      ∷ slice_index bytes (8 * pc + 4) ∷ slice_index bytes (8 * pc + 5) ∷ slice_index bytes (8 * pc + 6) ∷ slice_index bytes (8 * pc + 7) ∷ []

  first_bytes : unit_bytes (First (fields_at bytes pc)) ≡ raw
  unfolding raw
  first_bytes =
      ap (λ l. slice_index bytes (8 * pc) ∷ (slice_index bytes (8 * pc + 1) % 16 % 16 + 16 * (slice_index bytes (8 * pc + 1) / 16 % 16))
      ∷ (l ++ little_bytes 4 (cast_unsigned w32 (imm_at bytes pc)))) offset_bytes
      ∙ ap (λ l. slice_index bytes (8 * pc) ∷ (slice_index bytes (8 * pc + 1) % 16 % 16 + 16 * (slice_index bytes (8 * pc + 1) / 16 % 16))
      ∷ slice_index bytes (8 * pc + 2) ∷ slice_index bytes (8 * pc + 3) ∷ l) imm_bytes
      ∙ ap (λ r. slice_index bytes (8 * pc) ∷ r ∷ slice_index bytes (8 * pc + 2) ∷ slice_index bytes (8 * pc + 3) ∷ slice_index bytes (8 * pc + 4)
      ∷ slice_index bytes (8 * pc + 5) ∷ slice_index bytes (8 * pc + 6) ∷ slice_index bytes (8 * pc + 7) ∷ []) registers_byte

  zeros : (n : ℕ) → n ≡ 0 → (a b c d : ℕ) → a + 256 * (b + 256 * (c + 256 * (d + 256 * 0))) ≡ n → (a ≡ 0) × (b ≡ 0) × (c ≡ 0) × (d ≡ 0)
  zeros n z a b c d e = (omega arith, omega arith, omega arith, omega arith)

  second_zero : second_fault bytes pc ≡ None → little_number 4 (drop (8 * pc) bytes) ≡ 0
  second_zero e = eqb-true (little_number 4 (drop (8 * pc) bytes)) 0 (test (little_number 4 (drop (8 * pc) bytes) == 0) e)

  second_bytes : second_fault bytes pc ≡ None → unit_bytes (Second (imm_at bytes pc)) ≡ raw
  unfolding raw
  second_bytes e =
      let at = 8 * pc in
      let z = zeros (little_number 4 (drop at bytes)) (second_zero e) (slice_index (drop at bytes) 0) (slice_index (drop at bytes) 1)
      (slice_index (drop at bytes) 2) (slice_index (drop at bytes) 3) refl in
      ap (λ l. 0 ∷ 0 ∷ 0 ∷ 0 ∷ l) imm_bytes
      ∙ ap (λ l. l ++ (slice_index bytes (8 * pc + 4) ∷ slice_index bytes (8 * pc + 5) ∷ slice_index bytes (8 * pc + 6) ∷ slice_index bytes (8 * pc + 7) ∷ []))
      (list4 0 0 0 0 _ _ _ _ (sym z.0 ∙ at_drop bytes at 0 (8 * pc) (omega arith)) (sym z.1 ∙ at_drop bytes at 1 (8 * pc + 1) (omega arith))
      (sym z.2 ∙ at_drop bytes at 2 (8 * pc + 2) (omega arith)) (sym z.3 ∙ at_drop bytes at 3 (8 * pc + 3) (omega arith)))

  either_bytes : (f : Bool) → cond f (first_fault (form_of (opcode_at bytes pc)) (fields_at bytes pc) (is_last bytes pc)) (second_fault bytes pc) ≡ None
      → unit_bytes (cond f (First (fields_at bytes pc)) (Second (imm_at bytes pc))) ≡ raw
  either_bytes true e = first_bytes
  either_bytes false e = second_bytes e

  raw_is : 8 * pc + 8 ≤ length bytes → take 8 (drop (8 * pc) bytes) ≡ raw
  unfolding raw
  raw_is l =
      let at = 8 * pc in
      let long : 8 ≤ length (drop at bytes) = simp length-drop (omega arith) in
      eight (drop at bytes) long
      ∙ ap (λ l. l ++ (slice_index (drop at bytes) 4 ∷ slice_index (drop at bytes) 5 ∷ slice_index (drop at bytes) 6 ∷ slice_index (drop at bytes) 7 ∷ []))
      (list4 _ _ _ _ _ _ _ _ (at_drop bytes at 0 (8 * pc) (omega arith)) (at_drop bytes at 1 (8 * pc + 1) (omega arith))
      (at_drop bytes at 2 (8 * pc + 2) (omega arith)) (at_drop bytes at 3 (8 * pc + 3) (omega arith)))
      ∙ ap (λ l. slice_index bytes (8 * pc) ∷ slice_index bytes (8 * pc + 1) ∷ slice_index bytes (8 * pc + 2) ∷ slice_index bytes (8 * pc + 3) ∷ l)
      (list4 _ _ _ _ _ _ _ _ (at_drop bytes at 4 (8 * pc + 4) (omega arith)) (at_drop bytes at 5 (8 * pc + 5) (omega arith))
      (at_drop bytes at 6 (8 * pc + 6) (omega arith)) (at_drop bytes at 7 (8 * pc + 7) (omega arith)))

  pub unit_is : 8 * pc + 8 ≤ length bytes → unit_fault bytes pc ≡ None → unit_bytes (unit_at bytes pc) ≡ take 8 (drop (8 * pc) bytes)
  unit_is l e = either_bytes (begins bytes pc) e ∙ sym (raw_is l)

or_none : (o : Option (ℕ × UnitFault)) (m : ℕ) (f : Option UnitFault) → or_at o m f ≡ None → (o ≡ None) × (f ≡ None)
or_none None m None e = (refl, refl)
or_none None m (Some f) e = absurd (cc)
or_none (Some x) m f e = absurd (cc)

-- if the first n units in `bytes` have no fault, then decoding them and encoding the result gives the first 8 n bytes
pub encoded_below : (bytes : List ℕ) → ((i : ℕ) → slice_index bytes i < 256) → (n : ℕ) → 8 * n ≤ length bytes → fault_below bytes n ≡ None
    → encoded (units_below bytes n) ≡ take (8 * n) bytes
encoded_below bytes small zero l e = refl
encoded_below bytes small (suc n) l e =
    let h = or_none (fault_below bytes n) n (unit_fault bytes n) e in
    let more : 8 * suc n ≡ 8 * n + 8 = omega arith in
    encoded-snoc (units_below bytes n) (unit_at bytes n)
    ∙ ap (λ l. l ++ unit_bytes (unit_at bytes n)) (encoded_below bytes small n (omega arith) h.0)
    ∙ ap (λ l. take (8 * n) bytes ++ l) (unit_is bytes small n (omega arith) h.1)
    ∙ sym (ap (λ k. take k bytes) more ∙ take-add (8 * n) 8 bytes)

whole_units : (n : ℕ) → ((n % 8 == 0) && nat_le 8 n && nat_le n 4096) ≡ true → 8 * (n / 8) ≡ n
whole_units n e =
    let a = both_true ((n % 8 == 0) && nat_le 8 n) (nat_le n 4096) e in
    let b = both_true (n % 8 == 0) (nat_le 8 n) a.0 in
    let d : n % 8 ≡ 0 = eqb-true (n % 8) 0 b.0 in
    omega arith

-- if bytes are decoded as some units, then encoding these units gives the bytes
pub encoded_units : (bytes : List ℕ) (us : List ProgramUnit) → AreBytes bytes → units bytes ≡ Some us → encoded us ≡ bytes
encoded_units bytes us small e =
    let n = length bytes / 8 in
    let h = some_where (has_valid_length bytes && is_none (fault_below bytes n)) (units_below bytes n) us e in
    let ok = both_true (has_valid_length bytes) (is_none (fault_below bytes n)) h.0 in
    let all : 8 * n ≡ length bytes = whole_units (length bytes) ok.0 in
    ap encoded (sym h.1) ∙ encoded_below bytes small n (omega arith) (none_is (fault_below bytes n) ok.1)
    ∙ take_all (8 * n) bytes (omega arith)

pub one_spelling : IsDecodingInjective
one_spelling a b code x y e f = sym (encoded_units a code x e) ∙ encoded_units b code y f

-- if units are a program, then decoding their encoding gives these units
pub read_back : (code : List ProgramUnit) → IsProgram code → units (encoded code) ≡ Some code
read_back code p = ap units (encoded_units p.0 code p.2 p.1) ∙ p.1

-- if `bytes` is the encoding of the first i units, and `more` is that of unit i, then `bytes` followed by `more` is the
-- encoding of the first i + 1 units
pub encoded_step : (us : List ProgramUnit) (i : ℕ) (d : ProgramUnit) (bytes more after : List ℕ) → i < length us → bytes ≡ encoded (take i us)
    → more ≡ unit_bytes (get_or us i d) → after ≡ bytes ++ more → after ≡ encoded (take (i + 1) us)
encoded_step us i d bytes more after l e f g =
    g ∙ ap (λ x. x ++ more) e ∙ ap (λ x. encoded (take i us) ++ x) f ∙ sym (encoded-snoc (take i us) (get_or us i d)) ∙ ap encoded (sym (take_more us i d l))

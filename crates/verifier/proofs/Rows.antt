-- Examples: the refusals of whole programs, or None if a program is accepted. Each unit is written as sixteen
-- hexadecimal digits.
use Rattle.std.proofs.Common.{◌≡◌, ℕ, ◌+◌, ◌≤◌, List, [], ◌∷◌, ◌++◌, Some, None, true, refl, sym, ap, ◌∙◌, arith}
use Rattle.std.specs.Prelude.{pos, negsuc, ◌+ℤ◌, cond, nat_le}
use Rattle.std.proofs.lemmas.Bool.Decides.{nat_tests}
use Rattle.byteorder.specs.Endian.{big_bytes}
use Rattle.bpf_model.specs.declared.context.Layout.TheVariants as layout
use Rattle.bpf_model.specs.Program.{ProgramText, as_loaded}
use Rattle.verifier.specs.declared.refusal.TypeFault.TheVariants.{FallsOff, NotANumber, OutOfRange, UnsetBytes, StorePointer}
use Rattle.verifier.specs.declared.refusal.Refusal.TheVariants.{«Type» as TypeRefusal}
use Rattle.verifier.specs.declared.types.RegType.TheVariants.{Ctx, Stk}
use Rattle.verifier.specs.Rules.{natural, lowest, spill_of, spilled_type}
use Rattle.verifier.proofs.Keeping.{spilled_context, spilled_stack, back_again}
use Rattle.verifier.specs.Inference.{known, first_flaw_below}
use Rattle.verifier.specs.RefusedPrograms.{refusal_of}

-- the bytes of a program whose units are given as 64-bit numbers
abbrev bytes : List ℕ → List ℕ
bytes [] = []
bytes (u ∷ us) = big_bytes 8 u ++ bytes us

-- the program that has these units and declares no counters, for contexts of the first layout
abbrev on_one : List ℕ → ProgramText
on_one us = as_loaded (bytes us) 0 layout.One

abbrev on_two : List ℕ → ProgramText
on_two us = as_loaded (bytes us) 0 layout.Two

falls_off : refusal_of (on_one (0xb700000001000000 ∷ [])) ≡ Some (TypeRefusal (FallsOff 0))
unfolding refusal_of known first_flaw_below
falls_off = refl

no_answer : refusal_of (on_one (0x9500000000000000 ∷ [])) ≡ Some (TypeRefusal (NotANumber 0 0))
unfolding refusal_of known first_flaw_below
no_answer = refl

constant : refusal_of (on_one (0xb700000001000000 ∷ 0x9500000000000000 ∷ [])) ≡ None
unfolding refusal_of known first_flaw_below
constant = refl

-- a program is refused if R0 is set on only one of the two paths to its exit
half_an_answer : refusal_of (on_one (0x61120c0000000000 ∷ 0x1502010004000000 ∷ 0xb700000001000000 ∷ 0x9500000000000000 ∷ []))
    ≡ Some (TypeRefusal (NotANumber 3 0))
unfolding refusal_of known first_flaw_below
half_an_answer = refl

-- a load from the stack is accepted if its bytes are set on both paths to it, and refused if they are set on only one
stored_before : refusal_of (on_one (0xb700000000000000 ∷ 0x620af8ff07000000 ∷ 0x1500010001000000 ∷ 0xb700000005000000 ∷ 0x61a0f8ff00000000
    ∷ 0x9500000000000000 ∷ [])) ≡ None
unfolding refusal_of known first_flaw_below
stored_before = refl

stored_on_one_edge : refusal_of (on_one (0xb700000000000000 ∷ 0x1500010001000000 ∷ 0x620af8ff07000000 ∷ 0x61a0f8ff00000000 ∷ 0x9500000000000000 ∷ []))
    ≡ Some (TypeRefusal (UnsetBytes 3))
unfolding refusal_of known first_flaw_below
stored_on_one_edge = refl

-- a program is accepted although units that no run reaches have flaws
unreached : refusal_of (on_one (0xb700000001000000 ∷ 0x9500000000000000 ∷ 0xbf12000000000000 ∷ 0xbf23000000000000 ∷ [])) ≡ None
unfolding refusal_of known first_flaw_below
unreached = refl

-- a program is accepted although its branch leads to the same unit whether it is taken or not
one_unit_twice : refusal_of (on_one (0xb700000001000000 ∷ 0x1500000001000000 ∷ 0x9500000000000000 ∷ [])) ≡ None
unfolding refusal_of known first_flaw_below
one_unit_twice = refl

-- ---- a pointer can be stored only in an aligned place of eight bytes, and can be loaded again only as a whole
pointer_found_again : refusal_of (on_one (0x7b1af8ff00000000 ∷ 0x79a2f8ff00000000 ∷ 0x7920180000000000 ∷ 0x9500000000000000 ∷ [])) ≡ None
unfolding refusal_of known first_flaw_below
pointer_found_again = refl

pointer_found_after_a_call : refusal_of (on_one (0x7b1af8ff00000000 ∷ 0xb701000001000000 ∷ 0x8500000004000000 ∷ 0x79a2f8ff00000000 ∷ 0x7920180000000000
    ∷ 0x9500000000000000 ∷ [])) ≡ None
unfolding refusal_of known first_flaw_below
pointer_found_after_a_call = refl

pointer_off_its_places : refusal_of (on_one (0x7b1af4ff00000000 ∷ 0x9500000000000000 ∷ [])) ≡ Some (TypeRefusal (StorePointer 0))
unfolding refusal_of known first_flaw_below
pointer_off_its_places = refl

half_a_pointer : refusal_of (on_one (0x631af8ff00000000 ∷ 0x9500000000000000 ∷ [])) ≡ Some (TypeRefusal (StorePointer 0))
unfolding refusal_of known first_flaw_below
half_a_pointer = refl

pointer_past_the_stack : refusal_of (on_one (0x7b1afcff00000000 ∷ 0x9500000000000000 ∷ [])) ≡ Some (TypeRefusal (OutOfRange 0))
unfolding refusal_of known first_flaw_below
pointer_past_the_stack = refl

half_a_place_loaded : refusal_of (on_one (0x7b1af8ff00000000 ∷ 0x61a0f8ff00000000 ∷ 0x9500000000000000 ∷ [])) ≡ Some (TypeRefusal (UnsetBytes 1))
unfolding refusal_of known first_flaw_below
half_a_place_loaded = refl

byte_over_a_pointer : refusal_of (on_one (0x7b1af8ff00000000 ∷ 0x720af8ff00000000 ∷ 0x79a2f8ff00000000 ∷ 0x9500000000000000 ∷ []))
    ≡ Some (TypeRefusal (UnsetBytes 2))
unfolding refusal_of known first_flaw_below
byte_over_a_pointer = refl

two_pointers_meet : refusal_of (on_one (0x61120c0000000000 ∷ 0x7b1af8ff00000000 ∷ 0x1502010004000000 ∷ 0x7baaf8ff00000000 ∷ 0x79a3f8ff00000000
    ∷ 0x9500000000000000 ∷ [])) ≡ Some (TypeRefusal (UnsetBytes 4))
unfolding refusal_of known first_flaw_below
two_pointers_meet = refl

pointer_stored_and_no_answer : refusal_of (on_one (0x7b1af8ff00000000 ∷ 0x9500000000000000 ∷ [])) ≡ Some (TypeRefusal (NotANumber 1 0))
unfolding refusal_of known first_flaw_below
pointer_stored_and_no_answer = refl

-- a load inside a context is accepted, and a load beyond its end is refused, for both layouts
context_end : refusal_of (on_one (0x7910380000000000 ∷ 0x9500000000000000 ∷ [])) ≡ None
unfolding refusal_of known first_flaw_below
context_end = refl

past_layout_one : refusal_of (on_one (0x7910400000000000 ∷ 0x9500000000000000 ∷ [])) ≡ Some (TypeRefusal (OutOfRange 0))
unfolding refusal_of known first_flaw_below
past_layout_one = refl

in_layout_two : refusal_of (on_two (0x7910400000000000 ∷ 0x9500000000000000 ∷ [])) ≡ None
unfolding refusal_of known first_flaw_below
in_layout_two = refl

past_layout_two : refusal_of (on_two (0x7910490000000000 ∷ 0x9500000000000000 ∷ [])) ≡ Some (TypeRefusal (OutOfRange 0))
unfolding refusal_of known first_flaw_below
past_layout_two = refl

-- A spill is a pointer's type as a number. A type `Ctx` 0 to 80 or `Stk` -512 to 0 is read back from its spill
-- unchanged.
context_spilled : (k : ℕ) → k ≤ 80 → spilled_type (spill_of (Ctx k)) ≡ Ctx k
context_spilled k l =
    let small : nat_le k 80 ≡ true = grind (arith, nat_tests) in
    ap (λ b. spilled_type (cond b (k + 1) 0)) small ∙ spilled_context k l

stack_spilled : (m : ℕ) → m ≤ 512 → spilled_type (spill_of (Stk (pos m +ℤ negsuc 511))) ≡ Stk (pos m +ℤ negsuc 511)
stack_spilled m l =
    let small : nat_le m 512 ≡ true = grind (arith, nat_tests) in
    let up : lowest (pos m +ℤ negsuc 511) ≡ m = sym (ap natural (back_again m)) in
    ap (λ n. spilled_type (cond (nat_le n 512) (82 + n) 0)) up ∙ ap (λ b. spilled_type (cond b (82 + m) 0)) small ∙ spilled_stack m

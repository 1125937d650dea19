-- The result of arithmetic fits the type that the verifier's typing rules give it.
use Rattle.std.proofs.Common.{◌≡◌, ℕ, zero, suc, ◌+◌, ◌-◌, ◌<◌, List, Option, Some, None, Bool, true, false, refl, sym, ap, ◌∙◌, subst, arith}
use Rattle.std.specs.Prelude.{Result, Ok, Err, ℤ, pos, negsuc, ◌+ℤ◌, neg_ℤ, int_le, ◌&&◌, ◌||◌, cond, nat_le, nat_lt}
use Rattle.std.proofs.lemmas.Bool.Decides.{nat_tests}
use Rattle.std.proofs.lemmas.Int.{ints}
use Rattle.bpf_model.specs.declared.instruction.Inst.{Inst}
use Rattle.bpf_model.specs.declared.instruction.Width.{Width}
use Rattle.bpf_model.specs.declared.instruction.Width.TheVariants.{Bits32, Bits64}
use Rattle.bpf_model.specs.declared.instruction.Source.{Source}
use Rattle.bpf_model.specs.declared.instruction.Source.TheVariants.{Immediate, Register}
use Rattle.bpf_model.specs.declared.instruction.Operator.{Operator}
use Rattle.bpf_model.specs.declared.instruction.Operator.TheVariants.{Add, Sub, Neg, Mov, SwapBytes}
use Rattle.bpf_model.specs.declared.machine.Value.{Value}
use Rattle.bpf_model.specs.declared.machine.Value.TheVariants.{Unset, Number, Context, Stack}
use Rattle.bpf_model.specs.declared.context.Layout.{Layout}
use Rattle.bpf_model.specs.Layouts.{context_len}
use Rattle.bpf_model.specs.Arithmetic.{alu, swapped, low}
use Rattle.std.specs.Int.{cast_unsigned, w32}
use Rattle.bpf_model.specs.Machine.{shifted, number, immediate, on_numbers, map_option, sum_value, move_value, set_value, alu_value, operand}
use Rattle.verifier.specs.declared.types.RegType.{RegType}
use Rattle.verifier.specs.declared.types.RegType.TheVariants.{Unset as Anything, Num, Const, Ctx, Stk}
use Rattle.verifier.specs.declared.types.Flaw.{Flaw}
use Rattle.verifier.specs.declared.types.Flaw.TheVariants.{NotANumber, OutOfRange, PointerArithmetic}
use Rattle.verifier.specs.Rules.{is_unset, is_pointer, one_number, two_numbers, ctx_at, stk_at, sum_type, copied_type, is_zero_offset, alu_type}
use Rattle.verifier.specs.Facts.{FitsType}

-- the result is a value that fits the type, and not None
abbrev pub Gives : Option Value → RegType → Type 0
Gives None t = ⊥
Gives (Some v) t = FitsType t v

abbrev HasNumber : Value → Type 0
HasNumber v = (n : ℕ) × (v ≡ Number n)

abbrev Typed : Type 0
Typed = Result RegType Flaw

abbrev ok_of : RegType → Typed
ok_of t = Ok t

ok_inj : {x y : RegType} → ok_of x ≡ ok_of y → x ≡ y
ok_inj e = cc

-- if a type is neither unset nor a pointer's type, then each value that fits it is a number
is_number : (t : RegType) (v : Value) → FitsType t v → is_unset t ≡ false → is_pointer t ≡ false → HasNumber v
is_number Anything v h a b = absurd (cc)
is_number Num (Number n) h a b = (n, refl)
is_number (Const c) (Number n) h a b = (n, refl)
is_number (Ctx k) v h a b = absurd (cc)
is_number (Stk k) v h a b = absurd (cc)
is_number Num Unset h a b = absurd h
is_number Num (Context n) h a b = absurd h
is_number Num (Stack n) h a b = absurd h
is_number (Const c) Unset h a b = absurd h
is_number (Const c) (Context n) h a b = absurd h
is_number (Const c) (Stack n) h a b = absurd h

one_test : (r : ℕ) (a b : Bool) (t : RegType) → cond a (Err (NotANumber r)) (cond b (Err PointerArithmetic) (Ok Num)) ≡ Ok t
    → (a ≡ false) × (b ≡ false) × (Num ≡ t)
one_test r true b t e = absurd (cc)
one_test r false true t e = absurd (cc)
one_test r false false t e = (refl, refl, ok_inj e)

two_test : (r q : ℕ) (a b c : Bool) (t : RegType) → cond a (Err (NotANumber r)) (cond b (Err (NotANumber q)) (cond c (Err PointerArithmetic) (Ok Num))) ≡ Ok t
    → (a ≡ false) × (b ≡ false) × (c ≡ false) × (Num ≡ t)
two_test r q true b c t e = absurd (cc)
two_test r q false true c t e = absurd (cc)
two_test r q false false true t e = absurd (cc)
two_test r q false false false t e = (refl, refl, refl, ok_inj e)

either_false : (a b : Bool) → (a || b) ≡ false → (a ≡ false) × (b ≡ false)
either_false true b e = absurd (cc)
either_false false b e = (refl, e)

pub one : (r : ℕ) (a : RegType) (va : Value) (t : RegType) → FitsType a va → one_number r a ≡ Ok t → HasNumber va × (Num ≡ t)
one r a va t h e = let x = one_test r (is_unset a) (is_pointer a) t e in (is_number a va h x.0 x.1, x.2)

pub two : (r q : ℕ) (a b : RegType) (va vb : Value) (t : RegType) → FitsType a va → FitsType b vb → two_numbers r q a b ≡ Ok t
    → HasNumber va × HasNumber vb × (Num ≡ t)
two r q a b va vb t h k e =
    let x = two_test r q (is_unset a) (is_unset b) (is_pointer a || is_pointer b) t e in
    let p = either_false (is_pointer a) (is_pointer b) x.2 in
    (is_number a va h x.0 p.0, is_number b vb k x.1 p.1, x.3)

-- if the typing rules accept two operands as numbers, then an operator on them gives a value that fits the type of the
-- result
on_two : (f : ℕ → ℕ → ℕ) (r q : ℕ) (a b : RegType) (va vb : Value) (t : RegType) → FitsType a va → FitsType b vb → two_numbers r q a b ≡ Ok t
    → Gives (on_numbers f va vb) t
on_two f r q a b va vb t h k e =
    let x = two r q a b va vb t h k e in
    subst (λ w. Gives (on_numbers f w vb) t) (sym x.0.1)
    (subst (λ w. Gives (on_numbers f (Number x.0.0) w) t) (sym x.1.1) (subst (λ u. FitsType u (Number (f x.0.0 x.1.0))) x.2 tt))

on_one : (f : ℕ → ℕ) (r : ℕ) (a : RegType) (va : Value) (t : RegType) → FitsType a va → one_number r a ≡ Ok t
    → Gives (map_option (λ x. Number (f x)) (number va)) t
on_one f r a va t h e =
    let x = one r a va t h e in
    subst (λ w. Gives (map_option (λ x. Number (f x)) (number w)) t) (sym x.0.1) (subst (λ u. FitsType u (Number (f x.0.0))) x.1 tt)

ctx_moved : (k limit : ℕ) (z : ℤ) (t : RegType) (o : Option ℕ) → o ≡ shifted k z limit → ctx_at o ≡ Ok t → Gives (map_option Context o) t
ctx_moved k limit z t None same e = absurd (cc)
ctx_moved k limit z t (Some n) same e = subst (λ u. FitsType u (Context n)) (ok_inj e) refl

stk_test : (b : Bool) (r : ℤ) (t : RegType) → cond b (Ok (Stk r)) (Err OutOfRange) ≡ ok_of t → (b ≡ true) × (Stk r ≡ t)
stk_test true r t e = (refl, ok_inj e)
stk_test false r t e = absurd (cc)

two_true : (a b : Bool) → (a && b) ≡ true → (a ≡ true) × (b ≡ true)
two_true true b e = (refl, e)
two_true false b e = absurd (cc)

gives_if : (b : Bool) (m : ℕ) (t : RegType) → b ≡ true → FitsType t (Stack m) → Gives (map_option Stack (cond b (Some m) None)) t
gives_if true m t e h = h
gives_if false m t e h = absurd (cc)

up_fits : (n m : ℕ) (k : ℤ) → pos n ≡ (k +ℤ pos 512) → int_le (k +ℤ pos m) (pos 0) ≡ true → nat_le (n + m) 512 ≡ true
up_fits n m k h a = grind (arith, ints, nat_tests)

up_is : (n m : ℕ) (k : ℤ) → pos n ≡ (k +ℤ pos 512) → pos (n + m) ≡ ((k +ℤ pos m) +ℤ pos 512)
up_is n m k h = omega (arith, ints)

down_fits : (n m : ℕ) (k : ℤ) → pos n ≡ (k +ℤ pos 512) → int_le (negsuc 511) (k +ℤ negsuc m) ≡ true → int_le (k +ℤ negsuc m) (pos 0) ≡ true
    → (nat_lt m n ≡ true) × (nat_le (n - suc m) 512 ≡ true)
down_fits n m k h a b = (grind (arith, ints, nat_tests), grind (arith, ints, nat_tests))

down_is : (n m : ℕ) (k : ℤ) → m < n → pos n ≡ (k +ℤ pos 512) → pos (n - suc m) ≡ ((k +ℤ negsuc m) +ℤ pos 512)
down_is n m k l h = omega (arith, ints)

-- if the typing rules give a type for a stack pointer moved by z bytes, then the moved pointer fits that type
stk_moved : (n : ℕ) (k z : ℤ) (t : RegType) → pos n ≡ (k +ℤ pos 512) → stk_at (k +ℤ z) ≡ ok_of t → Gives (map_option Stack (shifted n z 512)) t
stk_moved n k (pos m) t h e =
    let x = stk_test (int_le (negsuc 511) (k +ℤ pos m) && int_le (k +ℤ pos m) (pos 0)) (k +ℤ pos m) t e in
    let y = two_true (int_le (negsuc 511) (k +ℤ pos m)) (int_le (k +ℤ pos m) (pos 0)) x.0 in
    gives_if (nat_le (n + m) 512) (n + m) t (up_fits n m k h y.1) (subst (λ u. FitsType u (Stack (n + m))) x.1 (up_is n m k h))
stk_moved n k (negsuc m) t h e =
    let x = stk_test (int_le (negsuc 511) (k +ℤ negsuc m) && int_le (k +ℤ negsuc m) (pos 0)) (k +ℤ negsuc m) t e in
    let y = two_true (int_le (negsuc 511) (k +ℤ negsuc m)) (int_le (k +ℤ negsuc m) (pos 0)) x.0 in
    let d = down_fits n m k h y.0 y.1 in
    let l : m < n = grind (arith, nat_tests, d.0) in
    gives_if (nat_lt m n && nat_le (n - suc m) 512) (n - suc m) t (ap (λ b. b && nat_le (n - suc m) 512) d.0 ∙ d.1)
    (subst (λ u. FitsType u (Stack (n - suc m))) x.1 (down_is n m k l h))

sum : (layout : Layout) (room : ℕ) → room ≡ context_len layout
    → (op : Operator) (w : Width) (s : Source) (i : Inst) (z : ℤ) (a b : RegType) (va vb : Value) (t : RegType) → FitsType a va → FitsType b vb
    → sum_type layout w s i z a b ≡ Ok t → Gives (sum_value room op w s z i.offset va vb) t
sum layout room long op Bits32 s i z a b va vb t h g e = on_two (alu op Bits32 i.offset) i.dst i.src a b va vb t h g e
sum layout room long op Bits64 Register i z a b va vb t h g e = on_two (alu op Bits64 i.offset) i.dst i.src a b va vb t h g e
sum layout room long op Bits64 Immediate i z (Ctx k) b (Context n) vb t h g e =
    subst (λ m. Gives (map_option Context (shifted m z room)) t) (sym h)
    (ctx_moved k room z t (shifted k z room) refl (ap (λ l. ctx_at (shifted k z l)) long ∙ e))
sum layout room long op Bits64 Immediate i z (Stk k) b (Stack n) vb t h g e = stk_moved n k z t h e
sum layout room long op Bits64 Immediate i z Num b (Number n) vb t h g e = on_two (alu op Bits64 i.offset) i.dst i.src Num b (Number n) vb t h g e
sum layout room long op Bits64 Immediate i z (Const c) b (Number n) vb t h g e = on_two (alu op Bits64 i.offset) i.dst i.src (Const c) b (Number n) vb t h g e
sum layout room long op Bits64 Immediate i z Anything b va vb t h g e = absurd (cc)
sum layout room long op Bits64 Immediate i z (Ctx k) b Unset vb t h g e = absurd h
sum layout room long op Bits64 Immediate i z (Ctx k) b (Number n) vb t h g e = absurd h
sum layout room long op Bits64 Immediate i z (Ctx k) b (Stack n) vb t h g e = absurd h
sum layout room long op Bits64 Immediate i z (Stk k) b Unset vb t h g e = absurd h
sum layout room long op Bits64 Immediate i z (Stk k) b (Number n) vb t h g e = absurd h
sum layout room long op Bits64 Immediate i z (Stk k) b (Context n) vb t h g e = absurd h
sum layout room long op Bits64 Immediate i z Num b Unset vb t h g e = absurd h
sum layout room long op Bits64 Immediate i z Num b (Context n) vb t h g e = absurd h
sum layout room long op Bits64 Immediate i z Num b (Stack n) vb t h g e = absurd h
sum layout room long op Bits64 Immediate i z (Const c) b Unset vb t h g e = absurd h
sum layout room long op Bits64 Immediate i z (Const c) b (Context n) vb t h g e = absurd h
sum layout room long op Bits64 Immediate i z (Const c) b (Stack n) vb t h g e = absurd h

set_fits : (t : RegType) (v : Value) → is_unset t ≡ false → FitsType t v → Gives (set_value v) t
set_fits Anything v e h = absurd (cc)
set_fits t Unset e h = absurd h
set_fits t (Number n) e h = h
set_fits t (Context n) e h = h
set_fits t (Stack n) e h = h

copy_test : (b : Bool) (src : ℕ) (u t : RegType) → cond b (Err (NotANumber src)) (ok_of u) ≡ ok_of t → (b ≡ false) × (u ≡ t)
copy_test true src u t e = absurd (cc)
copy_test false src u t e = (refl, ok_inj e)

copied : (src : ℕ) (b : RegType) (vb : Value) (t : RegType) → FitsType b vb → copied_type src b ≡ Ok t → Gives (set_value vb) t
copied src b vb t g e =
    let x = copy_test (is_unset b) src b t e in
    subst (λ u. Gives (set_value vb) u) x.1 (set_fits b vb x.0 g)

move_fits : (w : Width) (i : Inst) (o : ℤ) (t : RegType) → ok_of (cond (is_zero_offset o) (Const (low w (immediate w i.imm))) Num) ≡ ok_of t
    → Gives (move_value w Immediate o (Number (immediate w i.imm))) t
move_fits Bits32 i (pos zero) t e = subst (λ u. Gives (move_value Bits32 Immediate (pos zero) (Number (immediate Bits32 i.imm))) u) (ok_inj e) refl
move_fits Bits32 i (pos (suc n)) t e = subst (λ u. Gives (move_value Bits32 Immediate (pos (suc n)) (Number (immediate Bits32 i.imm))) u) (ok_inj e) tt
move_fits Bits32 i (negsuc n) t e = subst (λ u. Gives (move_value Bits32 Immediate (negsuc n) (Number (immediate Bits32 i.imm))) u) (ok_inj e) tt
move_fits Bits64 i (pos zero) t e = subst (λ u. Gives (move_value Bits64 Immediate (pos zero) (Number (immediate Bits64 i.imm))) u) (ok_inj e) refl
move_fits Bits64 i (pos (suc n)) t e = subst (λ u. Gives (move_value Bits64 Immediate (pos (suc n)) (Number (immediate Bits64 i.imm))) u) (ok_inj e) tt
move_fits Bits64 i (negsuc n) t e = subst (λ u. Gives (move_value Bits64 Immediate (negsuc n) (Number (immediate Bits64 i.imm))) u) (ok_inj e) tt

moved : (o : ℤ) (src : ℕ) (b : RegType) (vb : Value) (t : RegType) → FitsType b vb → cond (is_zero_offset o) (copied_type src b) (one_number src b) ≡ Ok t
    → Gives (move_value Bits64 Register o vb) t
moved (pos zero) src b vb t g e = copied src b vb t g e
moved (pos (suc n)) src b vb t g e = on_one (alu Mov Bits64 (pos (suc n)) 0) src b vb t g e
moved (negsuc n) src b vb t g e = on_one (alu Mov Bits64 (negsuc n) 0) src b vb t g e

-- the result of an arithmetic instruction fits the type that the typing rules give for it
pub arithmetic : (layout : Layout) (room : ℕ) → room ≡ context_len layout
    → (op : Operator) (w : Width) (s : Source) (i : Inst) (registers : List Value) (a b : RegType) (va : Value) (t : RegType) → FitsType a va
    → FitsType b (operand s w i registers) → alu_type layout op w s i a b ≡ Ok t → Gives (alu_value room op w s i va (operand s w i registers)) t
arithmetic layout room long Add w s i registers a b va t h g e = sum layout room long Add w s i i.imm a b va (operand s w i registers) t h g e
arithmetic layout room long Sub w s i registers a b va t h g e =
    sum layout room long Sub w s i (neg_ℤ i.imm) a b va (operand s w i registers) t h g e
arithmetic layout room long Mov w Immediate i registers a b va t h g e = move_fits w i i.offset t e
arithmetic layout room long Mov Bits32 Register i registers a b va t h g e =
    on_one (alu Mov Bits32 i.offset 0) i.src b (operand Register Bits32 i registers) t g e
arithmetic layout room long Mov Bits64 Register i registers a b va t h g e = moved i.offset i.src b (operand Register Bits64 i registers) t g e
arithmetic layout room long Neg w s i registers a b va t h g e = on_one (λ x. alu Neg w i.offset x 0) i.dst a va t h e
arithmetic layout room long SwapBytes w s i registers a b va t h g e = on_one (swapped w s (cast_unsigned w32 i.imm)) i.dst a va t h e
arithmetic layout room long op w s i registers a b va t h g e = on_two (alu op w i.offset) i.dst i.src a b va (operand s w i registers) t h g e

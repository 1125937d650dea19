-- Closed examples: each operator and condition at edge values. The expected values are C's: tools/edges.c wrote this
-- file.
use Rattle.std.specs.Prelude.{◌≡◌, refl, ℕ, ℤ, pos, Bool, true, false, List, [], ◌∷◌, map}
use Rattle.bpf_model.specs.declared.instruction.Width.{Width}
use Rattle.bpf_model.specs.declared.instruction.Width.TheVariants.{Bits32, Bits64}
use Rattle.bpf_model.specs.declared.instruction.Source.TheVariants.{Immediate, Register}
use Rattle.bpf_model.specs.declared.instruction.Operator.{Operator}
use Rattle.bpf_model.specs.declared.instruction.Operator.TheVariants.{Add, Sub, Mul, Div, Or, And, Lsh, Rsh, Neg, Mod}
use Rattle.bpf_model.specs.declared.instruction.Operator.TheVariants.{Xor, Mov, Arsh}
use Rattle.bpf_model.specs.declared.instruction.Condition.{Condition}
use Rattle.bpf_model.specs.declared.instruction.Condition.TheVariants.{Jeq, Jgt, Jge, Jset, Jne, Jsgt, Jsge, Jlt, Jle}
use Rattle.bpf_model.specs.declared.instruction.Condition.TheVariants.{Jslt, Jsle}
use Rattle.bpf_model.specs.Arithmetic.{alu, holds, swapped}

-- the pairs of operands that each operator and condition is tried on, dst first
abbrev pairs : List (ℕ × ℕ)
pairs =
    (0, 0) ∷ (1, 0) ∷ (0, 1) ∷ (1, 1) ∷ (5, 3) ∷ (18446744073709551603, 3) ∷ (13, 18446744073709551613) ∷ (1, 31) ∷ (1, 32) ∷ (1, 63) ∷ (1, 64) ∷ (1, 65)
    ∷ (2147483647, 1) ∷ (2147483648, 1) ∷ (4294967295, 1) ∷ (4294967296, 1) ∷ (2147483648, 4294967295) ∷ (2147483648, 18446744073709551615)
    ∷ (9223372036854775807, 1) ∷ (9223372036854775808, 1) ∷ (9223372036854775808, 18446744073709551615) ∷ (18446744073709551615, 18446744073709551615)
    ∷ (18446744073709551615, 63) ∷ (9223372036854775808, 63) ∷ (2147483648, 31) ∷ (18446744073709551615, 4294967296)
    ∷ (1234605616436508552, 9843086184167632639) ∷ (128, 128) ∷ (32768, 32768) ∷ (4286578559, 4286578559) ∷ []

abbrev results : Operator → Width → ℤ → List ℕ
results op w offset = map (λ p. alu op w offset p.0 p.1) pairs

abbrev taken : Condition → Width → List Bool
taken c w = map (λ p. holds c w p.0 p.1) pairs

sum_narrow : results Add Bits32 (pos 0) ≡ 0 ∷ 1 ∷ 1 ∷ 2 ∷ 8 ∷ 4294967286 ∷ 10 ∷ 32 ∷ 33 ∷ 64 ∷ 65 ∷ 66 ∷ 2147483648 ∷ 2147483649 ∷ 0 ∷ 1 ∷ 2147483647
    ∷ 2147483647 ∷ 0 ∷ 1 ∷ 4294967295 ∷ 4294967294 ∷ 62 ∷ 63 ∷ 2147483679 ∷ 4294967295 ∷ 574908039 ∷ 256 ∷ 65536 ∷ 4278189822 ∷ []
sum_narrow = refl

difference_narrow : results Sub Bits32 (pos 0) ≡ 0 ∷ 1 ∷ 4294967295 ∷ 0 ∷ 2 ∷ 4294967280 ∷ 16 ∷ 4294967266 ∷ 4294967265 ∷ 4294967234 ∷ 4294967233
    ∷ 4294967232 ∷ 2147483646 ∷ 2147483647 ∷ 4294967294 ∷ 4294967295 ∷ 2147483649 ∷ 2147483649 ∷ 4294967294 ∷ 4294967295 ∷ 1 ∷ 0 ∷ 4294967232 ∷ 4294967233
    ∷ 2147483617 ∷ 4294967295 ∷ 2290649225 ∷ 0 ∷ 0 ∷ 0 ∷ []
difference_narrow = refl

product_narrow : results Mul Bits32 (pos 0) ≡ 0 ∷ 0 ∷ 0 ∷ 1 ∷ 15 ∷ 4294967257 ∷ 4294967257 ∷ 31 ∷ 32 ∷ 63 ∷ 64 ∷ 65 ∷ 2147483647 ∷ 2147483648 ∷ 4294967295
    ∷ 0 ∷ 2147483648 ∷ 2147483648 ∷ 4294967295 ∷ 0 ∷ 0 ∷ 1 ∷ 4294967233 ∷ 0 ∷ 2147483648 ∷ 0 ∷ 3835265144 ∷ 16384 ∷ 1073741824 ∷ 2164277505 ∷ []
product_narrow = refl

quotient_narrow : results Div Bits32 (pos 0) ≡ 0 ∷ 0 ∷ 0 ∷ 1 ∷ 1 ∷ 1431655761 ∷ 0 ∷ 0 ∷ 0 ∷ 0 ∷ 0 ∷ 0 ∷ 2147483647 ∷ 2147483648 ∷ 4294967295 ∷ 0 ∷ 0 ∷ 0
    ∷ 4294967295 ∷ 0 ∷ 0 ∷ 1 ∷ 68174084 ∷ 0 ∷ 69273666 ∷ 0 ∷ 0 ∷ 1 ∷ 1 ∷ 1 ∷ []
quotient_narrow = refl

signed_quotient_narrow : results Div Bits32 (pos 1) ≡ 0 ∷ 0 ∷ 0 ∷ 1 ∷ 1 ∷ 4294967292 ∷ 4294967292 ∷ 0 ∷ 0 ∷ 0 ∷ 0 ∷ 0 ∷ 2147483647 ∷ 2147483648
    ∷ 4294967295 ∷ 0 ∷ 2147483648 ∷ 2147483648 ∷ 4294967295 ∷ 0 ∷ 0 ∷ 1 ∷ 0 ∷ 0 ∷ 4225693630 ∷ 0 ∷ 4294967295 ∷ 1 ∷ 1 ∷ 1 ∷ []
signed_quotient_narrow = refl

or_narrow : results Or Bits32 (pos 0) ≡ 0 ∷ 1 ∷ 1 ∷ 1 ∷ 7 ∷ 4294967283 ∷ 4294967293 ∷ 31 ∷ 33 ∷ 63 ∷ 65 ∷ 65 ∷ 2147483647 ∷ 2147483649 ∷ 4294967295 ∷ 1
    ∷ 4294967295 ∷ 4294967295 ∷ 4294967295 ∷ 1 ∷ 4294967295 ∷ 4294967295 ∷ 4294967295 ∷ 63 ∷ 2147483679 ∷ 4294967295 ∷ 3724541951 ∷ 128
    ∷ 32768 ∷ 4286578559 ∷ []
or_narrow = refl

and_narrow : results And Bits32 (pos 0) ≡ 0 ∷ 0 ∷ 0 ∷ 1 ∷ 1 ∷ 3 ∷ 13 ∷ 1 ∷ 0 ∷ 1 ∷ 0 ∷ 1 ∷ 1 ∷ 0 ∷ 1 ∷ 0 ∷ 2147483648 ∷ 2147483648 ∷ 1 ∷ 0 ∷ 0 ∷ 4294967295 ∷ 63
    ∷ 0 ∷ 0 ∷ 0 ∷ 1145333384 ∷ 128 ∷ 32768 ∷ 4286578559 ∷ []
and_narrow = refl

shift_left_narrow : results Lsh Bits32 (pos 0) ≡ 0 ∷ 1 ∷ 0 ∷ 2 ∷ 40 ∷ 4294967192 ∷ 2684354560 ∷ 2147483648 ∷ 1 ∷ 2147483648 ∷ 1 ∷ 2 ∷ 4294967294 ∷ 0
    ∷ 4294967294 ∷ 0 ∷ 0 ∷ 0 ∷ 4294967294 ∷ 0 ∷ 0 ∷ 2147483648 ∷ 2147483648 ∷ 0 ∷ 0 ∷ 4294967295 ∷ 0 ∷ 128 ∷ 32768 ∷ 2147483648 ∷ []
shift_left_narrow = refl

shift_right_narrow : results Rsh Bits32 (pos 0) ≡ 0 ∷ 1 ∷ 0 ∷ 0 ∷ 0 ∷ 536870910 ∷ 0 ∷ 0 ∷ 1 ∷ 0 ∷ 1 ∷ 0 ∷ 1073741823 ∷ 1073741824 ∷ 2147483647 ∷ 0 ∷ 1
    ∷ 1 ∷ 2147483647 ∷ 0 ∷ 0 ∷ 1 ∷ 1 ∷ 0 ∷ 1 ∷ 4294967295 ∷ 0 ∷ 128 ∷ 32768 ∷ 1 ∷ []
shift_right_narrow = refl

negate_narrow : results Neg Bits32 (pos 0) ≡ 0 ∷ 4294967295 ∷ 0 ∷ 4294967295 ∷ 4294967291 ∷ 13 ∷ 4294967283 ∷ 4294967295 ∷ 4294967295 ∷ 4294967295
    ∷ 4294967295 ∷ 4294967295 ∷ 2147483649 ∷ 2147483648 ∷ 1 ∷ 0 ∷ 2147483648 ∷ 2147483648 ∷ 1 ∷ 0 ∷ 0 ∷ 1 ∷ 1 ∷ 0 ∷ 2147483648 ∷ 1 ∷ 2862188664 ∷ 4294967168
    ∷ 4294934528 ∷ 8388737 ∷ []
negate_narrow = refl

remainder_narrow : results Mod Bits32 (pos 0) ≡ 0 ∷ 1 ∷ 0 ∷ 0 ∷ 2 ∷ 0 ∷ 13 ∷ 1 ∷ 1 ∷ 1 ∷ 1 ∷ 1 ∷ 0 ∷ 0 ∷ 0 ∷ 0 ∷ 2147483648 ∷ 2147483648 ∷ 0 ∷ 0 ∷ 0 ∷ 0
    ∷ 3 ∷ 0 ∷ 2 ∷ 4294967295 ∷ 1432778632 ∷ 0 ∷ 0 ∷ 0 ∷ []
remainder_narrow = refl

signed_remainder_narrow : results Mod Bits32 (pos 1) ≡ 0 ∷ 1 ∷ 0 ∷ 0 ∷ 2 ∷ 4294967295 ∷ 1 ∷ 1 ∷ 1 ∷ 1 ∷ 1 ∷ 1 ∷ 0 ∷ 0 ∷ 0 ∷ 0 ∷ 0 ∷ 0 ∷ 0 ∷ 0 ∷ 0 ∷ 0
    ∷ 4294967295 ∷ 0 ∷ 4294967294 ∷ 4294967295 ∷ 574908039 ∷ 0 ∷ 0 ∷ 0 ∷ []
signed_remainder_narrow = refl

xor_narrow : results Xor Bits32 (pos 0) ≡ 0 ∷ 1 ∷ 1 ∷ 0 ∷ 6 ∷ 4294967280 ∷ 4294967280 ∷ 30 ∷ 33 ∷ 62 ∷ 65 ∷ 64 ∷ 2147483646 ∷ 2147483649 ∷ 4294967294 ∷ 1
    ∷ 2147483647 ∷ 2147483647 ∷ 4294967294 ∷ 1 ∷ 4294967295 ∷ 0 ∷ 4294967232 ∷ 63 ∷ 2147483679 ∷ 4294967295 ∷ 2579208567 ∷ 0 ∷ 0 ∷ 0 ∷ []
xor_narrow = refl

move_narrow : results Mov Bits32 (pos 0) ≡ 0 ∷ 0 ∷ 1 ∷ 1 ∷ 3 ∷ 3 ∷ 4294967293 ∷ 31 ∷ 32 ∷ 63 ∷ 64 ∷ 65 ∷ 1 ∷ 1 ∷ 1 ∷ 1 ∷ 4294967295 ∷ 4294967295 ∷ 1 ∷ 1
    ∷ 4294967295 ∷ 4294967295 ∷ 63 ∷ 63 ∷ 31 ∷ 0 ∷ 3437096703 ∷ 128 ∷ 32768 ∷ 4286578559 ∷ []
move_narrow = refl

move_byte_narrow : results Mov Bits32 (pos 8) ≡ 0 ∷ 0 ∷ 1 ∷ 1 ∷ 3 ∷ 3 ∷ 4294967293 ∷ 31 ∷ 32 ∷ 63 ∷ 64 ∷ 65 ∷ 1 ∷ 1 ∷ 1 ∷ 1 ∷ 4294967295 ∷ 4294967295 ∷ 1 ∷ 1
    ∷ 4294967295 ∷ 4294967295 ∷ 63 ∷ 63 ∷ 31 ∷ 0 ∷ 4294967295 ∷ 4294967168 ∷ 0 ∷ 127 ∷ []
move_byte_narrow = refl

move_half_narrow : results Mov Bits32 (pos 16) ≡ 0 ∷ 0 ∷ 1 ∷ 1 ∷ 3 ∷ 3 ∷ 4294967293 ∷ 31 ∷ 32 ∷ 63 ∷ 64 ∷ 65 ∷ 1 ∷ 1 ∷ 1 ∷ 1 ∷ 4294967295 ∷ 4294967295 ∷ 1 ∷ 1
    ∷ 4294967295 ∷ 4294967295 ∷ 63 ∷ 63 ∷ 31 ∷ 0 ∷ 4294962943 ∷ 128 ∷ 4294934528 ∷ 4294967167 ∷ []
move_half_narrow = refl

shift_signed_narrow : results Arsh Bits32 (pos 0) ≡ 0 ∷ 1 ∷ 0 ∷ 0 ∷ 0 ∷ 4294967294 ∷ 0 ∷ 0 ∷ 1 ∷ 0 ∷ 1 ∷ 0 ∷ 1073741823 ∷ 3221225472 ∷ 4294967295 ∷ 0
    ∷ 4294967295 ∷ 4294967295 ∷ 4294967295 ∷ 0 ∷ 0 ∷ 4294967295 ∷ 4294967295 ∷ 0 ∷ 4294967295 ∷ 4294967295 ∷ 0 ∷ 128 ∷ 32768 ∷ 4294967295 ∷ []
shift_signed_narrow = refl

sum_full : results Add Bits64 (pos 0) ≡ 0 ∷ 1 ∷ 1 ∷ 2 ∷ 8 ∷ 18446744073709551606 ∷ 10 ∷ 32 ∷ 33 ∷ 64 ∷ 65 ∷ 66 ∷ 2147483648 ∷ 2147483649 ∷ 4294967296 ∷ 4294967297
    ∷ 6442450943 ∷ 2147483647 ∷ 9223372036854775808 ∷ 9223372036854775809 ∷ 9223372036854775807 ∷ 18446744073709551614 ∷ 62 ∷ 9223372036854775871 ∷ 2147483679
    ∷ 4294967295 ∷ 11077691800604141191 ∷ 256 ∷ 65536 ∷ 8573157118 ∷ []
sum_full = refl

difference_full : results Sub Bits64 (pos 0) ≡ 0 ∷ 1 ∷ 18446744073709551615 ∷ 0 ∷ 2 ∷ 18446744073709551600 ∷ 16 ∷ 18446744073709551586
    ∷ 18446744073709551585 ∷ 18446744073709551554 ∷ 18446744073709551553 ∷ 18446744073709551552 ∷ 2147483646 ∷ 2147483647 ∷ 4294967294 ∷ 4294967295
    ∷ 18446744071562067969 ∷ 2147483649 ∷ 9223372036854775806 ∷ 9223372036854775807 ∷ 9223372036854775809 ∷ 0 ∷ 18446744073709551552 ∷ 9223372036854775745
    ∷ 2147483617 ∷ 18446744069414584319 ∷ 9838263505978427529 ∷ 0 ∷ 0 ∷ 0 ∷ []
difference_full = refl

product_full : results Mul Bits64 (pos 0) ≡ 0 ∷ 0 ∷ 0 ∷ 1 ∷ 15 ∷ 18446744073709551577 ∷ 18446744073709551577 ∷ 31 ∷ 32 ∷ 63 ∷ 64 ∷ 65 ∷ 2147483647
    ∷ 2147483648 ∷ 4294967295 ∷ 4294967296 ∷ 9223372034707292160 ∷ 18446744071562067968 ∷ 9223372036854775807 ∷ 9223372036854775808 ∷ 9223372036854775808 ∷ 1
    ∷ 18446744073709551553 ∷ 9223372036854775808 ∷ 66571993088 ∷ 18446744069414584320 ∷ 12702290065776803960 ∷ 16384 ∷ 1073741824 ∷ 18374755742478516481 ∷ []
product_full = refl

quotient_full : results Div Bits64 (pos 0) ≡ 0 ∷ 0 ∷ 0 ∷ 1 ∷ 1 ∷ 6148914691236517201 ∷ 0 ∷ 0 ∷ 0 ∷ 0 ∷ 0 ∷ 0 ∷ 2147483647 ∷ 2147483648 ∷ 4294967295
    ∷ 4294967296 ∷ 0 ∷ 0 ∷ 9223372036854775807 ∷ 9223372036854775808 ∷ 0 ∷ 1 ∷ 292805461487453200 ∷ 146402730743726600 ∷ 69273666
    ∷ 4294967295 ∷ 0 ∷ 1 ∷ 1 ∷ 1 ∷ []
quotient_full = refl

signed_quotient_full : results Div Bits64 (pos 1) ≡ 0 ∷ 0 ∷ 0 ∷ 1 ∷ 1 ∷ 18446744073709551612 ∷ 18446744073709551612 ∷ 0 ∷ 0 ∷ 0 ∷ 0 ∷ 0 ∷ 2147483647
    ∷ 2147483648 ∷ 4294967295 ∷ 4294967296 ∷ 0 ∷ 18446744071562067968 ∷ 9223372036854775807 ∷ 9223372036854775808 ∷ 9223372036854775808 ∷ 1 ∷ 0
    ∷ 18300341342965825016 ∷ 69273666 ∷ 0 ∷ 0 ∷ 1 ∷ 1 ∷ 1 ∷ []
signed_quotient_full = refl

or_full : results Or Bits64 (pos 0) ≡ 0 ∷ 1 ∷ 1 ∷ 1 ∷ 7 ∷ 18446744073709551603 ∷ 18446744073709551613 ∷ 31 ∷ 33 ∷ 63 ∷ 65 ∷ 65 ∷ 2147483647 ∷ 2147483649
    ∷ 4294967295 ∷ 4294967297 ∷ 4294967295 ∷ 18446744073709551615 ∷ 9223372036854775807 ∷ 9223372036854775809 ∷ 18446744073709551615 ∷ 18446744073709551615
    ∷ 18446744073709551615 ∷ 9223372036854775871 ∷ 2147483679 ∷ 18446744073709551615 ∷ 11077654416063463423 ∷ 128 ∷ 32768 ∷ 4286578559 ∷ []
or_full = refl

and_full : results And Bits64 (pos 0) ≡ 0 ∷ 0 ∷ 0 ∷ 1 ∷ 1 ∷ 3 ∷ 13 ∷ 1 ∷ 0 ∷ 1 ∷ 0 ∷ 1 ∷ 1 ∷ 0 ∷ 1 ∷ 0 ∷ 2147483648 ∷ 2147483648 ∷ 1 ∷ 0 ∷ 9223372036854775808
    ∷ 18446744073709551615 ∷ 63 ∷ 0 ∷ 0 ∷ 4294967296 ∷ 37384540677768 ∷ 128 ∷ 32768 ∷ 4286578559 ∷ []
and_full = refl

shift_left_full : results Lsh Bits64 (pos 0) ≡ 0 ∷ 1 ∷ 0 ∷ 2 ∷ 40 ∷ 18446744073709551512 ∷ 11529215046068469760 ∷ 2147483648 ∷ 4294967296
    ∷ 9223372036854775808 ∷ 1 ∷ 2 ∷ 4294967294 ∷ 4294967296 ∷ 8589934590 ∷ 8589934592 ∷ 0 ∷ 0 ∷ 18446744073709551614 ∷ 0 ∷ 0 ∷ 9223372036854775808
    ∷ 9223372036854775808 ∷ 0 ∷ 4611686018427387904 ∷ 18446744073709551615 ∷ 0 ∷ 128 ∷ 32768 ∷ 9223372036854775808 ∷ []
shift_left_full = refl

shift_right_full : results Rsh Bits64 (pos 0) ≡ 0 ∷ 1 ∷ 0 ∷ 0 ∷ 0 ∷ 2305843009213693950 ∷ 0 ∷ 0 ∷ 0 ∷ 0 ∷ 1 ∷ 0 ∷ 1073741823 ∷ 1073741824 ∷ 2147483647
    ∷ 2147483648 ∷ 0 ∷ 0 ∷ 4611686018427387903 ∷ 4611686018427387904 ∷ 1 ∷ 1 ∷ 1 ∷ 1 ∷ 1 ∷ 18446744073709551615 ∷ 0 ∷ 128 ∷ 32768 ∷ 0 ∷ []
shift_right_full = refl

negate_full : results Neg Bits64 (pos 0) ≡ 0 ∷ 18446744073709551615 ∷ 0 ∷ 18446744073709551615 ∷ 18446744073709551611 ∷ 13 ∷ 18446744073709551603
    ∷ 18446744073709551615 ∷ 18446744073709551615 ∷ 18446744073709551615 ∷ 18446744073709551615 ∷ 18446744073709551615 ∷ 18446744071562067969
    ∷ 18446744071562067968 ∷ 18446744069414584321 ∷ 18446744069414584320 ∷ 18446744071562067968 ∷ 18446744071562067968 ∷ 9223372036854775809
    ∷ 9223372036854775808 ∷ 9223372036854775808 ∷ 1 ∷ 1 ∷ 9223372036854775808 ∷ 18446744071562067968 ∷ 1 ∷ 17212138457273043064 ∷ 18446744073709551488
    ∷ 18446744073709518848 ∷ 18446744069422973057 ∷ []
negate_full = refl

remainder_full : results Mod Bits64 (pos 0) ≡ 0 ∷ 1 ∷ 0 ∷ 0 ∷ 2 ∷ 0 ∷ 13 ∷ 1 ∷ 1 ∷ 1 ∷ 1 ∷ 1 ∷ 0 ∷ 0 ∷ 0 ∷ 0 ∷ 2147483648 ∷ 2147483648 ∷ 0 ∷ 0
    ∷ 9223372036854775808 ∷ 0 ∷ 15 ∷ 8 ∷ 2 ∷ 4294967295 ∷ 1234605616436508552 ∷ 0 ∷ 0 ∷ 0 ∷ []
remainder_full = refl

signed_remainder_full : results Mod Bits64 (pos 1) ≡ 0 ∷ 1 ∷ 0 ∷ 0 ∷ 2 ∷ 18446744073709551615 ∷ 1 ∷ 1 ∷ 1 ∷ 1 ∷ 1 ∷ 1 ∷ 0 ∷ 0 ∷ 0 ∷ 0 ∷ 2147483648 ∷ 0 ∷ 0
    ∷ 0 ∷ 0 ∷ 0 ∷ 18446744073709551615 ∷ 18446744073709551608 ∷ 2 ∷ 18446744073709551615 ∷ 1234605616436508552 ∷ 0 ∷ 0 ∷ 0 ∷ []
signed_remainder_full = refl

xor_full : results Xor Bits64 (pos 0) ≡ 0 ∷ 1 ∷ 1 ∷ 0 ∷ 6 ∷ 18446744073709551600 ∷ 18446744073709551600 ∷ 30 ∷ 33 ∷ 62 ∷ 65 ∷ 64 ∷ 2147483646 ∷ 2147483649
    ∷ 4294967294 ∷ 4294967297 ∷ 2147483647 ∷ 18446744071562067967 ∷ 9223372036854775806 ∷ 9223372036854775809 ∷ 9223372036854775807 ∷ 0 ∷ 18446744073709551552
    ∷ 9223372036854775871 ∷ 2147483679 ∷ 18446744069414584319 ∷ 11077617031522785655 ∷ 0 ∷ 0 ∷ 0 ∷ []
xor_full = refl

move_full : results Mov Bits64 (pos 0) ≡ 0 ∷ 0 ∷ 1 ∷ 1 ∷ 3 ∷ 3 ∷ 18446744073709551613 ∷ 31 ∷ 32 ∷ 63 ∷ 64 ∷ 65 ∷ 1 ∷ 1 ∷ 1 ∷ 1 ∷ 4294967295
    ∷ 18446744073709551615 ∷ 1 ∷ 1 ∷ 18446744073709551615 ∷ 18446744073709551615 ∷ 63 ∷ 63 ∷ 31 ∷ 4294967296 ∷ 9843086184167632639 ∷ 128
    ∷ 32768 ∷ 4286578559 ∷ []
move_full = refl

move_byte_full : results Mov Bits64 (pos 8) ≡ 0 ∷ 0 ∷ 1 ∷ 1 ∷ 3 ∷ 3 ∷ 18446744073709551613 ∷ 31 ∷ 32 ∷ 63 ∷ 64 ∷ 65 ∷ 1 ∷ 1 ∷ 1 ∷ 1 ∷ 18446744073709551615
    ∷ 18446744073709551615 ∷ 1 ∷ 1 ∷ 18446744073709551615 ∷ 18446744073709551615 ∷ 63 ∷ 63 ∷ 31 ∷ 0 ∷ 18446744073709551615 ∷ 18446744073709551488 ∷ 0 ∷ 127 ∷ []
move_byte_full = refl

move_half_full : results Mov Bits64 (pos 16) ≡ 0 ∷ 0 ∷ 1 ∷ 1 ∷ 3 ∷ 3 ∷ 18446744073709551613 ∷ 31 ∷ 32 ∷ 63 ∷ 64 ∷ 65 ∷ 1 ∷ 1 ∷ 1 ∷ 1 ∷ 18446744073709551615
    ∷ 18446744073709551615 ∷ 1 ∷ 1 ∷ 18446744073709551615 ∷ 18446744073709551615 ∷ 63 ∷ 63 ∷ 31 ∷ 0 ∷ 18446744073709547263 ∷ 128 ∷ 18446744073709518848
    ∷ 18446744073709551487 ∷ []
move_half_full = refl

move_word_full : results Mov Bits64 (pos 32) ≡ 0 ∷ 0 ∷ 1 ∷ 1 ∷ 3 ∷ 3 ∷ 18446744073709551613 ∷ 31 ∷ 32 ∷ 63 ∷ 64 ∷ 65 ∷ 1 ∷ 1 ∷ 1 ∷ 1 ∷ 18446744073709551615
    ∷ 18446744073709551615 ∷ 1 ∷ 1 ∷ 18446744073709551615 ∷ 18446744073709551615 ∷ 63 ∷ 63 ∷ 31 ∷ 0 ∷ 18446744072851681023 ∷ 128 ∷ 32768
    ∷ 18446744073701162879 ∷ []
move_word_full = refl

shift_signed_full : results Arsh Bits64 (pos 0) ≡ 0 ∷ 1 ∷ 0 ∷ 0 ∷ 0 ∷ 18446744073709551614 ∷ 0 ∷ 0 ∷ 0 ∷ 0 ∷ 1 ∷ 0 ∷ 1073741823 ∷ 1073741824 ∷ 2147483647
    ∷ 2147483648 ∷ 0 ∷ 0 ∷ 4611686018427387903 ∷ 13835058055282163712 ∷ 18446744073709551615 ∷ 18446744073709551615 ∷ 18446744073709551615
    ∷ 18446744073709551615 ∷ 1 ∷ 18446744073709551615 ∷ 0 ∷ 128 ∷ 32768 ∷ 0 ∷ []
shift_signed_full = refl

jumps_where_equal_narrow : taken Jeq Bits32 ≡ true ∷ false ∷ false ∷ true ∷ false ∷ false ∷ false ∷ false ∷ false ∷ false ∷ false ∷ false ∷ false ∷ false
    ∷ false ∷ false ∷ false ∷ false ∷ false ∷ false ∷ false ∷ true ∷ false ∷ false ∷ false ∷ false ∷ false ∷ true ∷ true ∷ true ∷ []
jumps_where_equal_narrow = refl

jumps_where_over_narrow : taken Jgt Bits32 ≡ false ∷ true ∷ false ∷ false ∷ true ∷ true ∷ false ∷ false ∷ false ∷ false ∷ false ∷ false ∷ true ∷ true ∷ true
    ∷ false ∷ false ∷ false ∷ true ∷ false ∷ false ∷ false ∷ true ∷ false ∷ true ∷ true ∷ false ∷ false ∷ false ∷ false ∷ []
jumps_where_over_narrow = refl

jumps_where_not_below_narrow : taken Jge Bits32 ≡ true ∷ true ∷ false ∷ true ∷ true ∷ true ∷ false ∷ false ∷ false ∷ false ∷ false ∷ false ∷ true ∷ true
    ∷ true ∷ false ∷ false ∷ false ∷ true ∷ false ∷ false ∷ true ∷ true ∷ false ∷ true ∷ true ∷ false ∷ true ∷ true ∷ true ∷ []
jumps_where_not_below_narrow = refl

jumps_where_shares_bit_narrow : taken Jset Bits32 ≡ false ∷ false ∷ false ∷ true ∷ true ∷ true ∷ true ∷ true ∷ false ∷ true ∷ false ∷ true ∷ true ∷ false
    ∷ true ∷ false ∷ true ∷ true ∷ true ∷ false ∷ false ∷ true ∷ true ∷ false ∷ false ∷ false ∷ true ∷ true ∷ true ∷ true ∷ []
jumps_where_shares_bit_narrow = refl

jumps_where_differs_narrow : taken Jne Bits32 ≡ false ∷ true ∷ true ∷ false ∷ true ∷ true ∷ true ∷ true ∷ true ∷ true ∷ true ∷ true ∷ true ∷ true ∷ true
    ∷ true ∷ true ∷ true ∷ true ∷ true ∷ true ∷ false ∷ true ∷ true ∷ true ∷ true ∷ true ∷ false ∷ false ∷ false ∷ []
jumps_where_differs_narrow = refl

jumps_where_over_signed_narrow : taken Jsgt Bits32 ≡ false ∷ true ∷ false ∷ false ∷ true ∷ false ∷ true ∷ false ∷ false ∷ false ∷ false ∷ false ∷ true
    ∷ false ∷ false ∷ false ∷ false ∷ false ∷ false ∷ false ∷ true ∷ false ∷ false ∷ false ∷ false ∷ false ∷ true ∷ false ∷ false ∷ false ∷ []
jumps_where_over_signed_narrow = refl

jumps_where_not_below_signed_narrow : taken Jsge Bits32 ≡ true ∷ true ∷ false ∷ true ∷ true ∷ false ∷ true ∷ false ∷ false ∷ false ∷ false ∷ false
    ∷ true ∷ false ∷ false ∷ false ∷ false ∷ false ∷ false ∷ false ∷ true ∷ true ∷ false ∷ false ∷ false ∷ false ∷ true ∷ true ∷ true ∷ true ∷ []
jumps_where_not_below_signed_narrow = refl

jumps_where_below_narrow : taken Jlt Bits32 ≡ false ∷ false ∷ true ∷ false ∷ false ∷ false ∷ true ∷ true ∷ true ∷ true ∷ true ∷ true ∷ false ∷ false ∷ false
    ∷ true ∷ true ∷ true ∷ false ∷ true ∷ true ∷ false ∷ false ∷ true ∷ false ∷ false ∷ true ∷ false ∷ false ∷ false ∷ []
jumps_where_below_narrow = refl

jumps_where_not_over_narrow : taken Jle Bits32 ≡ true ∷ false ∷ true ∷ true ∷ false ∷ false ∷ true ∷ true ∷ true ∷ true ∷ true ∷ true ∷ false ∷ false
    ∷ false ∷ true ∷ true ∷ true ∷ false ∷ true ∷ true ∷ true ∷ false ∷ true ∷ false ∷ false ∷ true ∷ true ∷ true ∷ true ∷ []
jumps_where_not_over_narrow = refl

jumps_where_below_signed_narrow : taken Jslt Bits32 ≡ false ∷ false ∷ true ∷ false ∷ false ∷ true ∷ false ∷ true ∷ true ∷ true ∷ true ∷ true ∷ false
    ∷ true ∷ true ∷ true ∷ true ∷ true ∷ true ∷ true ∷ false ∷ false ∷ true ∷ true ∷ true ∷ true ∷ false ∷ false ∷ false ∷ false ∷ []
jumps_where_below_signed_narrow = refl

jumps_where_not_over_signed_narrow : taken Jsle Bits32 ≡ true ∷ false ∷ true ∷ true ∷ false ∷ true ∷ false ∷ true ∷ true ∷ true ∷ true ∷ true ∷ false
    ∷ true ∷ true ∷ true ∷ true ∷ true ∷ true ∷ true ∷ false ∷ true ∷ true ∷ true ∷ true ∷ true ∷ false ∷ true ∷ true ∷ true ∷ []
jumps_where_not_over_signed_narrow = refl

jumps_where_equal_full : taken Jeq Bits64 ≡ true ∷ false ∷ false ∷ true ∷ false ∷ false ∷ false ∷ false ∷ false ∷ false ∷ false ∷ false ∷ false ∷ false ∷ false
    ∷ false ∷ false ∷ false ∷ false ∷ false ∷ false ∷ true ∷ false ∷ false ∷ false ∷ false ∷ false ∷ true ∷ true ∷ true ∷ []
jumps_where_equal_full = refl

jumps_where_over_full : taken Jgt Bits64 ≡ false ∷ true ∷ false ∷ false ∷ true ∷ true ∷ false ∷ false ∷ false ∷ false ∷ false ∷ false ∷ true ∷ true ∷ true ∷ true
    ∷ false ∷ false ∷ true ∷ true ∷ false ∷ false ∷ true ∷ true ∷ true ∷ true ∷ false ∷ false ∷ false ∷ false ∷ []
jumps_where_over_full = refl

jumps_where_not_below_full : taken Jge Bits64 ≡ true ∷ true ∷ false ∷ true ∷ true ∷ true ∷ false ∷ false ∷ false ∷ false ∷ false ∷ false ∷ true ∷ true ∷ true
    ∷ true ∷ false ∷ false ∷ true ∷ true ∷ false ∷ true ∷ true ∷ true ∷ true ∷ true ∷ false ∷ true ∷ true ∷ true ∷ []
jumps_where_not_below_full = refl

jumps_where_shares_bit_full : taken Jset Bits64 ≡ false ∷ false ∷ false ∷ true ∷ true ∷ true ∷ true ∷ true ∷ false ∷ true ∷ false ∷ true ∷ true ∷ false
    ∷ true ∷ false ∷ true ∷ true ∷ true ∷ false ∷ true ∷ true ∷ true ∷ false ∷ false ∷ true ∷ true ∷ true ∷ true ∷ true ∷ []
jumps_where_shares_bit_full = refl

jumps_where_differs_full : taken Jne Bits64 ≡ false ∷ true ∷ true ∷ false ∷ true ∷ true ∷ true ∷ true ∷ true ∷ true ∷ true ∷ true ∷ true ∷ true ∷ true ∷ true
    ∷ true ∷ true ∷ true ∷ true ∷ true ∷ false ∷ true ∷ true ∷ true ∷ true ∷ true ∷ false ∷ false ∷ false ∷ []
jumps_where_differs_full = refl

jumps_where_over_signed_full : taken Jsgt Bits64 ≡ false ∷ true ∷ false ∷ false ∷ true ∷ false ∷ true ∷ false ∷ false ∷ false ∷ false ∷ false ∷ true ∷ true
    ∷ true ∷ true ∷ false ∷ true ∷ true ∷ false ∷ false ∷ false ∷ false ∷ false ∷ true ∷ false ∷ true ∷ false ∷ false ∷ false ∷ []
jumps_where_over_signed_full = refl

jumps_where_not_below_signed_full : taken Jsge Bits64 ≡ true ∷ true ∷ false ∷ true ∷ true ∷ false ∷ true ∷ false ∷ false ∷ false ∷ false ∷ false ∷ true
    ∷ true ∷ true ∷ true ∷ false ∷ true ∷ true ∷ false ∷ false ∷ true ∷ false ∷ false ∷ true ∷ false ∷ true ∷ true ∷ true ∷ true ∷ []
jumps_where_not_below_signed_full = refl

jumps_where_below_full : taken Jlt Bits64 ≡ false ∷ false ∷ true ∷ false ∷ false ∷ false ∷ true ∷ true ∷ true ∷ true ∷ true ∷ true ∷ false ∷ false ∷ false
    ∷ false ∷ true ∷ true ∷ false ∷ false ∷ true ∷ false ∷ false ∷ false ∷ false ∷ false ∷ true ∷ false ∷ false ∷ false ∷ []
jumps_where_below_full = refl

jumps_where_not_over_full : taken Jle Bits64 ≡ true ∷ false ∷ true ∷ true ∷ false ∷ false ∷ true ∷ true ∷ true ∷ true ∷ true ∷ true ∷ false ∷ false ∷ false
    ∷ false ∷ true ∷ true ∷ false ∷ false ∷ true ∷ true ∷ false ∷ false ∷ false ∷ false ∷ true ∷ true ∷ true ∷ true ∷ []
jumps_where_not_over_full = refl

jumps_where_below_signed_full : taken Jslt Bits64 ≡ false ∷ false ∷ true ∷ false ∷ false ∷ true ∷ false ∷ true ∷ true ∷ true ∷ true ∷ true ∷ false ∷ false
    ∷ false ∷ false ∷ true ∷ false ∷ false ∷ true ∷ true ∷ false ∷ true ∷ true ∷ false ∷ true ∷ false ∷ false ∷ false ∷ false ∷ []
jumps_where_below_signed_full = refl

jumps_where_not_over_signed_full : taken Jsle Bits64 ≡ true ∷ false ∷ true ∷ true ∷ false ∷ true ∷ false ∷ true ∷ true ∷ true ∷ true ∷ true ∷ false
    ∷ false ∷ false ∷ false ∷ true ∷ false ∷ false ∷ true ∷ true ∷ true ∷ true ∷ true ∷ false ∷ true ∷ false ∷ true ∷ true ∷ true ∷ []
jumps_where_not_over_signed_full = refl

kept_16 : map (λ p. swapped Bits32 Immediate 16 p.1) pairs ≡ 0 ∷ 0 ∷ 1 ∷ 1 ∷ 3 ∷ 3 ∷ 65533 ∷ 31 ∷ 32 ∷ 63 ∷ 64 ∷ 65 ∷ 1 ∷ 1 ∷ 1 ∷ 1 ∷ 65535 ∷ 65535 ∷ 1 ∷ 1
    ∷ 65535 ∷ 65535 ∷ 63 ∷ 63 ∷ 31 ∷ 0 ∷ 61183 ∷ 128 ∷ 32768 ∷ 65407 ∷ []
kept_16 = refl

kept_32 : map (λ p. swapped Bits32 Immediate 32 p.1) pairs ≡ 0 ∷ 0 ∷ 1 ∷ 1 ∷ 3 ∷ 3 ∷ 4294967293 ∷ 31 ∷ 32 ∷ 63 ∷ 64 ∷ 65 ∷ 1 ∷ 1 ∷ 1 ∷ 1 ∷ 4294967295
    ∷ 4294967295 ∷ 1 ∷ 1 ∷ 4294967295 ∷ 4294967295 ∷ 63 ∷ 63 ∷ 31 ∷ 0 ∷ 3437096703 ∷ 128 ∷ 32768 ∷ 4286578559 ∷ []
kept_32 = refl

kept_64 : map (λ p. swapped Bits32 Immediate 64 p.1) pairs ≡ 0 ∷ 0 ∷ 1 ∷ 1 ∷ 3 ∷ 3 ∷ 18446744073709551613 ∷ 31 ∷ 32 ∷ 63 ∷ 64 ∷ 65 ∷ 1 ∷ 1 ∷ 1 ∷ 1 ∷ 4294967295
    ∷ 18446744073709551615 ∷ 1 ∷ 1 ∷ 18446744073709551615 ∷ 18446744073709551615 ∷ 63 ∷ 63 ∷ 31 ∷ 4294967296 ∷ 9843086184167632639 ∷ 128
    ∷ 32768 ∷ 4286578559 ∷ []
kept_64 = refl

big_endian_16 : map (λ p. swapped Bits32 Register 16 p.1) pairs ≡ 0 ∷ 0 ∷ 256 ∷ 256 ∷ 768 ∷ 768 ∷ 65023 ∷ 7936 ∷ 8192 ∷ 16128 ∷ 16384 ∷ 16640 ∷ 256 ∷ 256 ∷ 256
    ∷ 256 ∷ 65535 ∷ 65535 ∷ 256 ∷ 256 ∷ 65535 ∷ 65535 ∷ 16128 ∷ 16128 ∷ 7936 ∷ 0 ∷ 65518 ∷ 32768 ∷ 128 ∷ 32767 ∷ []
big_endian_16 = refl

big_endian_32 : map (λ p. swapped Bits32 Register 32 p.1) pairs ≡ 0 ∷ 0 ∷ 16777216 ∷ 16777216 ∷ 50331648 ∷ 50331648 ∷ 4261412863 ∷ 520093696 ∷ 536870912
    ∷ 1056964608 ∷ 1073741824 ∷ 1090519040 ∷ 16777216 ∷ 16777216 ∷ 16777216 ∷ 16777216 ∷ 4294967295 ∷ 4294967295 ∷ 16777216 ∷ 16777216 ∷ 4294967295 ∷ 4294967295
    ∷ 1056964608 ∷ 1056964608 ∷ 520093696 ∷ 0 ∷ 4293844428 ∷ 2147483648 ∷ 8388608 ∷ 2147450879 ∷ []
big_endian_32 = refl

big_endian_64 : map (λ p. swapped Bits32 Register 64 p.1) pairs ≡ 0 ∷ 0 ∷ 72057594037927936 ∷ 72057594037927936 ∷ 216172782113783808 ∷ 216172782113783808
    ∷ 18302628885633695743 ∷ 2233785415175766016 ∷ 2305843009213693952 ∷ 4539628424389459968 ∷ 4611686018427387904 ∷ 4683743612465315840 ∷ 72057594037927936
    ∷ 72057594037927936 ∷ 72057594037927936 ∷ 72057594037927936 ∷ 18446744069414584320 ∷ 18446744073709551615 ∷ 72057594037927936 ∷ 72057594037927936
    ∷ 18446744073709551615 ∷ 18446744073709551615 ∷ 4539628424389459968 ∷ 4539628424389459968 ∷ 2233785415175766016 ∷ 16777216 ∷ 18441921395520346504
    ∷ 9223372036854775808 ∷ 36028797018963968 ∷ 9223231295071453184 ∷ []
big_endian_64 = refl

swap_16 : map (λ p. swapped Bits64 Immediate 16 p.1) pairs ≡ 0 ∷ 0 ∷ 256 ∷ 256 ∷ 768 ∷ 768 ∷ 65023 ∷ 7936 ∷ 8192 ∷ 16128 ∷ 16384 ∷ 16640 ∷ 256 ∷ 256 ∷ 256 ∷ 256
    ∷ 65535 ∷ 65535 ∷ 256 ∷ 256 ∷ 65535 ∷ 65535 ∷ 16128 ∷ 16128 ∷ 7936 ∷ 0 ∷ 65518 ∷ 32768 ∷ 128 ∷ 32767 ∷ []
swap_16 = refl

swap_32 : map (λ p. swapped Bits64 Immediate 32 p.1) pairs ≡ 0 ∷ 0 ∷ 16777216 ∷ 16777216 ∷ 50331648 ∷ 50331648 ∷ 4261412863 ∷ 520093696 ∷ 536870912 ∷ 1056964608
    ∷ 1073741824 ∷ 1090519040 ∷ 16777216 ∷ 16777216 ∷ 16777216 ∷ 16777216 ∷ 4294967295 ∷ 4294967295 ∷ 16777216 ∷ 16777216 ∷ 4294967295 ∷ 4294967295 ∷ 1056964608
    ∷ 1056964608 ∷ 520093696 ∷ 0 ∷ 4293844428 ∷ 2147483648 ∷ 8388608 ∷ 2147450879 ∷ []
swap_32 = refl

swap_64 : map (λ p. swapped Bits64 Immediate 64 p.1) pairs ≡ 0 ∷ 0 ∷ 72057594037927936 ∷ 72057594037927936 ∷ 216172782113783808 ∷ 216172782113783808
    ∷ 18302628885633695743 ∷ 2233785415175766016 ∷ 2305843009213693952 ∷ 4539628424389459968 ∷ 4611686018427387904 ∷ 4683743612465315840 ∷ 72057594037927936
    ∷ 72057594037927936 ∷ 72057594037927936 ∷ 72057594037927936 ∷ 18446744069414584320 ∷ 18446744073709551615 ∷ 72057594037927936 ∷ 72057594037927936
    ∷ 18446744073709551615 ∷ 18446744073709551615 ∷ 4539628424389459968 ∷ 4539628424389459968 ∷ 2233785415175766016 ∷ 16777216 ∷ 18441921395520346504
    ∷ 9223372036854775808 ∷ 36028797018963968 ∷ 9223231295071453184 ∷ []
swap_64 = refl

-- Definitions: the number that the option --counters gives (source: this project).
use Rattle.std.specs.Prelude.{ℕ, ◌+◌, ◌-◌, ◌*◌, ◌==◌, ◌&&◌, nat_lt, nat_le, Bool, true, false, if◌then◌else◌, List, [], ◌∷◌, fold, length, Option, Some, None}
use Rattle.std.specs.Prelude.{option_and_then}

-- the value of the letters `a` to `f`, in either case; None for any other byte
abbrev pub letter_value : ℕ → Option ℕ
letter_value byte =
    if nat_le 97 byte && nat_le byte 102 then Some (byte - 87)
    else (if nat_le 65 byte && nat_le byte 70 then Some (byte - 55) else None)

-- the value of a digit, which is hexadecimal or decimal; None for any other byte
abbrev pub digit_value : Bool → ℕ → Option ℕ
digit_value is_hexadecimal byte =
    if nat_le 48 byte && nat_le byte 57 then Some (byte - 48)
    else (if is_hexadecimal then letter_value byte else None)

abbrev pub radix_times : Bool → ℕ → ℕ
radix_times true number = 16 * number
radix_times false number = 10 * number

-- the number, if it is one of 32 bits
abbrev pub within_mask : ℕ → Option ℕ
within_mask number = if nat_lt number 4294967296 then Some number else None

-- the number with a digit behind it; None if there is none, the byte is no digit, or the number is 2^32 or more
abbrev pub with_digit : Bool → Option ℕ → ℕ → Option ℕ
with_digit is_hexadecimal None byte = None
with_digit is_hexadecimal (Some number) byte =
    option_and_then (λ (d : ℕ). within_mask (radix_times is_hexadecimal number + d)) (digit_value is_hexadecimal byte)

-- the number that digits write; None if there are none
abbrev pub number_of : Bool → List ℕ → Option ℕ
number_of is_hexadecimal digits =
    if nat_lt 0 (length digits) then fold (with_digit is_hexadecimal) (Some 0) digits else None

-- what follows `0x`; None if the text doesn't begin so
abbrev pub behind_0x : List ℕ → Option (List ℕ)
behind_0x [] = None
behind_0x (first ∷ []) = None
behind_0x (first ∷ second ∷ digits) = if first == 48 && second == 120 then Some digits else None

-- a text without a `+` at its beginning
abbrev pub without_plus : List ℕ → List ℕ
without_plus [] = []
without_plus (first ∷ rest) = if first == 43 then rest else first ∷ rest

abbrev pub mask_by : Option (List ℕ) → List ℕ → Option ℕ
mask_by (Some digits) text = number_of true digits
mask_by None text = number_of false (without_plus text)

-- The mask that a text gives: hexadecimal digits behind `0x`, or decimal ones, which may have a `+` before them. None for
-- any other text, and for a number of 2^32 or more.
abbrev pub mask_named : List ℕ → Option ℕ
mask_named text = mask_by (behind_0x text) text

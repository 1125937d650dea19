-- Definitions: the bytes of a program that a program file has as hexadecimal digits, and the lines in which a program's
-- units are written (source: this project).
use Rattle.std.specs.Prelude.{◌≡◌, ℕ, zero, suc, ◌*◌, ◌/◌, ◌==◌, ◌||◌, Bool, not, nat_le, if◌then◌else◌, List, [], ◌∷◌, ◌++◌, length, filter, take, drop}
use Rattle.std.specs.Prelude.{Result, Ok, Err, ⊤}
use Rattle.hex.specs.Hex.{decode_of, encode_lower}
use Rattle.hex.specs.declared.error.FromHexError.{FromHexError}
use Rattle.bpf_asm.specs.declared.program_file.ProgramFileFault.{ProgramFileFault}
use Rattle.bpf_asm.specs.declared.program_file.ProgramFileFault.TheVariants.{TooLong, BadDigits, OutOfMemory}

-- The byte is a blank: a space, a tab, a CR or an LF.
abbrev pub is_blank : ℕ → Bool
is_blank b = (b == 32) || (b == 9) || (b == 13) || (b == 10)

abbrev pub bytes_or_fault : Result (List ℕ) FromHexError → Result (List ℕ) ProgramFileFault
bytes_or_fault (Ok bytes) = Ok bytes
bytes_or_fault (Err e) = Err BadDigits

-- the bytes that the hexadecimal digits of a program file spell, with blanks skipped; or why the file can't be read
unfoldable pub program_in : List ℕ → Result (List ℕ) ProgramFileFault
program_in text =
    if nat_le (length text) 65536 then bytes_or_fault (decode_of (filter (λ b. not (is_blank b)) text)) else Err TooLong

-- The first argument is the fault that a function returned, and `said` is the result that a definition such as
-- `program_in` gives for the same input. The returned fault is that memory ran out, or it is the fault in `said`.
abbrev pub Fails : {B : Type 0} → ProgramFileFault → Result B ProgramFileFault → Type 0
Fails OutOfMemory said = ⊤
Fails fault said = said ≡ Err fault

abbrev pub Gives : {A B : Type 0} → (A → B) → Result A ProgramFileFault → Result B ProgramFileFault → Type 0
Gives view (Ok x) said = said ≡ Ok (view x)
Gives view (Err fault) said = Fails fault said

-- the line of a unit: its bytes as 16 lower case hexadecimal digits, and an LF
abbrev pub unit_line : List ℕ → ℕ → List ℕ
unit_line bytes unit = encode_lower (take 8 (drop (8 * unit) bytes)) ++ 10 ∷ []

-- the lines of the first n units
abbrev pub lines_below : List ℕ → ℕ → List ℕ
lines_below bytes zero = []
lines_below bytes (suc unit) = lines_below bytes unit ++ unit_line bytes unit

abbrev pub unit_lines : List ℕ → List ℕ
unit_lines bytes = lines_below bytes (length bytes / 8)

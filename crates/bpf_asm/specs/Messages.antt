-- Definitions: the messages for a flaw of an assembler text and for a fault of a program file (source: this project).
use Rattle.std.specs.Prelude.{ℕ, ◌/◌, ◌%◌, ◌&&◌, nat_lt, nat_le, false, List, [], ◌∷◌, ◌++◌, length, take, codes, if◌then◌else◌}
use Rattle.std.specs.List.{flat_map}
use Rattle.std.specs.Fmt.{digit_glyph}
use Rattle.bpf_asm.specs.declared.flaw.AsmFlaw.{AsmFlaw}
use Rattle.bpf_asm.specs.declared.flaw.AsmFlaw.TheVariants.{ByteOrderMark, CarriageReturn, NoForm, DuplicateLabel, UndefinedLabel, OutOfRange, Length}
use Rattle.bpf_asm.specs.declared.program_file.ProgramFileFault.{ProgramFileFault}
use Rattle.bpf_asm.specs.declared.program_file.ProgramFileFault.TheVariants.{TooLong, BadDigits, OutOfMemory}

-- How a message shows a byte: a printable ASCII character as itself, and any other byte as a backslash, an x and its
-- two hexadecimal digits.
abbrev pub shown_byte : ℕ → List ℕ
shown_byte byte =
    if nat_le 32 byte && nat_le byte 126 then byte ∷ []
    else 92 ∷ 120 ∷ digit_glyph false (byte / 16) ∷ digit_glyph false (byte % 16) ∷ []

-- what a message writes after the first 80 bytes of a line or a label: ` ..` if it has more, else nothing
abbrev pub ending : List ℕ → List ℕ
ending line = if nat_lt 80 (length line) then codes " .." else []

-- how a message shows a line or a label: its first 80 bytes, and ` ..` if it has more
abbrev pub shown : List ℕ → List ℕ
shown line = flat_map shown_byte (take 80 line) ++ ending line

-- the message for a flaw
abbrev pub flaw_text : AsmFlaw → List ℕ
flaw_text ByteOrderMark = codes "the text begins with a byte order mark"
flaw_text CarriageReturn = codes "the line ends with CR LF, and LF alone ends a line"
flaw_text (NoForm line) = codes "no such form: " ++ shown line.now
flaw_text (DuplicateLabel name) = codes "the label '" ++ (shown name.now ++ codes "' stands on a line before")
flaw_text (UndefinedLabel name) = codes "no line has the label '" ++ (shown name.now ++ codes "'")
flaw_text (OutOfRange line) = codes "a number out of range: " ++ shown line.now
flaw_text Length = codes "a program has 1 to 512 units"

-- the message for a fault of a program file
abbrev pub program_file_text : ProgramFileFault → List ℕ
program_file_text TooLong = codes "over 65,536 bytes"
program_file_text BadDigits = codes "another byte than hexadecimal digits and blanks, or an odd count of digits"
program_file_text OutOfMemory = codes "out of memory"

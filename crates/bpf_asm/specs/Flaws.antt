-- Definitions: the line or the label that the message of an assembler fault shows (source: this project).
use Rattle.std.specs.Prelude.{◌≡◌, ℕ, ◌-◌, ◌&&◌, nat_eq, Bool, true, false, [], ◌∷◌, Option, Some, None, slice_get, unwrap_or, ⊤}
use Rattle.std.specs.List.{starts_with, ends_with}
use Rattle.bpf_asm.specs.declared.AsmFault.{AsmFault}
use Rattle.bpf_asm.specs.declared.AsmFault.TheVariants as fault
use Rattle.bpf_asm.specs.declared.flaw.AsmFlaw.{AsmFlaw}
use Rattle.bpf_asm.specs.declared.flaw.AsmFlaw.TheVariants.{ByteOrderMark, CarriageReturn, NoForm, DuplicateLabel, UndefinedLabel, OutOfRange, Length}
use Rattle.bpf_asm.specs.declared.grammar.Statement.{Statement}
use Rattle.bpf_asm.specs.declared.grammar.Line.TheVariants as line
use Rattle.bpf_asm.specs.Lex.{Text}
use Rattle.bpf_asm.specs.Program.{Row, cut, row, row_of}

-- line `number` of a text, counted from 1 (0 also gives line 1), without its LF; empty if the text has fewer lines
abbrev pub line_at : Text → ℕ → Text
line_at text number = unwrap_or (slice_get (cut text) (number - 1)) []

-- The text begins with a byte order mark: the bytes EF BB BF, which some editors write first.
abbrev pub begins_with_mark : Text → Bool
begins_with_mark text = starts_with nat_eq text (239 ∷ 187 ∷ 191 ∷ [])

-- The text's last byte is a CR.
abbrev pub ends_with_return : Text → Bool
ends_with_return text = ends_with nat_eq text (13 ∷ [])

-- The line's number is 1, and the text begins with a byte order mark.
abbrev pub is_marked : Text → ℕ → Bool
is_marked text number = nat_eq number 1 && begins_with_mark text

-- The line can't be parsed (None), or it is empty. Such a line neither defines a label nor jumps to one.
abbrev pub HasNoLabel : Option Row → Type 0
HasNoLabel None = ⊤
HasNoLabel (Some r) = r.parsed ≡ line.Empty

-- The flaw fits this fault of the text, as listed here. The line is the one whose number the fault has.
-- - fault `BadLine`, line 1 of a text that begins with a byte order mark: the flaw `ByteOrderMark`
-- - fault `BadLine`, another line that ends with a CR: the flaw `CarriageReturn`
-- - fault `BadLine`, any other line: the flaw `NoForm` with the line
-- - fault `BadLabel`, a line that defines a label: the flaw `DuplicateLabel` with this label
-- - fault `BadLabel`, an instruction: the flaw `UndefinedLabel` with its last token
-- - fault `BadLabel`, any other line: the flaw `NoForm` with the line
-- - fault `OutOfRange`: the flaw `OutOfRange` with the line
-- - fault `Length`: the flaw `Length`
-- - fault `OutOfMemory`: no flaw
abbrev pub Explains : Text → AsmFault → AsmFlaw → Type 0
Explains text (fault.BadLine number) ByteOrderMark = is_marked text number ≡ true
Explains text (fault.BadLine number) CarriageReturn = (is_marked text number ≡ false) × (ends_with_return (line_at text number) ≡ true)
Explains text (fault.BadLine number) (NoForm words) =
    (is_marked text number ≡ false) × (ends_with_return (line_at text number) ≡ false) × (words.now ≡ line_at text number)
Explains text (fault.BadLabel number) (DuplicateLabel name) = row_of (line_at text number) ≡ Some (row line.Label name.now)
Explains text (fault.BadLabel number) (UndefinedLabel name) = (s : Statement) × (row_of (line_at text number) ≡ Some (row (line.Statement s) name.now))
Explains text (fault.BadLabel number) (NoForm words) = HasNoLabel (row_of (line_at text number)) × (words.now ≡ line_at text number)
Explains text (fault.OutOfRange number) (OutOfRange words) = words.now ≡ line_at text number
Explains text fault.Length Length = ⊤
Explains text fault flaw = ⊥

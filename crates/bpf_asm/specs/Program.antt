-- Definitions: the program that a text assembles to, or the fault of the text. The assembler format is this project's
-- own. Its opcodes are those of RFC 9669 sections 4 and 5.
use Rattle.std.specs.Prelude.{◌≡◌, ℕ, suc, ◌+◌, ◌*◌, ◌/◌, ◌%◌, ◌^◌, ◌==◌, ◌≤◌, nat_lt, nat_le, Bool, true, false, not, ◌&&◌, ◌||◌, if◌then◌else◌, ℤ, pos, neg_ℤ}
use Rattle.std.specs.Prelude.{List, [], ◌∷◌, ◌++◌, map, take, Option, Some, None, is_some, Result, Ok, Err, ⊤}
use lib.IntN.{◌-ℤ◌}
use Rattle.std.specs.Int.{cast_signed, w32}
use Rattle.std.specs.List.{list_all}
use Rattle.std.specs.Str.{bytes_eq}
use Rattle.bpf_model.specs.declared.instruction.Inst.{Inst}
use Rattle.bpf_model.specs.declared.instruction.Unit.{Unit as ProgramUnit}
use Rattle.bpf_model.specs.declared.instruction.Unit.TheVariants.{First, Second}
use Rattle.bpf_model.specs.declared.instruction.Width.{Width}
use Rattle.bpf_model.specs.declared.instruction.Width.TheVariants.{Bits32, Bits64}
use Rattle.bpf_model.specs.declared.instruction.Source.{Source}
use Rattle.bpf_model.specs.declared.instruction.Source.TheVariants as source
use Rattle.bpf_model.specs.declared.instruction.Operator.{Operator}
use Rattle.bpf_model.specs.declared.instruction.Operator.TheVariants as operator
use Rattle.bpf_model.specs.declared.instruction.Condition.{Condition}
use Rattle.bpf_model.specs.declared.instruction.Condition.TheVariants as condition
use Rattle.bpf_model.specs.declared.instruction.Size.{Size}
use Rattle.bpf_model.specs.declared.instruction.Size.TheVariants.{Byte, Half, Word, Double}
use Rattle.bpf_model.specs.declared.instruction.Form.{Form}
use Rattle.bpf_model.specs.declared.instruction.Form.TheVariants as form
use Rattle.bpf_asm.specs.declared.grammar.Value.{Value}
use Rattle.bpf_asm.specs.declared.grammar.Fields.{Fields}
use Rattle.bpf_asm.specs.declared.grammar.Target.{Target}
use Rattle.bpf_asm.specs.declared.grammar.Target.TheVariants.{Label, Distance}
use Rattle.bpf_asm.specs.declared.grammar.Statement.{Statement}
use Rattle.bpf_asm.specs.declared.grammar.Statement.TheVariants.{Plain, Wide, Jump}
use Rattle.bpf_asm.specs.declared.grammar.Line.{Line}
use Rattle.bpf_asm.specs.declared.grammar.Line.TheVariants as line
use Rattle.bpf_asm.specs.declared.AsmFault.{AsmFault}
use Rattle.bpf_asm.specs.declared.AsmFault.TheVariants.{BadLine, BadLabel, OutOfRange, Length, OutOfMemory}
use Rattle.bpf_asm.specs.Lex.{Text, code_len, split, kind_of}
use Rattle.bpf_asm.specs.Grammar.{line_of}

-- ---- a text is cut into lines, and each line is parsed as a row

abbrev pub with_byte : ℕ → List Text → List Text
with_byte b [] = (b ∷ []) ∷ []
with_byte b (line ∷ lines) = (b ∷ line) ∷ lines

-- the lines of a text, without their LF; the last line can end without one
abbrev pub cut : Text → List Text
cut [] = []
cut (b ∷ text) = if b == 10 then [] ∷ cut text else with_byte b (cut text)

-- the length of a text's first line, without its LF
abbrev pub line_len : Text → ℕ
line_len [] = 0
line_len (b ∷ text) = if b == 10 then 0 else suc (line_len text)

-- the texts of a line's tokens; None if a byte isn't ASCII, or if anything before the comment is neither a token nor a
-- blank
abbrev pub words_of : Text → Option (List Text)
words_of text = if list_all (λ b. nat_lt b 128) text then split (take (code_len text) text) else None

-- the text of a line's first token; empty if the line has no tokens; `last_word` is the same for the last token
abbrev pub first_word : List Text → Text
first_word [] = []
first_word (word ∷ words) = word

abbrev pub last_word : List Text → Text
last_word [] = []
last_word (word ∷ []) = word
last_word (word ∷ other ∷ words) = last_word (other ∷ words)

-- A parsed line, with its `label`. If the line defines a label, `label` is this label. If the line is an instruction,
-- `label` is the text of its last token; in a jump to a label, this is the label that it jumps to. If the line is
-- empty, `label` is empty.
pub record Row : Type 0 where
  pub parsed : Line
  pub label : Text

abbrev pub row : Line → Text → Row
row parsed label = record { parsed = parsed; label = label }

abbrev pub label_of : Line → List Text → Text
label_of line.Empty words = []
label_of line.Label words = first_word words
label_of (line.Statement s) words = last_word words

abbrev pub row_with : Option Line → List Text → Option Row
row_with None words = None
row_with (Some l) words = Some (row l (label_of l words))

abbrev pub row_by : Option (List Text) → Option Row
row_by None = None
row_by (Some words) = row_with (line_of (map kind_of words)) words

abbrev pub row_of : Text → Option Row
row_of text = row_by (words_of text)

abbrev pub with_row : Option Row → List Row → List Row
with_row None rows = rows
with_row (Some r) rows = r ∷ rows

-- the parsed lines; a line that can't be parsed is left out
abbrev pub rows_of : List Text → List Row
rows_of [] = []
rows_of (text ∷ lines) = with_row (row_of text) (rows_of lines)

-- ---- a line that can't be parsed, or that has a number out of range, has a fault

-- Whether a number is from minus `half` to `half` - 1. The number is given by whether it is negative and by its
-- absolute value. None, which stands for an absolute value of 2^64 or more, is never in this range.
abbrev pub fits_size : ℕ → Bool → Option ℕ → Bool
fits_size half negative None = false
fits_size half true (Some n) = nat_le n half
fits_size half false (Some n) = nat_lt n half

abbrev pub fits : ℕ → Value → Bool
fits half v = fits_size half v.negative v.size

abbrev pub target_fits : Form → Target → Bool
target_fits f Label = true
target_fits form.Ja32 (Distance v) = fits (2 ^ 31) v
target_fits f (Distance v) = fits (2 ^ 15) v

abbrev pub statement_fits : Statement → Bool
statement_fits (Plain f p) = fits (2 ^ 15) p.offset && fits (2 ^ 31) p.imm
statement_fits (Wide dst n) = is_some n
statement_fits (Jump f p t) = fits (2 ^ 31) p.imm && target_fits f t

abbrev pub line_fits : Line → Bool
line_fits line.Empty = true
line_fits line.Label = true
line_fits (line.Statement s) = statement_fits s

-- the fault that line `number` has by itself: that it can't be parsed, or that a number in it is out of range; None if
-- it has neither
abbrev pub row_fault : ℕ → Option Row → Option AsmFault
row_fault number None = Some (BadLine number)
row_fault number (Some r) = if line_fits r.parsed then None else Some (OutOfRange number)

abbrev pub or_fault : Option AsmFault → Option AsmFault → Option AsmFault
or_fault (Some f) other = Some f
or_fault None other = other

-- the fault of the first line that can't be parsed or has a number out of range; the lines are numbered from `number`
-- on; None if there is no such line
abbrev pub first_line_fault : ℕ → List Text → Option AsmFault
first_line_fault number [] = None
first_line_fault number (text ∷ lines) = or_fault (row_fault number (row_of text)) (first_line_fault (number + 1) lines)

-- ---- each form has an opcode

abbrev pub source_bit : Source → ℕ
source_bit source.Immediate = 0
source_bit source.Register = 8

abbrev pub operator_code : Operator → ℕ
operator_code operator.Add = 0
operator_code operator.Sub = 1
operator_code operator.Mul = 2
operator_code operator.Div = 3
operator_code operator.Or = 4
operator_code operator.And = 5
operator_code operator.Lsh = 6
operator_code operator.Rsh = 7
operator_code operator.Neg = 8
operator_code operator.Mod = 9
operator_code operator.Xor = 10
operator_code operator.Mov = 11
operator_code operator.Arsh = 12
operator_code operator.SwapBytes = 13

abbrev pub condition_code : Condition → ℕ
condition_code condition.Jeq = 1
condition_code condition.Jgt = 2
condition_code condition.Jge = 3
condition_code condition.Jset = 4
condition_code condition.Jne = 5
condition_code condition.Jsgt = 6
condition_code condition.Jsge = 7
condition_code condition.Jlt = 10
condition_code condition.Jle = 11
condition_code condition.Jslt = 12
condition_code condition.Jsle = 13

abbrev pub size_code : Size → ℕ
size_code Word = 0
size_code Half = 1
size_code Byte = 2
size_code Double = 3

abbrev pub arithmetic_class : Width → ℕ
arithmetic_class Bits32 = 4
arithmetic_class Bits64 = 7

abbrev pub jump_class : Width → ℕ
jump_class Bits32 = 6
jump_class Bits64 = 5

abbrev pub opcode_of : Form → ℕ
opcode_of (form.Arithmetic op w s) = 16 * operator_code op + source_bit s + arithmetic_class w
opcode_of form.Wide = 0x18
opcode_of (form.Load size) = 0x61 + 8 * size_code size
opcode_of (form.LoadSigned size) = 0x81 + 8 * size_code size
opcode_of (form.StoreImmediate size) = 0x62 + 8 * size_code size
opcode_of (form.StoreRegister size) = 0x63 + 8 * size_code size
opcode_of form.Ja = 0x05
opcode_of form.Ja32 = 0x06
opcode_of (form.Branch c w s) = 16 * condition_code c + source_bit s + jump_class w
opcode_of form.Call = 0x85
opcode_of form.Exit = 0x95

-- ---- an instruction takes one unit, or two if it is a wide load

abbrev pub signed : Bool → ℕ → ℤ
signed true n = neg_ℤ (pos n)
signed false n = pos n

abbrev pub size_or_zero : Option ℕ → ℕ
size_or_zero None = 0
size_or_zero (Some n) = n

abbrev pub int_of : Value → ℤ
int_of v = signed v.negative (size_or_zero v.size)

abbrev pub inst_of : Form → ℕ → ℕ → ℤ → ℤ → Inst
inst_of f dst src offset imm = record { opcode = opcode_of f; dst = dst; src = src; offset = offset; imm = imm }

-- the lower 32 bits of a wide load's number, as a signed number; `high_half` does the same for the upper 32 bits
abbrev pub low_half : ℕ → ℤ
low_half n = cast_signed w32 (n % 2 ^ 32)

abbrev pub high_half : ℕ → ℤ
high_half n = cast_signed w32 (n / 2 ^ 32 % 2 ^ 32)

-- how many units an instruction takes
abbrev pub statement_len : Statement → ℕ
statement_len (Plain f p) = 1
statement_len (Wide dst n) = 2
statement_len (Jump f p t) = 1

abbrev pub line_len_of : Line → ℕ
line_len_of line.Empty = 0
line_len_of line.Label = 0
line_len_of (line.Statement s) = statement_len s

abbrev pub units_in : List Row → ℕ
units_in [] = 0
units_in (r ∷ rows) = line_len_of r.parsed + units_in rows

-- ---- a label names a unit, and a row with a wrong label has a fault

pub record Definition : Type 0 where
  pub name : Text
  pub place : ℕ

abbrev pub definition : Text → ℕ → Definition
definition name place = record { name = name; place = place }

abbrev pub defining : Line → Text → ℕ → List Definition → List Definition
defining line.Label name at more = definition name at ∷ more
defining line.Empty name at more = more
defining (line.Statement s) name at more = more

-- the labels that the rows define, in their order, each with the unit that it names; the first row begins at unit `at`
abbrev pub labels_from : ℕ → List Row → List Definition
labels_from at [] = []
labels_from at (r ∷ rows) = defining r.parsed r.label at (labels_from (at + line_len_of r.parsed) rows)

-- the unit that a label names; None if the label isn't defined
abbrev pub place_found : List Definition → Text → Option ℕ
place_found [] name = None
place_found (d ∷ definitions) name = if bytes_eq d.name name then Some d.place else place_found definitions name

abbrev pub place_of : List Definition → Text → ℕ
place_of definitions name = size_or_zero (place_found definitions name)

abbrev pub is_among : List Text → Text → Bool
is_among [] name = false
is_among (other ∷ names) name = bytes_eq other name || is_among names name

abbrev pub jumps_to_label : Statement → Bool
jumps_to_label (Jump f p Label) = true
jumps_to_label (Jump f p (Distance v)) = false
jumps_to_label (Plain f p) = false
jumps_to_label (Wide dst n) = false

-- Whether a row, given by its parsed line and its label, defines a label that is among `before`, or jumps to a label
-- that isn't in `all`.
abbrev pub is_wrong : List Definition → List Text → Line → Text → Bool
is_wrong all before line.Empty name = false
is_wrong all before line.Label name = is_among before name
is_wrong all before (line.Statement s) name = jumps_to_label s && not (is_some (place_found all name))

abbrev pub with_name : Line → Text → List Text → List Text
with_name line.Label name names = names ++ name ∷ []
with_name line.Empty name names = names
with_name (line.Statement s) name names = names

-- The fault of the first row with a wrong label; None if there is no such row. The rows are numbered from `number` on.
-- A row has a wrong label in two cases:
-- - It defines a label that is among `before`, or that an earlier row defines too.
-- - It jumps to a label that isn't in `all`.
abbrev pub label_fault : List Definition → ℕ → List Text → List Row → Option AsmFault
label_fault all number before [] = None
label_fault all number before (r ∷ rows) =
    if is_wrong all before r.parsed r.label then Some (BadLabel number)
    else label_fault all (number + 1) (with_name r.parsed r.label before) rows

-- ---- the rows of a text give the units of a program, or a fault

-- the distance of a jump at unit `at`, in units from the unit after the jump
abbrev pub distance_of : List Definition → ℕ → Text → Target → ℤ
distance_of labels at name Label = pos (place_of labels name) -ℤ pos (at + 1)
distance_of labels at name (Distance v) = int_of v

abbrev pub jump_inst : Form → Fields → ℤ → Inst
jump_inst form.Ja32 p by = inst_of form.Ja32 p.dst p.src (pos 0) by
jump_inst f p by = inst_of f p.dst p.src by (int_of p.imm)

-- the units of an instruction whose first unit has the number `at`
abbrev pub statement_units : List Definition → ℕ → Text → Statement → List ProgramUnit
statement_units labels at name (Plain f p) = First (inst_of f p.dst p.src (int_of p.offset) (int_of p.imm)) ∷ []
statement_units labels at name (Wide dst n) =
    First (inst_of form.Wide dst 0 (pos 0) (low_half (size_or_zero n))) ∷ Second (high_half (size_or_zero n)) ∷ []
statement_units labels at name (Jump f p t) = First (jump_inst f p (distance_of labels at name t)) ∷ []

abbrev pub line_units : List Definition → ℕ → Text → Line → List ProgramUnit
line_units labels at name line.Empty = []
line_units labels at name line.Label = []
line_units labels at name (line.Statement s) = statement_units labels at name s

abbrev pub units_from : List Definition → ℕ → List Row → List ProgramUnit
units_from labels at [] = []
units_from labels at (r ∷ rows) = line_units labels at r.label r.parsed ++ units_from labels (at + line_len_of r.parsed) rows

abbrev pub length_fault : ℕ → Option AsmFault
length_fault n = if nat_le 1 n && nat_le n 512 then None else Some Length

-- The fault of rows whose numbers are in range:
-- - `Length`, if all rows together don't have 1 to 512 units
-- - otherwise `BadLabel` for the first row with a wrong label: the row defines a label that an earlier row defines too,
--   or it jumps to a label that no row defines
-- - otherwise None
abbrev pub rows_fault : List Row → Option AsmFault
rows_fault rows = or_fault (length_fault (units_in rows)) (label_fault (labels_from 0 rows) 1 [] rows)

abbrev pub fault_of : List Text → Option AsmFault
fault_of lines = or_fault (first_line_fault 1 lines) (rows_fault (rows_of lines))

abbrev pub spelled : List Row → List ProgramUnit
spelled rows = units_from (labels_from 0 rows) 0 rows

abbrev pub assembled_with : List Text → Option AsmFault → Result (List ProgramUnit) AsmFault
assembled_with lines (Some f) = Err f
assembled_with lines None = Ok (spelled (rows_of lines))

abbrev pub assembled : Text → Result (List ProgramUnit) AsmFault
assembled text = assembled_with (cut text) (fault_of (cut text))

-- the text assembles to these units
abbrev pub AssemblesTo : Text → List ProgramUnit → Type 0
AssemblesTo text units = assembled text ≡ Ok units

-- The first argument is what a definition such as `fault_of` gives: a fault, or None if there is none. The second is
-- the fault that a function returned. It is the fault in the first argument, or that memory ran out. The latter is
-- allowed for every first argument, even None.
abbrev pub IsFault : Option AsmFault → AsmFault → Type 0
IsFault found OutOfMemory = ⊤
IsFault found (BadLine n) = found ≡ Some (BadLine n)
IsFault found (BadLabel n) = found ≡ Some (BadLabel n)
IsFault found (OutOfRange n) = found ≡ Some (OutOfRange n)
IsFault found Length = found ≡ Some Length

-- the fault that a function returned is the one that the text has (`fault_of`), or that memory ran out
abbrev pub IsRefused : Text → AsmFault → Type 0
IsRefused text fault = IsFault (fault_of (cut text)) fault

-- The numbers of each row are in range.
abbrev pub AreInRange : List Row → Type 0
AreInRange [] = ⊤
AreInRange (r ∷ rows) = (line_fits r.parsed ≡ true) × AreInRange rows

-- Each label names a unit from 0 to n. A name that isn't in the list counts as a label of unit 0.
abbrev pub AreWithin : ℕ → List Definition → Type 0
AreWithin n labels = (name : Text) → place_of labels name ≤ n

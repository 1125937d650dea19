-- Definitions: the text of an opening (source: this project). Each line is words with one space between them, and an
-- LF.
use Rattle.std.specs.Prelude.{◌≡◌, ℕ, ◌+◌, ◌==◌, ◌&&◌, if◌then◌else◌, List, [], ◌∷◌, ◌++◌, codes, map, Bool, true, false, Option, Some, None}
use Rattle.std.specs.Fmt.{decimal}
use Rattle.std.specs.List.{flat_map, join_with_byte}
use Rattle.hex.specs.Hex.{encode_lower}
use Rattle.fuelling_point.specs.declared.kinds.Order.{Order}
use Rattle.fuelling_point.specs.declared.kinds.Transaction.{Transaction}
use Rattle.fuelling_point.specs.declared.snapshot.Snapshot.{Snapshot}
use Rattle.fuelling_point.specs.States.{state_number}
use Rattle.fuelling_point.specs.Table.{PointState}
use Rattle.site_core.specs.SlotsValue.{Version}
use Rattle.till_request.specs.Answer.{order_words}
use Rattle.till_request.specs.Spelling.{load_word}
use Rattle.days.specs.declared.file.OpeningFile.{OpeningFile}
use Rattle.days.specs.declared.line.Line.{Line}
use Rattle.days.specs.declared.line.Line.TheVariants as lines

-- The pending order as one word, as in `authorise:5000` for an amount of 5,000 cents.
abbrev pub order_word : Option Order → List ℕ
order_word None = codes "none"
order_word (Some order) = join_with_byte 58 (order_words order)

abbrev pub yes_or_no : Bool → List ℕ
yes_or_no true = codes "yes"
yes_or_no false = codes "no"

-- The words of an unpaid transaction's product and price. They are left out if both are 0.
abbrev pub priced_words : Transaction → List (List ℕ)
priced_words t = if t.product == 0 && t.price == 0 then [] else (decimal t.product ∷ decimal t.price ∷ [])

-- The words of a line. The word for a version's layout is `load` or `load2`, as in a request that loads a program for
-- this layout. Bytes are spelled in lower-case hexadecimal digits.
abbrev pub line_words : Line → List (List ℕ)
line_words (lines.Day n) = codes "day" ∷ decimal n ∷ []
line_words (lines.Cleared total count) = codes "cleared" ∷ decimal total ∷ decimal count ∷ []
line_words (lines.Versions count) = codes "versions" ∷ decimal count ∷ []
line_words (lines.Version slot number mask layout bytes) =
    codes "version" ∷ decimal slot ∷ decimal number ∷ decimal mask ∷ load_word layout ∷ encode_lower bytes ∷ []
line_words (lines.Price product price) = codes "price" ∷ decimal product ∷ decimal price ∷ []
line_words (lines.Counter c value bound) = codes "counter" ∷ decimal c ∷ decimal value ∷ decimal bound ∷ []
line_words (lines.Point n s) =
    codes "point" ∷ decimal n ∷ decimal (state_number s.state) ∷ decimal s.nozzle ∷ decimal s.preset ∷ decimal s.limit ∷ decimal s.amount ∷ decimal s.volume
    ∷ order_word s.order ∷ yes_or_no s.taken ∷ decimal s.last ∷ []
line_words (lines.Unpaid n t) =
    codes "unpaid" ∷ decimal n ∷ decimal t.number ∷ decimal t.amount ∷ decimal t.volume ∷ decimal t.holder ∷ priced_words t
line_words (lines.Journal entries digest) = codes "journal" ∷ decimal entries ∷ encode_lower digest ∷ []

-- The text of a line, without its LF.
abbrev pub line_spelling : Line → List ℕ
line_spelling line = join_with_byte 32 (line_words line)

-- The text of a line, with its LF.
abbrev pub line_text : Line → List ℕ
line_text line = line_spelling line ++ 10 ∷ []

-- The new text is the old one, followed by the texts of these lines.
abbrev pub AddsLines : List ℕ → List ℕ → List Line → Type 0
AddsLines old new lines = new ≡ old ++ flat_map line_text lines

-- The lines of all items of a list, in order. `lines_of` gives the lines of one item from its number and the item. The
-- first item has the number n, and each later one the next number.
abbrev pub numbered_lines : {T : Type 0} → (ℕ → T → List Line) → ℕ → List T → List Line
numbered_lines lines_of n [] = []
numbered_lines lines_of n (item ∷ items) = lines_of n item ++ numbered_lines lines_of (n + 1) items

-- The line of a slot, a product or a counter. There is no line in these cases:
-- - `version_lines`: the slot has no version
-- - `price_lines`: the product's price is 0
-- - `counter_lines`: both the counter's value and its bound are 0
abbrev pub version_lines : ℕ → Option Version → List Line
version_lines slot None = []
version_lines slot (Some v) = lines.Version slot v.number v.program.declared v.program.layout v.program.bytes ∷ []

abbrev pub price_lines : ℕ → ℕ → List Line
price_lines product price = if price == 0 then [] else (lines.Price product price ∷ [])

abbrev pub counter_lines : ℕ → ℕ × ℕ → List Line
counter_lines c p = if p.0 == 0 && p.1 == 0 then [] else (lines.Counter c p.0 p.1 ∷ [])

-- The values in a point's own line: all values of the point, but without its unpaid transactions.
abbrev pub own_values : PointState → Snapshot
own_values p = record {
  state = p.state;
  nozzle = p.nozzle;
  preset = p.preset;
  limit = p.limit;
  amount = p.amount;
  volume = p.volume;
  order = p.order;
  taken = p.taken;
  last = p.last;
  unpaid = None ∷ None ∷ [];
}

-- The lines of a point: its own line, and then one for each of its unpaid transactions, the older one first.
abbrev pub point_lines : ℕ → PointState → List Line
point_lines n p = lines.Point n (own_values p) ∷ map (λ t. lines.Unpaid n t) p.unpaid

-- The first three lines of an opening.
abbrev pub head_lines : OpeningFile → List Line
head_lines f = lines.Day f.day ∷ lines.Cleared f.opening.cleared f.opening.clears ∷ lines.Versions f.opening.versions ∷ []

-- The lines of an opening. Slots and counters are numbered from 0, products and points from 1.
abbrev pub opening_lines : OpeningFile → List Line
opening_lines f =
    head_lines f ++ (numbered_lines version_lines 0 f.opening.rules ++ (numbered_lines price_lines 1 f.opening.prices
    ++ (numbered_lines counter_lines 0 f.opening.counters ++ (numbered_lines point_lines 1 f.opening.points ++ lines.Journal f.entries f.digest ∷ []))))

-- The text of an opening: its lines, one after another.
abbrev pub opening_text : OpeningFile → List ℕ
opening_text f = flat_map line_text (opening_lines f)

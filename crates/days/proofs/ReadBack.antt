-- If the numbers and bytes of a line are in range, a digest has 32 bytes, and the values of a point have no unpaid
-- transactions (`LineFits`), then reading the line's spelling gives this line.
use Rattle.std.proofs.Common.{◌≡◌, ℕ, ◌<◌, ◌^◌, List, [], ◌∷◌, ◌++◌, length, map, codes, nat_lt, eqb, true, false, append_assoc}
use Rattle.std.proofs.Common.{Bool, Option, Some, None, Ok, refl, sym, ◌∙◌, ap, arith, rules, lit<}
use Rattle.std.specs.Prelude.{◌&&◌, ◌||◌, if◌then◌else◌}
use Rattle.std.specs.Char.{is_ascii_alphanumeric}
use Rattle.std.specs.Fmt.{decimal}
use Rattle.std.specs.List.{AllByRecursion, flat_map, join_with_byte, list_all, slice_split}
use Rattle.std.specs.Str.{bytes_eq}
use Rattle.std.proofs.lemmas.Fmt.{decimal_nonempty}
use Rattle.std.proofs.lemmas.Grind.{common_steps}
use Rattle.hex.specs.Hex.{encode_lower, IsBytes}
use Rattle.hex.proofs.HexLemmas.{decode_of-encode_lower, decode_sized-encode_lower}
use Rattle.bpf_model.specs.declared.context.Layout.{Layout}
use Rattle.bpf_model.specs.declared.context.Layout.TheVariants as layouts
use Rattle.fuelling_point.specs.declared.kinds.Order.{Order}
use Rattle.fuelling_point.specs.declared.kinds.Order.TheVariants as orders
use Rattle.fuelling_point.specs.declared.kinds.State.{State}
use Rattle.fuelling_point.specs.declared.kinds.State.TheVariants as states
use Rattle.fuelling_point.specs.declared.kinds.Transaction.{Transaction}
use Rattle.fuelling_point.specs.declared.snapshot.Snapshot.{Snapshot}
use Rattle.fuelling_point.specs.States.{state_number}
use Rattle.till_request.specs.Grammar.{bytes_from}
use Rattle.till_request.specs.Spelling.{load_word}
use Rattle.std.proofs.lemmas.Bool.{and_parts, eqb-true}
use Rattle.till_request.proofs.Apart.{Without, all_without, decimal_alphanumeric, hex_alphanumeric, number-small, number-large, split_list, split_word}
use Rattle.decision_journal.proofs.Parts.{without_join}
use Rattle.days.specs.declared.line.Line.{Line}
use Rattle.days.specs.declared.line.Line.TheVariants as lines
use Rattle.days.specs.Ranges.{OrderFits}
use Rattle.days.specs.Parsing.{bytes_by, digest_by, layout_with, line_of_words, line_read, order_read, priced_of, state_with}
use Rattle.days.specs.Text.{line_spelling, line_text, line_words, order_word, yes_or_no}

-- The line is read back from its own spelling.
abbrev pub ReadsBack : Line → Type 0
ReadsBack line = line_read (line_spelling line) ≡ Ok line

-- The snapshot `s` fits into a point's line: its numbers are in range, and it has no unpaid transactions, which would
-- need lines of their own.
pub record ValuesFit (s : Snapshot) : Type 0 where
  pub nozzle : s.nozzle < 2 ^ 32
  pub preset : s.preset < 2 ^ 64
  pub limit : s.limit < 2 ^ 64
  pub amount : s.amount < 2 ^ 64
  pub volume : s.volume < 2 ^ 64
  pub order : OrderFits s.order
  pub last : s.last < 2 ^ 32
  pub none : s.unpaid ≡ None ∷ None ∷ []

abbrev pub LineFits : Line → Type 0
LineFits (lines.Day n) = n < 2 ^ 32
LineFits (lines.Cleared total count) = (total < 2 ^ 64) × (count < 2 ^ 64)
LineFits (lines.Versions n) = n < 2 ^ 32
LineFits (lines.Version slot number mask layout bytes) = (slot < 2 ^ 64) × (number < 2 ^ 32) × (mask < 2 ^ 32) × IsBytes bytes
LineFits (lines.Price product price) = (product < 2 ^ 32) × (price < 2 ^ 32)
LineFits (lines.Counter c value bound) = (c < 2 ^ 32) × (value < 2 ^ 64) × (bound < 2 ^ 64)
LineFits (lines.Point n s) = (n < 2 ^ 64) × ValuesFit s
LineFits (lines.Unpaid n t) =
    (n < 2 ^ 64) × (t.number < 2 ^ 32) × (t.amount < 2 ^ 64) × (t.volume < 2 ^ 64) × (t.holder < 2 ^ 32)
    × (t.product < 2 ^ 32) × (t.price < 2 ^ 32)
LineFits (lines.Journal entries digest) = (entries < 2 ^ 32) × IsBytes digest × (length digest ≡ 32)

layout_back : (layout : Layout) → layout_with (load_word layout) ≡ layout
layout_back layouts.One = refl
layout_back layouts.Two = refl

state_back : (s : State) → state_with (state_number s) ≡ s
state_back states.Inoperative = refl
state_back states.Closed = refl
state_back states.Idle = refl
state_back states.Calling = refl
state_back states.Authorised = refl
state_back states.Started = refl
state_back states.SuspendedStarted = refl
state_back states.Fuelling = refl
state_back states.SuspendedFuelling = refl

pub state_small : (s : State) → state_number s < 2 ^ 32
state_small states.Inoperative = lit< tt
state_small states.Closed = lit< tt
state_small states.Idle = lit< tt
state_small states.Calling = lit< tt
state_small states.Authorised = lit< tt
state_small states.Started = lit< tt
state_small states.SuspendedStarted = lit< tt
state_small states.Fuelling = lit< tt
state_small states.SuspendedFuelling = lit< tt

bytes_back : (bytes : List ℕ) → IsBytes bytes → bytes_by (encode_lower bytes) ≡ Ok bytes
bytes_back bytes h = ap bytes_from (decode_of-encode_lower bytes h)

-- `authorise:` and a word `w` that isn't empty have more than ten bytes, so that `order_read` reads an amount from them
long_word : (w : List ℕ) → 0 < length w → nat_lt 10 (length (codes "authorise:" ++ w)) ≡ true
long_word [] h = absurd (omega arith)
long_word (x ∷ w) h = let m : 10 < length (codes "authorise:" ++ x ∷ w) = omega arith in search (rules, common_steps)

order_back : (o : Option Order) → OrderFits o → order_read (order_word o) ≡ Ok o
order_back None h = refl
order_back (Some orders.Suspend) h = refl
order_back (Some orders.Resume) h = refl
order_back (Some orders.Stop) h = refl
order_back (Some (orders.Authorise a)) h =
    search (long_word (decimal a) (decimal_nonempty a h), number-large a h)

digest_back : (digest : List ℕ) → IsBytes digest → length digest ≡ 32 → digest_by (encode_lower digest) ≡ Ok digest
digest_back digest h e = ap bytes_from (decode_sized-encode_lower digest 32 e h)

answer_back : (b : Bool) → bytes_eq (yes_or_no b) (codes "yes") ≡ b
answer_back true = refl
answer_back false = refl

point_back : (n : ℕ) (s : Snapshot) → n < 2 ^ 64 → ValuesFit s
    → line_of_words (line_words (lines.Point n s)) ≡ Ok (lines.Point n (record s { unpaid = None ∷ None ∷ [] }))
point_back n s h f =
    search (
      number-large n h,
      number-small (state_number s.state) (state_small s.state),
      number-small s.nozzle f.nozzle,
      number-large s.preset f.preset,
      number-large s.limit f.limit,
      number-large s.amount f.amount,
      number-large s.volume f.volume,
      order_back s.order f.order,
      number-small s.last f.last,
      answer_back s.taken,
      state_back s.state,
    )

priced_back : (product price : ℕ) (none : Bool) → (eqb product 0 && eqb price 0) ≡ none → product < 2 ^ 32 → price < 2 ^ 32
    → priced_of (if none then [] else (decimal product ∷ decimal price ∷ [])) ≡ Ok (product, price)
priced_back product price true is p v =
    let both = and_parts (eqb product 0) (eqb price 0) is in
    λ j. Ok (sym (eqb-true product 0 both.0) j, sym (eqb-true price 0 both.1) j)
priced_back product price false is p v = search (number-small product p, number-small price v)

-- a line is read from its own words
words_back : (l : Line) → LineFits l → line_of_words (line_words l) ≡ Ok l
words_back (lines.Day n) h = search (number-small n h)
words_back (lines.Cleared total count) h = search (number-large total h.0, number-large count h.1)
words_back (lines.Versions n) h = search (number-small n h)
words_back (lines.Version s n m layout bytes) h =
    search (number-large s h.0, number-small n h.1, number-small m h.2, bytes_back bytes h.3, layout_back layout)
words_back (lines.Price p v) h = search (number-small p h.0, number-small v h.1)
words_back (lines.Counter c v b) h = search (number-small c h.0, number-large v h.1, number-large b h.2)
words_back (lines.Point n s) h = point_back n s h.0 h.1 ∙ ap (λ (u : List (Option Transaction)). Ok (lines.Point n (record s { unpaid = u }))) (sym h.1.none)
words_back (lines.Unpaid n t) h =
    search (
      number-large n h.0,
      number-small t.number h.1,
      number-large t.amount h.2,
      number-large t.volume h.3,
      number-small t.holder h.4,
      priced_back t.product t.price (eqb t.product 0 && eqb t.price 0) refl h.5 h.6,
    )
words_back (lines.Journal n digest) h = search (number-small n h.0, digest_back digest h.1 h.2)

-- ---- the words of a line have no space and no LF in them

abbrev is_plain : ℕ → Bool
is_plain b = is_ascii_alphanumeric b || eqb b 58

abbrev IsPlain : List ℕ → Type 0
IsPlain w = list_all is_plain w ≡ true

plain : (w : List ℕ) → list_all is_ascii_alphanumeric w ≡ true → IsPlain w
plain [] h = refl
plain (x ∷ w) h = let a = and_parts (is_ascii_alphanumeric x) (list_all is_ascii_alphanumeric w) h in rw (a.0, plain w a.1)

digits : (n : ℕ) → n < 2 ^ 64 → IsPlain (decimal n)
digits n h = plain (decimal n) (decimal_alphanumeric n h)

small_digits : (n : ℕ) → n < 2 ^ 32 → IsPlain (decimal n)
small_digits n h = digits n (omega arith)

hex_digits : (bytes : List ℕ) → IsBytes bytes → IsPlain (encode_lower bytes)
hex_digits bytes h = plain (encode_lower bytes) (hex_alphanumeric bytes h)

plain_layout : (layout : Layout) → IsPlain (load_word layout)
plain_layout layouts.One = refl
plain_layout layouts.Two = refl

plain_order : (o : Option Order) → OrderFits o → IsPlain (order_word o)
plain_order None h = refl
plain_order (Some orders.Suspend) h = refl
plain_order (Some orders.Resume) h = refl
plain_order (Some orders.Stop) h = refl
plain_order (Some (orders.Authorise a)) h = digits a h

plain_answer : (b : Bool) → IsPlain (yes_or_no b)
plain_answer true = refl
plain_answer false = refl

plain_priced : (product price : ℕ) (none : Bool) → product < 2 ^ 32 → price < 2 ^ 32
    → AllByRecursion IsPlain (if none then [] else (decimal product ∷ decimal price ∷ []))
plain_priced product price true p v = tt
plain_priced product price false p v = (small_digits product p, (small_digits price v, tt))

plain_words : (l : Line) → LineFits l → AllByRecursion IsPlain (line_words l)
plain_words (lines.Day n) h = (refl, (small_digits n h, tt))
plain_words (lines.Cleared total count) h = (refl, (digits total h.0, (digits count h.1, tt)))
plain_words (lines.Versions n) h = (refl, (small_digits n h, tt))
plain_words (lines.Version s n m layout bytes) h =
    (refl, (digits s h.0, (small_digits n h.1, (small_digits m h.2, (plain_layout layout, (hex_digits bytes h.3, tt))))))
plain_words (lines.Price p v) h = (refl, (small_digits p h.0, (small_digits v h.1, tt)))
plain_words (lines.Counter c v b) h = (refl, (small_digits c h.0, (digits v h.1, (digits b h.2, tt))))
plain_words (lines.Point n s) h =
    let last : AllByRecursion IsPlain (order_word s.order ∷ yes_or_no s.taken ∷ decimal s.last ∷ []) =
    (plain_order s.order h.1.order, (plain_answer s.taken, (small_digits s.last h.1.last, tt))) in
    let middle : AllByRecursion IsPlain (decimal s.limit ∷ decimal s.amount ∷ decimal s.volume ∷ order_word s.order ∷ yes_or_no s.taken ∷ decimal s.last ∷ []) =
    (digits s.limit h.1.limit, (digits s.amount h.1.amount, (digits s.volume h.1.volume, last))) in
    (refl, (digits n h.0, (small_digits (state_number s.state) (state_small s.state), (small_digits s.nozzle h.1.nozzle, (digits s.preset h.1.preset, middle)))))
plain_words (lines.Unpaid n t) h =
    let priced = plain_priced t.product t.price (eqb t.product 0 && eqb t.price 0) h.5 h.6 in
    (refl, (digits n h.0, (small_digits t.number h.1, (digits t.amount h.2, (digits t.volume h.3, (small_digits t.holder h.4, priced))))))
plain_words (lines.Journal n digest) h = (refl, (small_digits n h.0, (hex_digits digest h.1, tt)))

words_without : (c : ℕ) → is_plain c ≡ false → (ws : List (List ℕ)) → AllByRecursion IsPlain ws → AllByRecursion (Without c) ws
words_without c k [] h = tt
words_without c k (w ∷ ws) h = (all_without is_plain w c h.0 k, words_without c k ws h.1)

-- ---- the text of a line is read as this line, and the text of lines, split at its LFs, gives these lines

some_words : (l : Line) → 0 < length (line_words l)
some_words (lines.Day n) = omega arith
some_words l = omega arith

pub reads_back : (l : Line) → LineFits l → ReadsBack l
reads_back l h =
    ap line_of_words (split_list 32 (line_words l) (some_words l) (words_without 32 refl (line_words l) (plain_words l h))) ∙ words_back l h

joined_without : (ws : List (List ℕ)) → AllByRecursion (Without 10) ws → Without 10 (join_with_byte 32 ws)
joined_without [] h = refl
joined_without (w ∷ ws) h = without_join 10 32 w ws refl h.0 h.1

pub split_text : (ls : List Line) → AllByRecursion LineFits ls → slice_split (λ b. eqb b 10) (flat_map line_text ls) ≡ map line_spelling ls ++ [] ∷ []
split_text [] h = refl
split_text (l ∷ ls) h =
    ap (slice_split (λ b. eqb b 10)) (append_assoc (line_spelling l) (10 ∷ []) (flat_map line_text ls))
    ∙ split_word 10 (line_spelling l) (flat_map line_text ls) (joined_without (line_words l) (words_without 10 refl (line_words l) (plain_words l h.0)))
    ∙ ap (λ ws. line_spelling l ∷ ws) (split_text ls h.1)

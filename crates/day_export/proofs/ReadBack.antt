-- With its default settings, the crate `csv` reads back the fields that were written as CSV with CRLF.
use Rattle.std.proofs.Common.{◌≡◌, ◌==◌, ◌++◌, ◌∷◌, ◌∙◌, [], ℕ, List, Some, None, refl, ap, subst, false, append_assoc, inl, inr, map}
use Rattle.std.specs.List.{AllByRecursion, list_any, concat}
use Rattle.std.proofs.lemmas.Bool.{cases_Bool, false_from_ne_true, or_parts}
use Rattle.csv.specs.Machine.{next_record}
use Rattle.csv.specs.Reading.{AreRecords, Reached, default_config}
use Rattle.csv.specs.Writing.{default_writer, escaped, field_text, fields_text, is_blank, needs_byte, row_text}
use Rattle.csv.specs.declared.parser.State.TheVariants as st
use Rattle.csv.proofs.RoundTrip.{field-run, record-same}
use Rattle.day_export.specs.Text.{csv_writer}

-- ---- These lemmas show that a field has the same text with the settings `csv_writer` as with the default settings.

escaped-same : (x : List ℕ) → escaped csv_writer x ≡ escaped default_writer x
unfolding escaped
escaped-same [] = refl
escaped-same (b ∷ rest) = elim (cases_Bool (b == 34)) [
  | inl same ↦ rw same (ap (λ t. 34 ∷ b ∷ t) (escaped-same rest))
  | inr other ↦ rw other (ap (λ t. b ∷ t) (escaped-same rest))
]

field-same : (x : List ℕ) → field_text csv_writer x ≡ field_text default_writer x
field-same x = rw (escaped-same x) refl

fields-same : (fields : List (List ℕ)) → fields_text csv_writer fields ≡ fields_text default_writer fields
unfolding fields_text
fields-same [] = refl
fields-same (x ∷ rest) = rw (field-same x, fields-same rest) refl

-- ---- These lemmas show that the reader reads back a record of at least two fields.

-- At a comma the reader ends the field, and starts the next one.
end-field : (fields : List (List ℕ)) (x u : List ℕ)
    → next_record default_config st.InField fields x (44 ∷ u) ≡ next_record default_config st.StartField (fields ++ (x ∷ [])) [] u
unfolding next_record
end-field fields x u = refl

-- the byte after a field: a comma if more fields follow, else a carriage return
abbrev head-of : List (List ℕ) → ℕ
head-of [] = 13
head-of (z ∷ zs) = 44

abbrev tail-of : List (List ℕ) → List ℕ → List ℕ
tail-of [] tail = 10 ∷ tail
tail-of (z ∷ zs) tail = (field_text default_writer z ++ fields_text default_writer zs) ++ (13 ∷ 10 ∷ tail)

text-head : (ys : List (List ℕ)) (tail : List ℕ) → fields_text default_writer ys ++ (13 ∷ 10 ∷ tail) ≡ head-of ys ∷ tail-of ys tail
unfolding fields_text
text-head [] tail = refl
text-head (z ∷ zs) tail = refl

head-plain : (ys : List (List ℕ)) → (head-of ys == 34) ≡ false
head-plain [] = refl
head-plain (z ∷ zs) = refl

-- After the field x the reader reads the record's other fields, `rest`, and the carriage return that follows them.
rest-run : (fields : List (List ℕ)) (x : List ℕ) (rest : List (List ℕ)) (tail : List ℕ)
    → next_record default_config st.InField fields x (fields_text default_writer rest ++ (13 ∷ 10 ∷ tail)) ≡ Some (fields ++ (x ∷ rest), st.AfterCr, 10 ∷ tail)
unfolding next_record fields_text
rest-run fields x [] tail = refl
rest-run fields x (y ∷ ys) tail =
    let e = text-head ys tail in
    let u : (field_text default_writer y ++ fields_text default_writer ys) ++ (13 ∷ 10 ∷ tail) ≡ field_text default_writer y ++ (head-of ys ∷ tail-of ys tail) =
    append_assoc (field_text default_writer y) (fields_text default_writer ys) (13 ∷ 10 ∷ tail) ∙ ap (λ (t : List ℕ). field_text default_writer y ++ t) e in
    let run = field-run (fields ++ (x ∷ [])) y (head-of ys) (tail-of ys tail) (head-plain ys) in
    let more = rest-run (fields ++ (x ∷ [])) y ys tail in
    let back = subst (λ (t : List ℕ). next_record default_config st.InField (fields ++ (x ∷ [])) y t
    ≡ Some ((fields ++ (x ∷ [])) ++ (y ∷ ys), st.AfterCr, 10 ∷ tail)) e more in
    rw (end-field fields x _, u) (run ∙ back ∙ rw (append_assoc fields (x ∷ []) (y ∷ ys)) refl)

-- At the start of a record the reader reads an unquoted field just as at the start of any other field.
first-plain : (x tail : List ℕ) → list_any (needs_byte default_writer) x ≡ false
    → next_record default_config st.StartRecord [] [] (x ++ (44 ∷ tail)) ≡ next_record default_config st.StartField [] [] (x ++ (44 ∷ tail))
first-plain [] tail p = record-same [] [] 44 tail refl refl
first-plain (b ∷ rest) tail p =
    let e : needs_byte default_writer b ≡ false = (or_parts (needs_byte default_writer b) (list_any (needs_byte default_writer) rest) p).0 in
    let a = false_from_ne_true (b == 44) (λ t. cc (rw t at e)) in
    let q = false_from_ne_true (b == 34) (λ t. cc (rw (a, t) at e)) in
    let r = false_from_ne_true (b == 13) (λ t. cc (rw (a, q, t) at e)) in
    let n = false_from_ne_true (b == 10) (λ t. cc (rw (a, q, r, t) at e)) in
    record-same [] [] b (rest ++ (44 ∷ tail)) r n

first : (x tail : List ℕ)
    → next_record default_config st.StartRecord [] [] (field_text default_writer x ++ (44 ∷ tail))
    ≡ next_record default_config st.StartField [] [] (field_text default_writer x ++ (44 ∷ tail))
first x tail = elim (cases_Bool (list_any (needs_byte default_writer) x)) [
  | inl needs ↦ rw needs (record-same [] [] 34 _ refl refl)
  | inr plain ↦ rw plain (first-plain x tail plain)
]

row-split : (x y : List ℕ) (ys : List (List ℕ)) (tail : List ℕ)
    → row_text csv_writer (x ∷ y ∷ ys) ++ tail ≡ field_text default_writer x ++ (fields_text default_writer (y ∷ ys) ++ (13 ∷ 10 ∷ tail))
unfolding is_blank
row-split x y ys tail =
    rw (field-same x, fields-same (y ∷ ys)) (append_assoc (field_text default_writer x ++ fields_text default_writer (y ∷ ys)) (13 ∷ 10 ∷ []) tail
    ∙ append_assoc (field_text default_writer x) (fields_text default_writer (y ∷ ys)) (13 ∷ 10 ∷ tail))

read-row : (x y : List ℕ) (ys : List (List ℕ)) (tail : List ℕ)
    → next_record default_config st.StartRecord [] [] (row_text csv_writer (x ∷ y ∷ ys) ++ tail) ≡ Some (x ∷ y ∷ ys, st.AfterCr, 10 ∷ tail)
read-row x y ys tail =
    let e = text-head (y ∷ ys) tail in
    let run = field-run [] x 44 (tail-of (y ∷ ys) tail) refl in
    let more = subst (λ (t : List ℕ). next_record default_config st.InField [] x t
    ≡ Some ([] ++ (x ∷ y ∷ ys), st.AfterCr, 10 ∷ tail)) e (rest-run [] x (y ∷ ys) tail) in
    rw (row-split x y ys tail, e) (first x (tail-of (y ∷ ys) tail) ∙ run ∙ more)

-- ---- The reader reads back a header and rows, as one record each, if each of them has at least two fields.

-- The record has at least two fields.
abbrev pub IsLong : List (List ℕ) → Type 0
IsLong (x ∷ y ∷ ys) = Unit {0}
IsLong _ = ⊥

pub read-one : (row : List (List ℕ)) (tail : List ℕ) → IsLong row
    → next_record default_config st.StartRecord [] [] (row_text csv_writer row ++ tail) ≡ Some (row, st.AfterCr, 10 ∷ tail)
read-one [] tail long = absurd long
read-one (x ∷ []) tail long = absurd long
read-one (x ∷ y ∷ ys) tail long = read-row x y ys tail

-- After a carriage return the reader skips the line feed.
past-feed : (tail : List ℕ) → next_record default_config st.AfterCr [] [] (10 ∷ tail) ≡ next_record default_config st.StartRecord [] [] tail
unfolding next_record
past-feed tail = refl

ends : next_record default_config st.AfterCr [] [] (10 ∷ []) ≡ None
unfolding next_record
ends = refl

reached : (rows : List (List (List ℕ))) → AllByRecursion IsLong rows
    → Reached default_config st.AfterCr (10 ∷ concat (map (row_text csv_writer) rows)) rows st.AfterCr (10 ∷ [])
unfolding Reached
reached [] long = (refl, refl)
reached (row ∷ rows) long =
    let rest = concat (map (row_text csv_writer) rows) in
    ((row, st.AfterCr, 10 ∷ rest), past-feed (row_text csv_writer row ++ rest) ∙ read-one row rest long.0, refl, reached rows long.1)

-- From the text of a header and rows, the reader reads back the header and then each row, as one record each.
pub read-all : (header : List (List ℕ)) (rows : List (List (List ℕ))) → IsLong header → AllByRecursion IsLong rows
    → AreRecords default_config st.StartRecord (row_text csv_writer header ++ concat (map (row_text csv_writer) rows)) (header ∷ rows)
unfolding Reached
read-all header rows long all =
    let rest = concat (map (row_text csv_writer) rows) in
    (st.AfterCr, 10 ∷ [], ((header, st.AfterCr, 10 ∷ rest), read-one header rest long, refl, reached rows all), ends)

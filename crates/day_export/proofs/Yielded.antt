-- If an iterator gives the rows of a day, and the rows that it gave are appended, then the rows of the day are appended.
use Rattle.std.proofs.Common.{◌≡◌, ◌<◌, ℕ, List, length, map, take, Option, Some, Result, OnOk, map-id, refl, ap, sym, ◌∙◌, subst}
use Rattle.std.specs.Iterator.{Drains, YieldsThen}
use Rattle.std.specs.List.{concat}
use Rattle.std.specs.Io.KnownBytes.{Appends}
use Rattle.std.proofs.lemmas.Iterator.{YieldsList, items_from_drains}
use Rattle.std.proofs.lemmas.Iterator.Consumers.{YieldsList-so_far, YieldsList-turn}
use Rattle.std.proofs.lemmas.List.{length-map, take-map}
use Rattle.std.proofs.lemmas.Result.{on_ok_weaker}
use Rattle.decision_journal.specs.declared.entries.Entry.{Entry}
use Rattle.day_report.specs.declared.sales.Sale.{Sale}
use Rattle.day_export.specs.declared.cells.Cell.{Cell}
use Rattle.day_export.specs.declared.cells.Format.{Format}
use Rattle.day_export.specs.declared.cells.Rows.{Rows}
use Rattle.day_export.specs.Rows.{rows_from}
use Rattle.day_export.specs.Text.{AppendsFirst, row_bytes}

pub yielded : {S U E : Type 0} {steps : S → Option (List Cell) → S → Type 0} {s : S} (r : Result U E) (a b : Option (List ℕ)) (form : Format) (which kind : Rows)
    (sales : List Sale) (entries : List Entry) → which ≡ kind → YieldsList steps (λ x. x) s (rows_from kind sales entries)
    → OnOk r ((all : List (List Cell)) × Drains steps s all × Appends a b (concat (map (row_bytes which form) all)))
    → OnOk r (Appends a b (concat (map (row_bytes which form) (rows_from which sales entries))))
yielded r a b form which kind sales entries is yields =
    on_ok_weaker r
    (λ p. subst (λ all. Appends a b (concat (map (row_bytes which form) all)))
    (sym (map-id p.0) ∙ items_from_drains p.0 (p.1.1.0, p.1.1.1, λ _. (p.1.0, p.1.1.2)) yields ∙ (λ i. rows_from (sym is i) sales entries))
    p.2)

-- If it gave `front` and then one more row, and `front` is appended, then the first of the day's rows are appended.
pub first_yielded : {S : Type 0} {steps : S → Option (List Cell) → S → Type 0} {s : S} (a b : Option (List ℕ)) (form : Format) (which kind : Rows)
    (sales : List Sale) (entries : List Entry) → which ≡ kind → YieldsList steps (λ x. x) s (rows_from kind sales entries)
    → ((front : List (List Cell)) × (row : List Cell) × (rest : S) × YieldsThen steps s front (Some row) rest
    × Appends a b (concat (map (row_bytes which form) front)))
    → AppendsFirst a b (map (row_bytes which form) (rows_from which sales entries))
first_yielded a b form which kind sales entries is yields p =
    let text = row_bytes which form in
    let all = rows_from kind sales entries in
    let turn = YieldsList-turn yields p.0 p.3.0 p.3.1 (Some p.1) p.2 p.1 refl p.3.2 in
    let far : p.0 ≡ take (length p.0) all = sym (map-id p.0) ∙ YieldsList-so_far yields p.0 p.3.0 p.3.1 in
    subst (λ k. AppendsFirst a b (map text (rows_from k sales entries))) (sym is) (
      length p.0,
      subst (λ n. length p.0 < n) (sym (length-map all text)) turn.0,
      subst (λ l. Appends a b (concat l)) (ap (map text) far ∙ sym (take-map text (length p.0) all)) p.4,
    )

-- Bytes are written, and then a text. If a write of the bytes fails, then their rest and the whole text are lost. If a
-- write of the text fails, then the rest of the text is lost.
use Rattle.std.proofs.Common.{ℕ, List, [], ◌++◌, take, drop, Option, Result, Ok, Err, sym, ◌∙◌, ap, append_assoc, append-nil}
use Rattle.std.specs.Prelude.{OnErr}
use Rattle.std.specs.Io.KnownBytes.{Appends}
use Rattle.std.proofs.lemmas.List.{take-append-drop}
use Rattle.till_request.proofs.Taken.{appends_more}
use Rattle.line_session.specs.Buffering.{Sends}

-- if a beginning of the bytes was written, then the rest is lost
pub front_out : (o p : Option (List ℕ)) (bytes : List ℕ) → (k : ℕ) × Appends o p (take k bytes) → (lost : List ℕ) × Sends bytes lost o p
front_out o p bytes h = (drop h.0 bytes, record { sent = take h.0 bytes; out = h.1; in_order = take-append-drop h.0 bytes })

-- if some bytes are lost, then a text after them is lost too
pub lost_behind : (o p : Option (List ℕ)) (bytes text : List ℕ) → (lost : List ℕ) × Sends bytes lost o p → (lost : List ℕ) × Sends (bytes ++ text) lost o p
lost_behind o p bytes text h =
    (h.0 ++ text, record { sent = h.1.sent; out = h.1.out; in_order = sym (append_assoc h.1.sent h.0 text) ∙ ap (λ (t : List ℕ). t ++ text) h.1.in_order })

-- if all of the bytes were written, and then a beginning of a text, then the rest of the text is what is left of both
sends_then : (o p q : Option (List ℕ)) (bytes text rest : List ℕ) → Sends bytes [] o p → Sends text rest p q → Sends (bytes ++ text) rest o q
sends_then o p q bytes text rest s t = record {
  sent = s.sent ++ t.sent;
  out = appends_more o p q s.sent t.sent s.out t.out;
  in_order = append_assoc s.sent t.sent rest ∙ ap (λ (x : List ℕ). s.sent ++ x) t.in_order
      ∙ ap (λ (x : List ℕ). x ++ text) (sym (append-nil s.sent) ∙ s.in_order);
}

-- if all of the bytes were written, and then a text of which a rest is lost, then that rest is lost of both
pub lost_after : {T E : Type 0} (r : Result T E) (o p q : Option (List ℕ)) (bytes text : List ℕ) → Sends bytes [] o p
    → OnErr r ((lost : List ℕ) × Sends text lost p q) → OnErr r ((lost : List ℕ) × Sends (bytes ++ text) lost o q)
lost_after (Ok x) o p q bytes text s h = tt
lost_after (Err e) o p q bytes text s h = (h.0, sends_then o p q bytes text h.0 s h.1)

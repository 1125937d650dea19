-- What is written through an escaping writer, piece by piece, is the escaped text of all pieces together.
use Rattle.std.proofs.Common.{◌≡◌, ◌∙◌, ℕ, List, [], ◌∷◌, ◌++◌, ap, sym, subst, refl, Option, Some, None, Result, Ok, Err, option_map}
use Rattle.std.specs.Prelude.{OnOk}
use Rattle.std.specs.List.{concat, flat_map, FoldsTo}
use Rattle.std.specs.Str.{IsUtf8, chars}
use Rattle.std.specs.Fmt.{HasWritten, IsPlainFormatter, WritesText, DisplaysOnOk}
use Rattle.std.specs.declared.fmt.Formatter.{Formatter}
use Rattle.std.specs.declared.fmt.Error.{Error}
use Rattle.std.proofs.lemmas.Str.{chars-append}
use Rattle.std.proofs.lemmas.Grind.{flat_map-append}
use Rattle.std.proofs.Output.{has_written_append, has_written_of_eq, writes_in_calls_nil}
use Rattle.pages.specs.declared.escaped.Escaping.{Escaping}
use Rattle.pages.specs.Printing.{printable, printable_char}

printable_append : (a b : List ℕ) → IsUtf8 a → printable (a ++ b) ≡ printable a ++ printable b
unfolding printable
printable_append a b text = ap (flat_map printable_char) (chars-append a b text) ∙ flat_map-append printable_char (chars a) (chars b)

printable_nil : printable [] ≡ []
unfolding printable chars
printable_nil = refl

module _ {W : Type 0} (took : W → List ℕ → W → Type 0) where
  -- what one call of the escaping writer's `write_str` does
  abbrev Took : Escaping W → List ℕ → Escaping W → Type 0
  Took s text t = (t.0.ghost_name ≡ s.0.ghost_name) × IsUtf8 text × (IsPlainFormatter s.0.now → HasWritten took s.0.now (printable text) t.0.now)

  abbrev TookAll : Escaping W → List ℕ → Escaping W → Type 0
  TookAll s text t = (t.0.ghost_name ≡ s.0.ghost_name) × (IsPlainFormatter s.0.now → HasWritten took s.0.now (printable text) t.0.now)

  nothing_written : (f : Formatter W) → IsPlainFormatter f → HasWritten took f (printable []) f
  nothing_written f plain = has_written_of_eq _ _ _ _ _ (sym printable_nil) (record { wrote = writes_in_calls_nil took f.writer; plain = plain })

  after_calls : (s : Escaping W) (parts : List (List ℕ)) (t : Escaping W) → FoldsTo Took s parts t → TookAll s (concat parts) t
  after_calls s [] t p = subst (TookAll s []) p (refl, λ plain. nothing_written s.0.now plain)
  after_calls s (x ∷ xs) t p =
      let rest = after_calls p.0 xs t p.2 in (
        rest.0 ∙ p.1.0,
        λ plain.
            let first = p.1.2 plain in
            has_written_of_eq _ _ _ _ _ (sym (printable_append x (concat xs) p.1.1)) (has_written_append _ _ _ _ _ _ first (rest.1 first.plain)),
      )

  pub shown : (o : Option (List ℕ)) (r : Result (Unit {0}) Error) (s t : Escaping W) (f g : Formatter W) → s.0.now ≡ f
      → (t.0.ghost_name ≡ s.0.ghost_name → t.0.now ≡ g) → OnOk r (WritesText Took s o t) → DisplaysOnOk took f r (option_map printable o) g
  shown None r s t f g begun ended calls = tt
  shown (Some text) (Err e) s t f g begun ended calls = λ plain ok. cc
  shown (Some text) (Ok u) s t f g begun ended calls = λ plain ok.
      let all : TookAll s text t = subst (λ l. TookAll s l t) calls.whole (after_calls s calls.parts t calls.calls) in
      subst (HasWritten took f (printable text)) (ended all.0) (subst (λ from. IsPlainFormatter from → HasWritten took from (printable text) t.0.now) begun all.1 plain)

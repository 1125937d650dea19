-- If memory is taken to keep an item of a list, it is taken to keep the first one. Reading a blank text takes no
-- memory.
use Rattle.std.proofs.Common.{◌≡◌, inl, inr, ℕ, zero, suc, ◌≤◌, List, ◌∷◌, drop, Bool, true, false, Some, None, Result, IsOk, if◌then◌else◌, refl, sym, subst, arith}
use Rattle.std.specs.Str.{is_utf8}
use Rattle.toml.specs.Data.{Members, no_members}
use Rattle.toml.specs.Errors.{IsBlank}
use Rattle.toml.specs.Parse.{parse_document, lines}
use Rattle.site_config.specs.declared.flaw.ConfigFlaw.{ConfigFlaw}
use Rattle.site_config.specs.Document.{document_of}
use Rattle.site_config.specs.Typed.{typed_of}
use Rattle.site_config.specs.Memory.{MakesFirst, TakesTyped, TakesDocument}

-- If `one` finds no flaw in the item at place i of `xs`, then it finds none in the first item (`MakesFirst`). If i is
-- 0, the two are the same item. If i is 1 or more, the claim itself is a premise.
pub made : {A B : Type 0} (one : ℕ → A → Result B ConfigFlaw) (xs : List A) (i : ℕ) (x : A) (rest : List A)
    → drop i xs ≡ x ∷ rest → (1 ≤ i → MakesFirst (one 0) xs) → IsOk (one i x) → MakesFirst (one 0) xs
made one xs zero x rest split before now = subst (MakesFirst (one 0)) (sym split) now
made one xs (suc i) x rest split before now = before (omega arith)

blank_document : (text : List ℕ) → IsBlank text → parse_document text ≡ Some no_members
unfolding parse_document lines
blank_document text blank = rw blank refl

pub not_blank : (text : List ℕ) → parse_document text ≡ None → IsBlank text → ⊥
not_blank text none blank = let some = blank_document text blank in absurd (cc)

of_nothing : TakesDocument no_members → ⊥
unfolding TakesDocument TakesTyped typed_of
of_nothing (inl (inl none)) = none
of_nothing (inl (inr rest)) = absurd (cc)
of_nothing (inr none) = none

is_text : (b : Bool) (bytes : List ℕ) (ms : Members) → (if b then parse_document bytes else None) ≡ Some ms → b ≡ true
is_text true bytes ms e = refl
is_text false bytes ms e = absurd (cc)

-- If reading the settings from a document takes memory, then the document's text is UTF-8 and isn't blank.
pub taken : (bytes : List ℕ) (ms : Members) → document_of bytes ≡ Some ms → TakesDocument ms → (is_utf8 bytes ≡ true) × (IsBlank bytes → ⊥)
unfolding document_of
taken bytes ms e takes =
    let text : is_utf8 bytes ≡ true = is_text (is_utf8 bytes) bytes ms e in (
      text,
      λ blank.
          let parsed : parse_document bytes ≡ Some ms = rw text at e in
          let none : ms ≡ no_members = let some = blank_document bytes blank in cc in
          of_nothing (subst TakesDocument none takes),
    )

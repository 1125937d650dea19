-- What follows from the first bytes of a connection for all that it sends.
use Rattle.std.proofs.Common.{◌≡◌, ℕ, ◌+◌, ◌<◌, ◌≤◌, ◌++◌, List, [], ◌∷◌, length, take, Bool, true, false, cond, ◌&&◌, ◌||◌, not, ◌⊎◌, inl, inr, refl, sym, ap, subst, ◌∙◌, arith, rules}
use Rattle.std.specs.Prelude.{take_while, bytes_eq}
use Rattle.std.specs.List.{AllByRecursion, list_all, list_any, prefix_len}
use Rattle.std.proofs.lemmas.List.Sums.{take_while-cons}
use Rattle.std.proofs.lemmas.List.{length-append}
use Rattle.std.proofs.lemmas.List.Folds.{list_all-append}
use Rattle.std.proofs.lemmas.Slice.Eq.{bytes_eq-Decides}
use Rattle.site_server.specs.Guard.{methods, is_control, ends_word, first_word, is_method, begins_otherwise}
use Rattle.site_server.specs.declared.judging.Verdict.{Verdict}
use Rattle.site_server.specs.Guarding.{Tells, begins_with_control, is_capital, verdict_on}

module _ (p : ℕ → Bool) where
  kept_at : (v : Bool) (b : ℕ) (bytes more : List ℕ) → cond v (1 + prefix_len p bytes) 0 < length (b ∷ bytes)
      → (prefix_len p bytes < length bytes → take_while p (bytes ++ more) ≡ take_while p bytes)
      → cond v (b ∷ take_while p (bytes ++ more)) [] ≡ cond v (b ∷ take_while p bytes) []
  kept_at true b bytes more short rest = ap (λ (l : List ℕ). b ∷ l) (rest (omega (arith, short)))
  kept_at false b bytes more short rest = refl

  -- a word that has ended stays as it is, whatever comes behind it
  pub kept : (bytes more : List ℕ) → prefix_len p bytes < length bytes → take_while p (bytes ++ more) ≡ take_while p bytes
  kept [] more short = absurd (omega (arith, short))
  kept (b ∷ bytes) more short =
      take_while-cons p b (bytes ++ more) ∙ kept_at (p b) b bytes more short (kept bytes more) ∙ sym (take_while-cons p b bytes)

  grown_at : (v : Bool) (b : ℕ) (bytes more : List ℕ) → (cond v (1 + prefix_len p bytes) 0 < length (b ∷ bytes) → ⊥)
      → ((prefix_len p bytes < length bytes → ⊥) → take_while p (bytes ++ more) ≡ bytes ++ take_while p more)
      → cond v (b ∷ take_while p (bytes ++ more)) [] ≡ b ∷ (bytes ++ take_while p more)
  grown_at true b bytes more long rest = ap (λ (l : List ℕ). b ∷ l) (rest (λ lt. long (omega (arith, lt))))
  grown_at false b bytes more long rest = absurd (long (omega arith))

  -- a word that hasn't ended goes on in what comes behind it
  grown : (bytes more : List ℕ) → (prefix_len p bytes < length bytes → ⊥) → take_while p (bytes ++ more) ≡ bytes ++ take_while p more
  grown [] more long = refl
  grown (b ∷ bytes) more long = take_while-cons p b (bytes ++ more) ∙ grown_at (p b) b bytes more long (grown bytes more)

one_of : (v w : Bool) → (v || w) ≡ true → (v ≡ true) ⊎ (w ≡ true)
one_of true w is = inl refl
one_of false w is = inr is

and_first : (v w : Bool) → (v && w) ≡ true → v ≡ true
and_first true w is = refl
and_first false w is = is

module _ (P : List ℕ → Type 0) (word : List ℕ) where
  among : (words : List (List ℕ)) → AllByRecursion P words → list_any (λ known. bytes_eq known word) words ≡ true → P word
  among [] all is = absurd (cc)
  among (known ∷ words) all is =
      elim (one_of (bytes_eq known word) (list_any (λ known. bytes_eq known word) words) is)
      [ inl same ↦ subst P ((bytes_eq-Decides known word).0 same) all.0 | inr later ↦ among words all.1 later ]

abbrev pub IsShort : List ℕ → Type 0
IsShort word = (list_all is_capital word ≡ true) × (length word < 8)

-- a method has fewer than 8 bytes, all of them capital letters
all_short : AllByRecursion IsShort methods
all_short = search (rules, arith)

short : (word : List ℕ) → is_method word ≡ true → IsShort word
short word is = among IsShort word methods all_short is

abbrev pub goes_on : ℕ → Bool
goes_on b = not (ends_word b)

-- a word of 8 bytes or more, or with a byte that is no capital letter, is no method, whatever comes behind it
no_method_at : (v : Bool) (bytes more : List ℕ) → (IsShort bytes → ⊥) → is_method (bytes ++ more) ≡ v → v ≡ false
no_method_at false bytes more long is = refl
no_method_at true bytes more long is =
    let whole = short (bytes ++ more) is in
    absurd (long (
      and_first (list_all is_capital bytes) (list_all is_capital more) (sym (list_all-append is_capital bytes more) ∙ whole.0),
      omega (arith, whole.1, length-append bytes more),
    ))

no_method : (bytes more : List ℕ) → (IsShort bytes → ⊥) → is_method (bytes ++ more) ≡ false
no_method bytes more long = no_method_at (is_method (bytes ++ more)) bytes more long refl

judged : (v w x : Bool) → v ≡ false → w ≡ x → (v || w) ≡ x
judged false w x none is = is
judged true w x none is = absurd (cc)

-- if the first byte is no control byte, the first word alone says whether another protocol is spoken
by_word : (b : ℕ) (bytes more word : List ℕ) (verdict : Bool) → is_control b ≡ false → first_word ((b ∷ bytes) ++ more) ≡ word → is_method word ≡ verdict
    → begins_otherwise ((b ∷ bytes) ++ more) ≡ verdict
by_word b bytes more word verdict none same is = judged (is_control b) _ verdict none (ap is_method same ∙ is)

-- the first word has ended: it says whether another protocol is spoken
ended : (bytes more : List ℕ) (verdict : Bool) → begins_with_control bytes ≡ false → prefix_len goes_on bytes < length bytes
    → verdict ≡ is_method (take (prefix_len goes_on bytes) bytes) → begins_otherwise (bytes ++ more) ≡ verdict
ended [] more verdict none lt is = absurd (omega (arith, lt))
ended (b ∷ bytes) more verdict none lt is = by_word b bytes more _ verdict none (kept goes_on (b ∷ bytes) more lt) (sym is)

-- the first word hasn't ended, and is no method however it goes on
unended : (bytes more : List ℕ) → begins_with_control bytes ≡ false → (prefix_len goes_on bytes < length bytes → ⊥) → (IsShort bytes → ⊥)
    → begins_otherwise (bytes ++ more) ≡ false
unended [] more none long other = absurd (other (refl, omega arith))
unended (b ∷ bytes) more none long other =
    by_word b bytes more _ false none (grown goes_on (b ∷ bytes) more long) (no_method (b ∷ bytes) (first_word more) other)

by_method : (bytes : List ℕ) (stranger : Bool) → begins_with_control bytes ≡ false → prefix_len goes_on bytes < length bytes
    → stranger ≡ is_method (take (prefix_len goes_on bytes) bytes) → Tells begins_otherwise bytes (verdict_on stranger)
by_method bytes true none lt is = λ more. ended bytes more true none lt is
by_method bytes false none lt is = λ more. ended bytes more false none lt is

-- the same for what the code computes: the word's length `n`, whether the word is a method, and the verdict on that
pub ended_so : (bytes : List ℕ) (n : ℕ) (stranger : Bool) (verdict : Verdict) → begins_with_control bytes ≡ false → n ≡ prefix_len goes_on bytes → n < length bytes
    → stranger ≡ is_method (take n bytes) → verdict ≡ verdict_on stranger → Tells begins_otherwise bytes verdict
ended_so bytes n stranger verdict none is lt by told =
    subst (Tells begins_otherwise bytes) (sym told) (by_method bytes stranger none (omega (arith, is, lt)) (by ∙ ap (λ (m : ℕ). is_method (take m bytes)) is))

pub unended_so : (bytes : List ℕ) (n : ℕ) → begins_with_control bytes ≡ false → n ≡ prefix_len goes_on bytes → length bytes ≤ n → (IsShort bytes → ⊥)
    → (more : List ℕ) → begins_otherwise (bytes ++ more) ≡ false
unended_so bytes n none is le other more = unended bytes more none (λ lt. omega (arith, is, le, lt)) other

pub is_other : (v : Bool) → v ≡ false → v ≡ true → ⊥
is_other v isnt is = absurd (cc)

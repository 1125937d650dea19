-- What follows from the first bytes of a connection for whether all that it sends asks for a path, and speaks another protocol.
use Rattle.std.proofs.Common.{◌≡◌, ℕ, ◌+◌, ◌-◌, ◌<◌, ◌≤◌, ◌++◌, List, [], ◌∷◌, length, take, drop, Bool, true, false, cond, if◌then◌else◌, nat_le, ◌==◌, ◌&&◌, ◌||◌, not, refl, sym, ap, subst, ◌∙◌, arith, suc}
use Rattle.std.specs.List.{prefix_len}
use Rattle.std.proofs.lemmas.Bool.{eqb-true, le-leb, lt-leb}
use Rattle.std.proofs.lemmas.List.{drop-append-le, length-drop, take-append-drop}
use Rattle.std.proofs.Math.Seq.{take-length}
use Rattle.std.proofs.lemmas.List.Folds.{length-prefix_len, list_all-append}
use Rattle.site_server.specs.Guard.{asks_for_path, begins_otherwise, first_word, speaks_another_protocol, starts_path}
use Rattle.site_server.specs.declared.judging.Verdict.{Verdict}
use Rattle.site_server.specs.declared.judging.Verdict.TheVariants.{Client, Stranger, Unclear}
use Rattle.site_server.specs.Guarding.{Tells, either_verdict, has_no_line, path_verdict, verdict_on}
use Rattle.site_server.proofs.FirstWords.{goes_on, kept}

no_lf_of : (w x y z : Bool) → not (w || x || y || z) ≡ true → not z ≡ true
no_lf_of true x y z is = absurd (cc)
no_lf_of false true y z is = absurd (cc)
no_lf_of false false true z is = absurd (cc)
no_lf_of false false false z is = is

both_true : (v w : Bool) → v ≡ true → w ≡ true → (v && w) ≡ true
both_true true w is also = also
both_true false w is also = absurd (cc)

word_lacks_lf_at : (v : Bool) (b : ℕ) (bytes : List ℕ) → goes_on b ≡ v → has_no_line (take (prefix_len goes_on bytes) bytes) ≡ true
    → has_no_line (take (cond v (1 + prefix_len goes_on bytes) 0) (b ∷ bytes)) ≡ true
word_lacks_lf_at true b bytes is rest =
    let m : ℕ = prefix_len goes_on bytes in
    let one : 1 + m ≡ suc m = omega arith in
    ap (λ (n : ℕ). has_no_line (take n (b ∷ bytes))) one
    ∙ both_true (not (b == 10)) (has_no_line (take m bytes)) (no_lf_of (b == 32) (b == 9) (b == 13) (b == 10) is) rest
word_lacks_lf_at false b bytes is rest = refl

word_lacks_lf : (bytes : List ℕ) → has_no_line (take (prefix_len goes_on bytes) bytes) ≡ true
word_lacks_lf [] = refl
word_lacks_lf (b ∷ bytes) = word_lacks_lf_at (goes_on b) b bytes refl (word_lacks_lf bytes)

-- if no line ends behind the first word, none has ended
pub lacks_line : (bytes behind : List ℕ) (n : ℕ) → n ≡ prefix_len goes_on bytes → drop n bytes ≡ behind → has_no_line behind ≡ true → has_no_line bytes ≡ true
lacks_line bytes behind n is left none =
    ap has_no_line (sym (take-append-drop n bytes)) ∙ list_all-append (λ b. not (b == 10)) (take n bytes) (drop n bytes)
    ∙ both_true _ _ (subst (λ (m : ℕ). has_no_line (take m bytes) ≡ true) (sym is) (word_lacks_lf bytes)) (ap has_no_line left ∙ none)

longer_at : (p : ℕ → Bool) (v : Bool) (m n : ℕ) → m ≤ n → cond v (1 + m) 0 ≤ cond v (1 + n) 0
longer_at p true m n le = omega (arith, le)
longer_at p false m n le = omega arith

-- a word gets no shorter by what comes behind it
longer : (bytes more : List ℕ) → prefix_len goes_on bytes ≤ prefix_len goes_on (bytes ++ more)
longer [] more = omega arith
longer (b ∷ bytes) more = longer_at goes_on (goes_on b) _ _ (longer bytes more)

no_and : (v w : Bool) → v ≡ false → (v && w) ≡ false
no_and true w is = absurd (cc)
no_and false w is = refl

and_no : (v w : Bool) → w ≡ false → (v && w) ≡ false
and_no true w is = is
and_no false w is = refl

yes_and : (v w x : Bool) → v ≡ true → w ≡ x → (v && w) ≡ x
yes_and true w x is same = same
yes_and false w x is same = absurd (cc)

-- behind a word of more than 8,400 bytes no path is asked for
pub too_long : (bytes : List ℕ) (n : ℕ) → n ≡ prefix_len goes_on bytes → 8400 < n → (more : List ℕ) → asks_for_path (bytes ++ more) ≡ false
too_long bytes n is long more =
    let grows = longer bytes more in
    let whole = length-prefix_len goes_on (bytes ++ more) in
    no_and _ _ (lt-leb (length (first_word (bytes ++ more))) 8400 (omega (arith, is, long, grows, whole)))

-- a word that has ended: what comes behind its own end says whether a path is asked for
by_behind : (bytes more behind : List ℕ) (n : ℕ) → n ≡ prefix_len goes_on bytes → n ≤ 8400 → n < length bytes → drop n bytes ≡ behind
    → asks_for_path (bytes ++ more) ≡ starts_path (behind ++ more)
by_behind bytes more behind n is le lt left =
    ap (λ (m : ℕ). nat_le m 8400 && starts_path (drop m (bytes ++ more)))
    (ap length (kept goes_on bytes more (omega (arith, is, lt))) ∙ length-prefix_len goes_on bytes ∙ sym is)
    ∙ yes_and (nat_le n 8400) _ _ (le-leb n 8400 le) (ap starts_path (drop-append-le n bytes more (omega (arith, lt)) ∙ ap (λ (l : List ℕ). l ++ more) left))

inside : (bytes behind : List ℕ) (n : ℕ) → drop n bytes ≡ behind → 0 < length behind → (n < length bytes) × (length bytes ≡ n + length behind)
inside bytes behind n left some =
    let whole = length-drop n bytes in let same : length (drop n bytes) ≡ length behind = ap length left in
    (omega (arith, whole, same, some), omega (arith, whole, same, some))

one_starts : (a : ℕ) (more : List ℕ) → a == 32 ≡ false → starts_path (a ∷ more) ≡ false
one_starts a [] isnt = refl
one_starts a (b ∷ more) isnt = no_and (a == 32) _ isnt

one_behind : (v : Bool) (a : ℕ) (bytes : List ℕ) (n : ℕ) → a == 32 ≡ v → n ≡ prefix_len goes_on bytes → n ≤ 8400 → drop n bytes ≡ a ∷ []
    → Tells asks_for_path bytes (if v then Unclear else Client)
one_behind true a bytes n blank is le left =
    let fits = inside bytes (a ∷ []) n left (omega arith) in
    (omega (arith, fits.1, le), lacks_line bytes (32 ∷ []) n is (left ∙ ap (λ (b : ℕ). b ∷ []) (eqb-true a 32 blank)) refl)
one_behind false a bytes n blank is le left = λ more.
    by_behind bytes more (a ∷ []) n is le (inside bytes (a ∷ []) n left (omega arith)).0 left ∙ one_starts a more blank

two_behind : (v : Bool) (a b : ℕ) (bytes behind : List ℕ) (n : ℕ) → (a == 32 && b == 47) ≡ v → n ≡ prefix_len goes_on bytes → n ≤ 8400 → drop n bytes ≡ a ∷ b ∷ behind
    → Tells asks_for_path bytes (verdict_on v)
two_behind true a b bytes behind n path is le left = λ more.
    by_behind bytes more (a ∷ b ∷ behind) n is le (inside bytes (a ∷ b ∷ behind) n left (omega arith)).0 left ∙ path
two_behind false a b bytes behind n path is le left = λ more.
    by_behind bytes more (a ∷ b ∷ behind) n is le (inside bytes (a ∷ b ∷ behind) n left (omega arith)).0 left ∙ path

path_told : (bytes behind : List ℕ) (n : ℕ) → n ≡ prefix_len goes_on bytes → n ≤ 8400 → drop n bytes ≡ behind → Tells asks_for_path bytes (path_verdict behind)
path_told bytes [] n is le left =
    let whole = length-drop n bytes in let none : length (drop n bytes) ≡ 0 = ap length left in
    (omega (arith, whole, none, le), lacks_line bytes [] n is left refl)
path_told bytes (a ∷ []) n is le left = one_behind (a == 32) a bytes n refl is le left
path_told bytes (a ∷ b ∷ behind) n is le left = two_behind (a == 32 && b == 47) a b bytes behind n refl is le left

all_behind : (bytes : List ℕ) (n : ℕ) → take (length bytes - n) (drop n bytes) ≡ drop n bytes
all_behind bytes n = ap (λ (m : ℕ). take m (drop n bytes)) (sym (length-drop n bytes)) ∙ take-length (drop n bytes)

-- the same for what the code computes: the word's length `n`, and the verdict on what comes behind it
pub path_so : (bytes : List ℕ) (n : ℕ) (verdict : Verdict) → n ≡ prefix_len goes_on bytes → n ≤ 8400 → verdict ≡ path_verdict (take (length bytes - n) (drop n bytes))
    → Tells asks_for_path bytes verdict
path_so bytes n verdict is le told =
    subst (Tells asks_for_path bytes) (sym (told ∙ ap path_verdict (all_behind bytes n))) (path_told bytes (drop n bytes) n is le refl)

or_first : (v w : Bool) → v ≡ true → (v || w) ≡ true
or_first true w is = refl
or_first false w is = absurd (cc)

or_second : (v w : Bool) → w ≡ true → (v || w) ≡ true
or_second true w is = refl
or_second false w is = is

or_none : (v w : Bool) → v ≡ false → w ≡ false → (v || w) ≡ false
or_none true w isnt none = absurd (cc)
or_none false w isnt none = none

joined : (bytes : List ℕ) (a b : Verdict) → Tells begins_otherwise bytes a → Tells asks_for_path bytes b → Tells speaks_another_protocol bytes (either_verdict a b)
joined bytes Stranger b says also = λ more. or_first _ _ (says more)
joined bytes Client Stranger says also = λ more. or_second _ _ (also more)
joined bytes Client Client says also = λ more. or_none _ _ (says more) (also more)
joined bytes Client Unclear says also = also
joined bytes Unclear Stranger says also = λ more. or_second _ _ (also more)
joined bytes Unclear Client says also = says
joined bytes Unclear Unclear says also = says

pub joined_so : (bytes : List ℕ) (a b verdict : Verdict) → Tells begins_otherwise bytes a → Tells asks_for_path bytes b → verdict ≡ either_verdict a b
    → Tells speaks_another_protocol bytes verdict
joined_so bytes a b verdict says also is = subst (Tells speaks_another_protocol bytes) (sym is) (joined bytes a b says also)

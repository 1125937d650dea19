-- If lines are appended to a text, item by item, then those of all items were appended in the end.
use Rattle.std.proofs.Common.{◌≡◌, ℕ, ◌+◌, ◌<◌, List, [], ◌∷◌, ◌++◌, length, drop, get_or, arith, refl, sym, ◌∙◌, ap, subst, append_assoc}
use Rattle.std.proofs.lemmas.Grind.{flat_map-append}
use Rattle.std.proofs.lemmas.List.{drop_more}
use Rattle.std.specs.List.{flat_map}
use Rattle.days.specs.declared.line.Line.{Line}
use Rattle.days.specs.declared.file.OpeningFile.{OpeningFile}
use Rattle.days.specs.declared.line.Line.TheVariants as lines
use Rattle.days.specs.Text.{AddsLines, counter_lines, head_lines, line_text, numbered_lines, opening_text, point_lines, price_lines, version_lines}

pub adds_both : (a b c : List ℕ) (ls ms : List Line) → AddsLines a b ls → AddsLines b c ms → AddsLines a c (ls ++ ms)
adds_both a b c ls ms h k =
    k ∙ ap (λ t. t ++ flat_map line_text ms) h ∙ append_assoc a (flat_map line_text ls) (flat_map line_text ms)
    ∙ ap (λ t. a ++ t) (sym (flat_map-append line_text ls ms))

-- The text `new` becomes `old` with the lines of all items, if the lines of the items from item i on are appended. The
-- first item has the number n.
abbrev pub LacksFrom : {T : Type 0} → (ℕ → T → List Line) → ℕ → List T → ℕ → List ℕ → List ℕ → Type 0
LacksFrom w n xs i old new = new ++ flat_map line_text (numbered_lines w (n + i) (drop i xs)) ≡ old ++ flat_map line_text (numbered_lines w n xs)

-- The lines of item i, which is x and has the number m, were appended.
pub adds_next : {T : Type 0} (w : ℕ → T → List Line) (n : ℕ) (xs : List T) (i m : ℕ) (d x : T) (old mid new : List ℕ) → i < length xs → m ≡ n + i
    → x ≡ get_or xs i d → LacksFrom w n xs i old mid → AddsLines mid new (w m x) → LacksFrom w n xs (i + 1) old new
adds_next w n xs i m d x old mid new lt at is h k =
    let e : n + i + 1 ≡ n + (i + 1) = omega arith in
    let left : List Line = numbered_lines w (n + i + 1) (drop (i + 1) xs) in
    let own : AddsLines mid new (w (n + i) (get_or xs i d)) = subst (λ y. AddsLines mid new (w (n + i) y)) is (subst (λ j. AddsLines mid new (w j x)) at k) in
    subst (λ j. new ++ flat_map line_text (numbered_lines w j (drop (i + 1) xs)) ≡ old ++ flat_map line_text (numbered_lines w n xs)) e
    (adds_both mid new (new ++ flat_map line_text left) (w (n + i) (get_or xs i d)) left own refl
    ∙ ap (λ ys. mid ++ flat_map line_text (numbered_lines w (n + i) ys)) (sym (drop_more xs i d lt)) ∙ h)

-- The lines of an opening are appended to an empty text, part by part.
pub whole_text : (f : OpeningFile) (z a b c d e g : List ℕ) → z ≡ [] → AddsLines z a (head_lines f)
    → AddsLines a b (numbered_lines version_lines 0 f.opening.rules) → AddsLines b c (numbered_lines price_lines 1 f.opening.prices)
    → AddsLines c d (numbered_lines counter_lines 0 f.opening.counters) → AddsLines d e (numbered_lines point_lines 1 f.opening.points)
    → AddsLines e g (lines.Journal f.entries f.digest ∷ []) → g ≡ opening_text f
whole_text f z a b c d e g empty head rules prices counters points last =
    adds_both z a g (head_lines f) _ head
    (adds_both a b g _ _ rules
    (adds_both b c g _ _ prices
    (adds_both c d g _ _ counters (adds_both d e g _ (lines.Journal f.entries f.digest ∷ []) points last))))
    ∙ ap (λ t. t ++ opening_text f) empty

use Rattle.std.proofs.Common.{◌≡◌, ◌==◌, ℕ, Bool, true, false, if◌then◌else◌, List, [], ◌∷◌, refl, sym, ap, arith}
use Rattle.std.proofs.lemmas.Bool.{eqb-true}
use Rattle.std.proofs.lemmas.Str.Pattern.{strip_prefix_char}
use Rattle.site_config.specs.Words.{behind_bracket}
use Rattle.site_config.proofs.document.behind_bracket.Goals as goal

same_by : (b : Bool) (byte : ℕ) (text : List ℕ) → (byte == 91) ≡ b → ((rest : List ℕ) → byte ∷ text ≡ 91 ∷ rest → ⊥)
    → byte ∷ text ≡ (if b then text else byte ∷ text)
same_by true byte text is other = absurd (other text (ap (λ n. n ∷ text) (eqb-true byte 91 is)))
same_by false byte text is other = refl

-- a text that doesn't begin with `[` stays as it is
same : (text : List ℕ) → ((rest : List ℕ) → text ≡ 91 ∷ rest → ⊥) → text ≡ behind_bracket text
same [] other = refl
same (byte ∷ text) other = same_by (byte == 91) byte text refl other

pub returns-in-Some : goal.returns-in-Some
returns-in-Some c =
    let front = rw c.in-Some.is at (strip_prefix_char 91 c.args.text.now c.strip_prefix.result c.strip_prefix.ensures.cases (omega arith)) in
    sym (ap behind_bracket front)

pub returns-in-None : goal.returns-in-None
returns-in-None c =
    same c.args.text.now (rw c.in-None.is at (strip_prefix_char 91 c.args.text.now c.strip_prefix.result c.strip_prefix.ensures.cases (omega arith)))

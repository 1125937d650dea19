use Rattle.std.proofs.Common.{◌≡◌, sym, ap, ◌∙◌, List, [], ◌∷◌, length, arith}
use Rattle.std.specs.Prelude.{drop}
use Rattle.std.proofs.Math.Seq.{drop-cons}
use Rattle.std.proofs.lemmas.List.{drop_all}
use Rattle.verifier.specs.declared.types.RegType.{RegType}
use Rattle.verifier.specs.declared.types.RegType.TheVariants.{Unset, Num}
use Rattle.verifier.specs.Rules.{type_at}
use Rattle.verifier.proofs.rules.types_after_call.Goals as goal

ends : (xs : List RegType) → length xs ≡ 11 → drop 11 xs ≡ []
ends xs e = drop_all 11 xs (omega (arith, e))

tail : (xs : List RegType) → length xs ≡ 11 → drop 6 xs ≡ type_at xs 6 ∷ type_at xs 7 ∷ type_at xs 8 ∷ type_at xs 9 ∷ type_at xs 10 ∷ []
tail xs e =
    drop-cons xs 6 Unset (omega arith)
    ∙ ap (λ l. type_at xs 6 ∷ l) (drop-cons xs 7 Unset (omega arith)
    ∙ ap (λ l. type_at xs 7 ∷ l) (drop-cons xs 8 Unset (omega arith)
    ∙ ap (λ l. type_at xs 8 ∷ l) (drop-cons xs 9 Unset (omega arith)
    ∙ ap (λ l. type_at xs 9 ∷ l) (drop-cons xs 10 Unset (omega arith)
    ∙ ap (λ l. type_at xs 10 ∷ l) (ends xs e)))))

pub returns : goal.returns
returns c = ap (λ l. Num ∷ Unset ∷ Unset ∷ Unset ∷ Unset ∷ Unset ∷ l) (sym (tail c.args.types.now c.told-types))

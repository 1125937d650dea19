use Rattle.std.proofs.Common.{ap, subst, ◌∙◌, map, List, ℕ, Bor}
use Rattle.till_request.specs.Grammar.{IsLoad}
use Rattle.till_request.specs.Gives.{Gives}
use Rattle.till_request.specs.Looks.{words_answered}
use Rattle.till_request.proofs.look.asked_of_short.Goals as goal

pub returns-clause-given : goal.returns-clause-given
returns-clause-given c =
    let now : List (Bor (List ℕ)) → List (List ℕ) = map (λ w. w.now) in
    subst (λ ws. Gives c.words_answered.result (words_answered c.args.role ws)) (ap now c.as_slice.ensures.value ∙ c.in-Some.ensures) c.words_answered.ensures.given

pub returns-clause-memory : goal.returns-clause-memory
returns-clause-memory c = λ refused.
    let now : List (Bor (List ℕ)) → List (List ℕ) = map (λ w. w.now) in
    subst (IsLoad c.args.role) (ap now c.as_slice.ensures.value ∙ c.in-Some.ensures) (c.words_answered.ensures.memory refused)

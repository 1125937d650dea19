use Rattle.std.proofs.Common.{sym, ◌∙◌, arith}
use Rattle.till_request.specs.Grammar.{all_forms}
use Rattle.till_request.proofs.Fitting.{by_count, other_count}
use Rattle.till_request.proofs.form.form_of.Goals as goal

pub returns-in-3-clause-found : goal.returns-in-3-clause-found
unfolding all_forms
returns-in-3-clause-found c = c.first_suited.ensures.found ∙ sym (by_count c.args.role c.args.words.now 3 c.in-3.is)

pub returns-in-4-clause-found : goal.returns-in-4-clause-found
unfolding all_forms
returns-in-4-clause-found c = c.first_suited-in-4.ensures.found ∙ sym (by_count c.args.role c.args.words.now 4 c.in-4.is)

pub returns-in-5-clause-found : goal.returns-in-5-clause-found
unfolding all_forms
returns-in-5-clause-found c = c.first_suited-in-5.ensures.found ∙ sym (by_count c.args.role c.args.words.now 5 c.in-5.is)

pub returns-in_default-clause-found : goal.returns-in_default-clause-found
returns-in_default-clause-found c =
    sym (other_count c.args.role c.args.words.now (λ e. omega (arith, e, c.in_default)) (λ e. omega (arith, e, c.in_default)) (λ e. omega (arith, e, c.in_default)))

use Rattle.std.proofs.Common.{MatchOption, subst, IfSome}
use Rattle.file_jobs.specs.Days.{IsOwn, IsUnfitting, file_of}
use Rattle.file_jobs.specs.declared.folder.Part.TheVariants as part
use Rattle.file_jobs.proofs.Compared.{takes_given}
use Rattle.file_jobs.proofs.newest.config_for_unkept.Goals as goal

pub returns-in_default-clause-taken : goal.returns-in_default-clause-taken
returns-in_default-clause-taken g c = λ texts known none.
    let day = c.args.day in
    let given = c.args.given in
    takes_given texts given day c.given-in_default.result none c.given-in_default.ensures.config c.given-in_default.ensures.own
    (λ unfit. absurd (subst (λ m. MatchOption m (¬ IsUnfitting texts given day) (λ _. IsUnfitting texts given day)) c.in_default.is
    (c.in_ok-misfit.ensures.misfit texts known) unfit))

pub returns-in_default-2-clause-taken : goal.returns-in_default-2-clause-taken
returns-in_default-2-clause-taken g c = λ texts known none.
    takes_given texts c.args.given c.args.day c.given-in_default-2.result none c.given-in_default-2.ensures.config c.given-in_default-2.ensures.own
    (λ unfit. c.in_ok-own.ensures.none texts known c.in_default-2.is)

pub returns-clause-taken : goal.returns-clause-taken
returns-clause-taken g c = λ texts known none.
    let own = subst (λ o. IfSome o (IsOwn (file_of texts c.args.day part.Config))) c.in-Some-2.is (c.in_ok-own.ensures.own texts known) in (
      none,
      subst (λ m. MatchOption m (¬ IsUnfitting texts c.args.given c.args.day) (λ _. IsUnfitting texts c.args.given c.args.day)) c.in-Some.is
          (c.in_ok-misfit.ensures.misfit texts known),
      own.0,
      own.1,
      subst (λ o. IfSome o (λ own. ¬ IsUnfitting texts own.config c.args.day)) c.in-Some-2.is (c.in_ok-own.ensures.fits texts known),
    )

use Rattle.std.proofs.Common.{◌≡◌, ◌∙◌, Ok, Option, None, Some, MatchOption, Result, sym, subst}
use Rattle.site_core.specs.Limits.{ConfigValue}
use Rattle.site_config.specs.declared.fault.ConfigFault.{ConfigFault}
use Rattle.file_jobs.specs.Days.{IsOwn, IsUnfitting, file_of}
use Rattle.file_jobs.specs.declared.folder.Part.TheVariants as part
use Rattle.file_jobs.proofs.newest.own_that_fits.Goals as goal

one : (a b : ConfigValue) (read : Option (Result ConfigValue ConfigFault)) → read ≡ Some (Ok a) → read ≡ Some (Ok b) → a ≡ b
one a b read first second =
    let e : ◌≡◌ {A = Option (Result ConfigValue ConfigFault)} (Some (Ok a)) (Some (Ok b)) = sym first ∙ second in cc

pub returns-in-Some-2-clause-none : goal.returns-in-Some-2-clause-none
returns-in-Some-2-clause-none g c = λ texts known none config is.
    let file = file_of texts c.args.day part.Config in
    let own = subst (λ o. MatchOption o (file ≡ None) (IsOwn file)) c.in-Some.is (c.in_ok-own.ensures.own texts known) in
    subst (λ k. IsUnfitting texts k c.args.day) (one c.in-Some.own.config config _ own.1 is)
    (subst (λ m. MatchOption m (¬ IsUnfitting texts c.in-Some.own.config c.args.day) (λ _. IsUnfitting texts c.in-Some.own.config c.args.day)) c.in-Some-2.is (c.in_ok-misfit_of.ensures.misfit texts known))

pub returns-in-None-clause-fits : goal.returns-in-None-clause-fits
returns-in-None-clause-fits g c = λ texts known.
    subst (λ m. MatchOption m (¬ IsUnfitting texts c.in-Some.own.config c.args.day) (λ _. IsUnfitting texts c.in-Some.own.config c.args.day)) c.in-None.is
    (c.in_ok-misfit_of.ensures.misfit texts known)

use Rattle.std.proofs.Common.{◌∙◌, ap, refl, rules}
use Rattle.what_if.specs.Days.{first_misfit}
use Rattle.what_if.proofs.DayByDay.{day-taken}
use Rattle.what_if.proofs.days.DaysComparison.end.Goals as goal

pub returns-clause-taken : goal.returns-clause-taken
returns-clause-taken c = λ yes before steps found-before found.
    let own = c.args.self.now in
    day-taken own (record { rule = own.rule; slot = own.slot; reading = own.reading; days = c.push.new.self; misfit = c.first_misfit-self.result }) c.args.seen
    c.args.day before steps (record { day = c.args.day; rows = c.into_rows.result }) (c.is_own.ensures (search rules)) refl refl refl refl c.into_rows.ensures
    c.in_ok-push.ensures.items (c.first_misfit-self.ensures ∙ ap (first_misfit c.args.self.now.misfit c.args.day) c.misfit-misfit.ensures) found-before found

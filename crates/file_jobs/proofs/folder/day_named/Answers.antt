use Rattle.std.proofs.Common.{◌≡◌, None, Some, ap, ◌∙◌, sym, lit<, rules}
use Rattle.std.proofs.lemmas.Str.Pattern.{split_once_first}
use Rattle.file_jobs.specs.Days.{day_of}
use Rattle.file_jobs.proofs.Named.{named-without, named-other, named-by}
use Rattle.file_jobs.proofs.folder.day_named.Goals as goal

pub returns-in_err-digits : goal.returns-in_err-digits
returns-in_err-digits c =
    let none : c.from_residual.result ≡ None = search rules in
    none ∙ sym (named-without c.args.name.now (split_once_first 46 c.args.name.now None c.in_err-digits.ensures.cases (lit< tt)))

pub returns-then-not-shows_day : goal.returns-then-not-shows_day
returns-then-not-shows_day c =
    let both = split_once_first 46 c.args.name.now (Some (c.in_ok-digits.digits, c.in_ok-digits.ending)) c.in_ok-digits.ensures.cases (lit< tt) in
    sym (named-other c.args.name.now c.in_ok-digits.ending.now both.2 (sym c.shows_day.ensures ∙ c.if-not-shows_day.true))

pub returns : goal.returns
returns c =
    let both = split_once_first 46 c.args.name.now (Some (c.in_ok-digits.digits, c.in_ok-digits.ending)) c.in_ok-digits.ensures.cases (lit< tt) in
    c.day_of.ensures ∙ ap day_of c.as_bytes.ensures.value
    ∙ sym (named-by c.args.name.now c.in_ok-digits.digits.now c.in_ok-digits.ending.now both.1 both.2 (sym c.shows_day.ensures ∙ c.if-not-shows_day.false))

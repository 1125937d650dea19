use Rattle.std.proofs.Common.{◌≡◌, List, Some, Result, Ok, Err, IfOk, length, sym, ◌∙◌}
use Rattle.site_core.specs.Limits.{ConfigValue}
use Rattle.days.specs.Chain.{IsChain}
use Rattle.days.specs.EndedDays.{DayEnd}
use Rattle.file_jobs.specs.declared.chained.WatchedDays.{WatchedDays}
use Rattle.file_jobs.specs.declared.folder.Span.{Span}
use Rattle.file_jobs.specs.Days.{FolderText, span_of}
use Rattle.file_jobs.specs.Chained.{AreLegal, AreTold, AreToldOf, NoConfigIsRefused, days_left}
use Rattle.file_jobs.proofs.NoChain.{legal_configs}
use Rattle.file_jobs.proofs.chained.watch_in.Goals as goal

legal : {W E : Type 0} (texts : FolderText) (given : ConfigValue) (span : Span) (result : Result (WatchedDays W) E) → span_of texts ≡ Some span
    → IfOk result (λ a. IsChain span.oldest (days_left texts given (Some span.oldest) span.newest) a.chained.entries)
    → IfOk result (λ a. a.chained.days ≡ length (days_left texts given (Some span.oldest) span.newest)) → IfOk result (λ a. AreLegal texts given a.chained)
legal texts given span (Ok audited) is chain days = (span, is, chain, days)
legal texts given span (Err error) is chain days = chain

pub returns-in-Some-clause-legal : goal.returns-in-Some-clause-legal
returns-in-Some-clause-legal g c = λ texts known.
    legal texts c.args.config c.in-Some.span c.watch_span.result (sym (c.in_ok-span.ensures.span texts known) ∙ c.in-Some.is)
    (c.watch_span.ensures.chain texts known) (c.watch_span.ensures.days texts known)

configs : {W E : Type 0} (texts : FolderText) (given : ConfigValue) (result : Result (WatchedDays W) E) → IfOk result (λ a. AreLegal texts given a.chained)
    → IfOk result (λ _. NoConfigIsRefused texts)
configs texts given (Ok audited) legal = legal_configs texts given audited.chained legal
configs texts given (Err error) legal = legal

pub returns-in-Some-clause-configs : goal.returns-in-Some-clause-configs
returns-in-Some-clause-configs g c = λ texts known.
    configs texts c.args.config c.watch_span.result (returns-in-Some-clause-legal g c texts known)

told : {W E : Type 0} (texts : FolderText) (given : ConfigValue) (span : Span) (was_told : W → List DayEnd → Type 0) (before : List DayEnd)
    (result : Result (WatchedDays W) E) → span_of texts ≡ Some span → IfOk result (λ a. AreToldOf span texts given (was_told a.watch) before)
    → IfOk result (λ a. AreTold texts given (was_told a.watch) before)
told texts given span was_told before (Ok audited) is h = (span, is, h)
told texts given span was_told before (Err error) is h = h

pub returns-in-Some-clause-told : goal.returns-in-Some-clause-told
returns-in-Some-clause-told g c = λ texts known before known_told.
    told texts c.args.config c.in-Some.span g.W.DayWatch.was_told before c.watch_span.result
    (sym (c.in_ok-span.ensures.span texts known) ∙ c.in-Some.is) (c.watch_span.ensures.told texts known before known_told)

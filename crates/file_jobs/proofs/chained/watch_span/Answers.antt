use Rattle.std.proofs.Common.{List, Some, ap, option_map}
use Rattle.days.specs.Chain.{DayText}
use Rattle.file_jobs.specs.Days.{FolderText}
use Rattle.file_jobs.specs.Chained.{days_left}
use Rattle.file_jobs.proofs.chained.watch_span.Goals as goal

pub returns-in-Ok-clause-chain : goal.returns-in-Ok-clause-chain
returns-in-Ok-clause-chain g c = λ texts known.
    let days : FolderText → List DayText = λ t. days_left t c.args.config (Some c.args.span.oldest) c.args.span.newest in
    c.in-Ok.ensures.chain (days texts) (ap (option_map days) known)

pub returns-in-Ok-clause-days : goal.returns-in-Ok-clause-days
returns-in-Ok-clause-days g c = λ texts known.
    let days : FolderText → List DayText = λ t. days_left t c.args.config (Some c.args.span.oldest) c.args.span.newest in
    c.in-Ok.ensures.days (days texts) (ap (option_map days) known)

pub returns-in-Ok-clause-told : goal.returns-in-Ok-clause-told
returns-in-Ok-clause-told g c = λ texts known before known_told.
    let days : FolderText → List DayText = λ t. days_left t c.args.config (Some c.args.span.oldest) c.args.span.newest in
    c.in-Ok.ensures.told (days texts) (ap (option_map days) known) before known_told

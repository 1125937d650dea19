use Rattle.std.proofs.Common.{◌≡◌, ◌⊎◌, inl, inr, sym, subst, ◌∙◌, Bool, true, false, IfOk, IfErr, OnOk, IsSome, Option, None, Result, Ok, Err, List, []}
use Rattle.std.proofs.Common.{String, Global, refl, map, string_bytes}
use Rattle.std.specs.declared.alloc.AllocError.{AllocError}
use Rattle.clap.specs.Words.{App, HasMatchesOf, Row, Text, app_of, is_simple, is_simple_and_free, fault_of, subcommand_of, subcommand_rows_of, takes, kind_of}
use Rattle.clap.specs.Kinds.{IsAmong, Kinds}
use Rattle.clap.specs.declared.parser.matches.ArgMatches.{ArgMatches}
use Rattle.clap.specs.declared.error.kind.ErrorKind.{ErrorKind}
use Rattle.clap.specs.declared.error.kind.ErrorKind.TheVariants as kind
use Rattle.file_jobs.specs.JobRequest.{JobRequest, HasNoJob, IsHelpOrVersion, MayShow, RefusesBy, fc_app, requested, parsed_request, unasked_text}
use Rattle.file_jobs.specs.Refusing.{IsRefusalOf, IsNoJobMessage}
use Rattle.file_jobs.specs.declared.job.Job.{Job}
use Rattle.file_jobs.specs.declared.job.CommandFault.{CommandFault}
use Rattle.file_jobs.specs.declared.job.CommandFault.TheVariants.{Usage, OutOfMemory}
use Rattle.file_jobs.proofs.command_line.command.Goals as goal

more : (r : Result Job CommandFault) (P Q : Job → Type 0) → ((j : Job) → P j → Q j) → IfOk r P → IfOk r Q
more (Ok j) P Q f h = f j h
more (Err e) P Q f h = h

more_on : (r : Result Job CommandFault) (P : Type 0) (Q : Job → Type 0) → ((j : Job) → P → Q j) → OnOk r P → IfOk r Q
more_on (Ok j) P Q f h = f j h
more_on (Err e) P Q f h = h

more_err : (r : Result Job CommandFault) (P Q : CommandFault → Type 0) → ((e : CommandFault) → P e → Q e) → IfErr r P → IfErr r Q
more_err (Ok j) P Q f h = h
more_err (Err e) P Q f h = f e h

false_unless : (b : Bool) → (b ≡ true → ⊥) → b ≡ false
false_unless true n = absurd (n refl)
false_unless false n = refl

simple : is_simple fc_app ≡ true
simple = refl

simple_and_free : (a : App) → a ≡ fc_app → is_simple_and_free a ≡ true
simple_and_free a e = subst (λ (b : App). is_simple_and_free b ≡ true) (sym e) refl

-- `lent` is the list of the arguments that `clap` gets, and `words` the list of the program's arguments. If both are
-- the same, and `clap` finds the matches `m` in `lent`, then `m` has what `subcommand_of` finds in `words`: the
-- subcommand and its values, or no subcommand.
found : (a : App) → a ≡ fc_app → (lent words : List (String Global)) → lent ≡ words → (m : ArgMatches) → HasMatchesOf a (map (λ w. string_bytes w) lent) m
    → subcommand_rows_of m ≡ subcommand_of fc_app (map (λ w. string_bytes w) words)
found a e lent words same m h =
    ((subst (λ (ws : List (String Global)). HasMatchesOf fc_app (map (λ w. string_bytes w) ws) m) same
    (subst (λ (b : App). HasMatchesOf b (map (λ w. string_bytes w) lent) m) e h)) simple).1

-- `lent` is the list of the arguments that `clap` gets, and `words` the list of the program's arguments. If both are
-- the same, then the errors that `clap` can return for `lent` are those that it can return for `words`.
faults : (a : App) → a ≡ fc_app → (lent words : List (String Global)) → lent ≡ words
    → fault_of a (map (λ w. string_bytes w) lent) ≡ fault_of fc_app (map (λ w. string_bytes w) words)
faults a e lent words same =
    subst (λ (ws : List (String Global)). fault_of a (map (λ w. string_bytes w) lent) ≡ fault_of fc_app (map (λ w. string_bytes w) ws)) same
    (subst (λ (b : App). fault_of a (map (λ w. string_bytes w) lent) ≡ fault_of b (map (λ w. string_bytes w) lent)) e refl)

refused : (a : App) → a ≡ fc_app → (lent words : List (String Global)) → lent ≡ words → (k : ErrorKind)
    → (takes a (map (λ w. string_bytes w) lent) ≡ true → k ≡ kind.OutOfMemory) → takes fc_app (map (λ w. string_bytes w) words) ≡ true → k ≡ kind.OutOfMemory
refused a e lent words same k h t =
    h (subst (λ (b : App). takes b (map (λ w. string_bytes w) lent) ≡ true) (sym e)
    (subst (λ (ws : List (String Global)). takes fc_app (map (λ w. string_bytes w) ws) ≡ true) (sym same) t))

no_job : (j : Job) (P : Type 0) → IsSome (requested j) → requested j ≡ None → P
no_job j P some none = let bad : false ≡ true = subst (λ (o : Option JobRequest). IsSome o) none some in absurd (cc)

-- The error kinds for the help and for the version are different from `OutOfMemory`.
shown_has_memory : (k : ErrorKind) → IsHelpOrVersion k → k ≡ kind.OutOfMemory → ⊥
shown_has_memory k (inl h) m = let bad : kind.DisplayHelp ≡ kind.OutOfMemory = sym h ∙ m in cc
shown_has_memory k (inr v) m = let bad : kind.DisplayVersion ≡ kind.OutOfMemory = sym v ∙ m in cc

among_faults : (k seen : ErrorKind) → k ≡ seen → (old kinds : Kinds) → old ≡ kinds → (seen ≡ kind.OutOfMemory) ⊎ IsAmong seen old
    → (k ≡ kind.OutOfMemory) ⊎ IsAmong k kinds
among_faults k seen e old kinds same h =
    subst (λ (ks : Kinds). (k ≡ kind.OutOfMemory) ⊎ IsAmong k ks) same
    (subst (λ (x : ErrorKind). (x ≡ kind.OutOfMemory) ⊎ IsAmong x old) (sym e) h)

may_show : (k : ErrorKind) (kinds : Kinds) → (k ≡ kind.OutOfMemory) ⊎ IsAmong k kinds → IsHelpOrVersion k → MayShow kinds
may_show k kinds (inl m) s = absurd (shown_has_memory k s m)
may_show k kinds (inr among) s = (k, among, s)

may_refuse : (k : ErrorKind) (made : Result (String Global) AllocError) (kinds : Kinds) (found : Option (Text × List Row))
    → (k ≡ kind.OutOfMemory) ⊎ IsAmong k kinds → (f : CommandFault) → IsRefusalOf k made f → RefusesBy kinds found f
may_refuse k made kinds found (inl m) (Usage text) h = absurd (h.1 m)
may_refuse k made kinds found (inr among) (Usage text) h = inl (k, among, h.0, h.1)
may_refuse k made kinds found has OutOfMemory h = tt

nothing : (kinds : Kinds) (seen found : Option (Text × List Row)) → seen ≡ found → (f : CommandFault) → IsNoJobMessage seen f → RefusesBy kinds found f
nothing kinds seen found e (Usage text) h =
    inr (subst (λ (f : Option (Text × List Row)). HasNoJob f × (string_bytes text ≡ unasked_text f)) e h)
nothing kinds seen found e OutOfMemory h = tt

pub returns-in-Ok-clause-requested : goal.returns-in-Ok-clause-requested
returns-in-Ok-clause-requested c =
    let rows = found (app_of c.in_ok-command.command) c.in_ok-command.ensures c.as_slice.result.now c.args.words.items c.as_slice.ensures.value c.in-Ok.matches
    c.in-Ok.ensures.matches in
    more c.found_job.result (λ j. parsed_request (subcommand_rows_of c.in-Ok.matches) ≡ requested j)
    (λ j. IsSome (requested j) → parsed_request (subcommand_of fc_app (map (λ w. string_bytes w) c.args.words.items)) ≡ requested j)
    (λ j h some. rw (sym rows) h) c.found_job.ensures.requested

pub returns-in-Ok-clause-faultless : goal.returns-in-Ok-clause-faultless
returns-in-Ok-clause-faultless c =
    let a = app_of c.in_ok-command.command in
    let same = faults a c.in_ok-command.ensures c.as_slice.result.now c.args.words.items c.as_slice.ensures.value in
    more c.found_job.result (λ j. IsSome (requested j)) (λ j. IsSome (requested j) → fault_of fc_app (map (λ w. string_bytes w) c.args.words.items) ≡ [])
    (λ j h some. sym same ∙ c.in-Ok.ensures.kinds (simple_and_free a c.in_ok-command.ensures)) c.found_job.ensures.some

pub returns-in-Ok-clause-shown : goal.returns-in-Ok-clause-shown
returns-in-Ok-clause-shown c =
    let words = map (λ w. string_bytes w) c.args.words.items in
    more c.found_job.result (λ j. IsSome (requested j)) (λ j. requested j ≡ None → takes fc_app words ≡ false)
    (λ j. no_job j (takes fc_app words ≡ false)) c.found_job.ensures.some

pub returns-in-Ok-clause-helps : goal.returns-in-Ok-clause-helps
returns-in-Ok-clause-helps c =
    let words = map (λ w. string_bytes w) c.args.words.items in
    more c.found_job.result (λ j. IsSome (requested j)) (λ j. requested j ≡ None → MayShow (fault_of fc_app words))
    (λ j. no_job j (MayShow (fault_of fc_app words))) c.found_job.ensures.some

pub returns-in-Ok-clause-refused : goal.returns-in-Ok-clause-refused
returns-in-Ok-clause-refused c =
    let rows = found (app_of c.in_ok-command.command) c.in_ok-command.ensures c.as_slice.result.now c.args.words.items c.as_slice.ensures.value c.in-Ok.matches
    c.in-Ok.ensures.matches in
    let words = map (λ w. string_bytes w) c.args.words.items in
    more_err c.found_job.result (IsNoJobMessage (subcommand_rows_of c.in-Ok.matches)) (RefusesBy (fault_of fc_app words) (subcommand_of fc_app words))
    (λ e h. nothing (fault_of fc_app words) (subcommand_rows_of c.in-Ok.matches) (subcommand_of fc_app words) rows e h) c.found_job.ensures.none

pub returns-clause-requested : goal.returns-clause-requested
returns-clause-requested c =
    let found = parsed_request (subcommand_of fc_app (map (λ w. string_bytes w) c.args.words.items)) in
    more c.job_from_error.result (λ j. requested j ≡ None) (λ j. IsSome (requested j) → found ≡ requested j)
    (λ j none some. no_job j (found ≡ requested j) some none) c.job_from_error.ensures.none

pub returns-clause-faultless : goal.returns-clause-faultless
returns-clause-faultless c =
    let faults = fault_of fc_app (map (λ w. string_bytes w) c.args.words.items) in
    more c.job_from_error.result (λ j. requested j ≡ None) (λ j. IsSome (requested j) → faults ≡ [])
    (λ j none some. no_job j (faults ≡ []) some none) c.job_from_error.ensures.none

pub returns-clause-shown : goal.returns-clause-shown
returns-clause-shown c =
    more_on c.job_from_error.result (IsHelpOrVersion c.kind.result) (λ j. requested j ≡ None → takes fc_app (map (λ w. string_bytes w) c.args.words.items) ≡ false)
    (λ j s none. false_unless (takes fc_app (map (λ w. string_bytes w) c.args.words.items))
    (λ h. shown_has_memory c.kind.result s
    (c.kind.ensures
    ∙ refused (app_of c.in_ok-command.command) c.in_ok-command.ensures c.as_slice.result.now c.args.words.items c.as_slice.ensures.value
    (kind_of c.in-Err.error) c.in-Err.ensures.passes h)))
    c.job_from_error.ensures.shown

pub returns-clause-helps : goal.returns-clause-helps
returns-clause-helps c =
    let a = app_of c.in_ok-command.command in
    let words = map (λ w. string_bytes w) c.args.words.items in
    let same = faults a c.in_ok-command.ensures c.as_slice.result.now c.args.words.items c.as_slice.ensures.value in
    let k = c.kind.result in
    more_on c.job_from_error.result (IsHelpOrVersion k) (λ j. requested j ≡ None → MayShow (fault_of fc_app words))
    (λ j s none. may_show k (fault_of fc_app words)
    (among_faults k (kind_of c.in-Err.error) c.kind.ensures (fault_of a (map (λ w. string_bytes w) c.as_slice.result.now)) (fault_of fc_app words) same
    (c.in-Err.ensures.kinds (simple_and_free a c.in_ok-command.ensures))) s)
    c.job_from_error.ensures.shown

pub returns-clause-refused : goal.returns-clause-refused
returns-clause-refused c =
    let a = app_of c.in_ok-command.command in
    let words = map (λ w. string_bytes w) c.args.words.items in
    let same = faults a c.in_ok-command.ensures c.as_slice.result.now c.args.words.items c.as_slice.ensures.value in
    let k = c.kind.result in
    more_err c.job_from_error.result (IsRefusalOf k c.to_string.result) (RefusesBy (fault_of fc_app words) (subcommand_of fc_app words))
    (λ e h. may_refuse k c.to_string.result (fault_of fc_app words) (subcommand_of fc_app words)
    (among_faults k (kind_of c.in-Err.error) c.kind.ensures (fault_of a (map (λ w. string_bytes w) c.as_slice.result.now)) (fault_of fc_app words) same
    (c.in-Err.ensures.kinds (simple_and_free a c.in_ok-command.ensures))) e h)
    c.job_from_error.ensures.refused

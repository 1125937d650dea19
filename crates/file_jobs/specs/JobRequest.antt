-- Definitions: the subcommands of `fc`, the job that a parsed command line asks for, and the error message if it asks
-- for none. The first argument of a command line is the program's name.
use Rattle.std.specs.Prelude.{◌≡◌, ◌≢◌, ◌⊎◌, ℕ, List, [], ◌∷◌, codes, Bool, true, false, Option, Some, None, option_and_then, option_map}
use Rattle.std.specs.Prelude.{if◌then◌else◌, ◌++◌, ◌&&◌, String, string_bytes, map, nat_lt, unwrap_or}
use Rattle.std.specs.Global.{Global}
use Rattle.std.specs.Option.{option_map_or}
use Rattle.std.specs.Str.{bytes_eq}
use Rattle.clap.specs.Words.{App, Row, Rule, Text, all_of, new_app, new_rule, with_rule, with_subcommand, first_of}
use Rattle.clap.specs.declared.builder.action.ArgAction.TheVariants.{Append, SetTrue}
use Rattle.clap.specs.Kinds.{Kinds, IsAmong}
use Rattle.clap.specs.declared.error.kind.ErrorKind.{ErrorKind}
use Rattle.clap.specs.declared.error.kind.ErrorKind.TheVariants as kind
use Rattle.bpf_model.specs.declared.context.Layout.{Layout}
use Rattle.bpf_model.specs.declared.context.Layout.TheVariants as layouts
use Rattle.day_export.specs.declared.cells.Rows.{Rows}
use Rattle.day_export.specs.declared.cells.Rows.TheVariants as kinds
use Rattle.day_export.specs.declared.cells.Format.{Format}
use Rattle.day_export.specs.declared.cells.Format.TheVariants as formats
use Rattle.file_jobs.specs.Mask.{mask_named, number_of}
use Rattle.file_jobs.specs.declared.trial_words.Trial.{Trial}
use Rattle.file_jobs.specs.declared.job.Job.{Job}
use Rattle.file_jobs.specs.declared.job.Job.TheVariants as job
use Rattle.what_if.specs.declared.comparison.Reading.{Reading}
use Rattle.what_if.specs.declared.comparison.Reading.TheVariants as readings
use Rattle.file_jobs.specs.declared.job.WhatIf.{WhatIf}
use Rattle.file_jobs.specs.declared.job.WhatIfFormat.{WhatIfFormat}
use Rattle.file_jobs.specs.declared.job.WhatIfFormat.TheVariants as what_if_formats
use Rattle.file_jobs.specs.declared.job.ServeJob.{ServeJob}
use Rattle.file_jobs.specs.declared.job.ServeJob.TheVariants as served
use Rattle.file_jobs.specs.declared.job.CommandFault.{CommandFault}
use Rattle.file_jobs.specs.declared.job.CommandFault.TheVariants as refusal

-- ---- arguments of the program

-- an argument with this name: a file that must be given
abbrev pub file_rule : Text → Rule
file_rule name = record (new_rule name) { required = true }

-- an argument with this name: a file that can be left out
abbrev pub spare_rule : Text → Rule
spare_rule name = new_rule name

-- KIND, the argument that says which rows `export` prints; it must be given
abbrev pub kind_rule : Rule
kind_rule = record (new_rule (codes "kind")) { required = true }

-- the option --counters MASK; MASK is 0 if the option isn't given
abbrev pub mask_rule : Rule
mask_rule =
    record (new_rule (codes "counters")) { long = Some (codes "counters"); value_names = 1; defaults = codes "0" ∷ [] }

-- the option --context LAYOUT; LAYOUT is 1 if the option isn't given
abbrev pub context_rule : Rule
context_rule =
    record (new_rule (codes "context")) { long = Some (codes "context"); value_names = 1; defaults = codes "1" ∷ [] }

-- an option with this name that takes a value, such as --journal FILE
abbrev pub option_rule : Text → Rule
option_rule name = record (new_rule name) { long = Some name; value_names = 1 }

-- an option with this name that takes no value, such as --units
abbrev pub flag_rule : Text → Rule
flag_rule name = record (new_rule name) { long = Some name; action = Some SetTrue }

-- the words NAME=NUMBER of `run`, as many as are given
abbrev pub fields_rule : Rule
fields_rule = record (new_rule (codes "fields")) { action = Some Append; value_names = 1 }

-- the option --slot N, which must be given
abbrev pub slot_rule : Rule
slot_rule = record (option_rule (codes "slot")) { required = true }

abbrev pub of_file : Text → Text → App
of_file name file = with_rule (new_app name) (file_rule file)

abbrev pub of_files : Text → Text → Text → App
of_files name first second = with_rule (of_file name first) (file_rule second)

abbrev pub asm_app : App
asm_app = of_file (codes "asm") (codes "file")

abbrev pub dis_app : App
dis_app = with_rule (of_file (codes "dis") (codes "file")) (flag_rule (codes "units"))

abbrev pub verify_app : App
verify_app = with_rule (with_rule (of_file (codes "verify") (codes "file")) mask_rule) context_rule

-- a subcommand with two files, both of which must be given, and the option --opening FILE
abbrev pub of_day : Text → Text → Text → App
of_day name first second = with_rule (of_files name first second) (option_rule (codes "opening"))

abbrev pub play_app : App
play_app = of_day (codes "play") (codes "config") (codes "script")

abbrev pub audit_app : App
audit_app =
    with_rule (with_rule (with_rule (of_file (codes "audit") (codes "config")) (spare_rule (codes "journal"))) (option_rule (codes "opening")))
    (option_rule (codes "days"))

abbrev pub carry_app : App
carry_app = of_day (codes "carry") (codes "config") (codes "journal")

abbrev pub report_app : App
report_app = of_day (codes "report") (codes "config") (codes "journal")

abbrev pub export_app : App
export_app =
    with_rule (with_rule (with_rule (with_rule (with_rule (new_app (codes "export")) kind_rule) (file_rule (codes "config")))
    (file_rule (codes "journal"))) (flag_rule (codes "json"))) (option_rule (codes "opening"))

abbrev pub explain_app : App
explain_app =
    with_rule (with_rule (with_rule (with_rule (of_files (codes "explain") (codes "config") (codes "journal")) (file_rule (codes "entry")))
    (flag_rule (codes "json"))) (option_rule (codes "opening"))) (option_rule (codes "days"))

abbrev pub run_app : App
run_app =
    with_rule (with_rule (with_rule (with_rule (with_rule (of_file (codes "run") (codes "rule")) fields_rule) mask_rule) context_rule)
    (flag_rule (codes "trace"))) (flag_rule (codes "json"))

abbrev pub what_if_app : App
what_if_app =
    with_rule (with_rule (with_rule (with_rule (with_rule (with_rule (with_rule (with_rule (with_rule
    (of_files (codes "whatif") (codes "config") (codes "journal")) (spare_rule (codes "rule"))) slot_rule) mask_rule) context_rule)
    (flag_rule (codes "carry"))) (flag_rule (codes "json"))) (flag_rule (codes "summary"))) (option_rule (codes "opening")))
    (option_rule (codes "days"))

abbrev pub follow_app : App
follow_app = of_files (codes "follow") (codes "folder") (codes "config")

abbrev pub serve_app : App
serve_app =
    with_rule (with_rule (with_rule (with_rule (with_rule (with_rule (of_file (codes "serve") (codes "config")) (option_rule (codes "journal")))
    (flag_rule (codes "sync"))) (option_rule (codes "opening"))) (option_rule (codes "days"))) (flag_rule (codes "new-day"))) (flag_rule (codes "check"))

abbrev pub top_app : App
top_app = record (new_app (codes "fc")) { top = record (new_app (codes "fc")).top { has_version = true } }

-- The command `fc` with all its subcommands:
-- - asm FILE
-- - dis [--units] FILE
-- - verify [--counters MASK] [--context LAYOUT] FILE
-- - play [--opening FILE] CONFIG SCRIPT
-- - audit [--opening FILE] CONFIG JOURNAL
-- - audit --days FOLDER CONFIG
-- - carry [--opening FILE] CONFIG JOURNAL
-- - report [--opening FILE] CONFIG JOURNAL
-- - export [--json] [--opening FILE] KIND CONFIG JOURNAL
-- - explain [--json] [--opening FILE] CONFIG JOURNAL ENTRY
-- - explain [--json] --days FOLDER CONFIG DAY ENTRY
-- - run [--counters MASK] [--context LAYOUT] [--trace] [--json] RULE [NAME=NUMBER]..
-- - whatif [--opening FILE] --slot N [--counters MASK] [--context LAYOUT] [--carry] [--json | --summary] CONFIG JOURNAL RULE
-- - whatif --days FOLDER --slot N [--counters MASK] [--context LAYOUT] [--carry] [--json | --summary] CONFIG RULE
-- - follow FOLDER CONFIG
-- - serve [--journal FILE [--sync]] [--opening FILE] CONFIG
-- - serve --days FOLDER [--sync] [--new-day] CONFIG
-- - serve --days FOLDER --check CONFIG
abbrev pub fc_app : App
fc_app =
    with_subcommand (with_subcommand (with_subcommand (with_subcommand (with_subcommand (with_subcommand (with_subcommand (with_subcommand
    (with_subcommand (with_subcommand (with_subcommand (with_subcommand (with_subcommand top_app asm_app.top) dis_app.top) verify_app.top) play_app.top)
    audit_app.top) carry_app.top) report_app.top) export_app.top) explain_app.top) run_app.top) what_if_app.top) follow_app.top) serve_app.top

-- ---- These definitions say which job a command line asks for.

-- What a command line can ask for, with its values. An opening is the file of --opening, or None if --opening isn't
-- given.
-- - `nothing`: the command line has no subcommand
-- - `asm`, `dis` and `dis_units`: the file
-- - `verify`: the mask of counters, the layout and the file
-- - `play`: the opening, the configuration and the script
-- - `audit`, `carry`, `report`, `serve_kept` and `serve_synced`: the opening, the configuration and the journal
-- - `audit_days`: the folder and the configuration
-- - `export`: the kind and the form of the rows, the opening, the configuration and the journal
-- - `explain`: whether JSON is printed, the opening, the configuration, the journal and the entry's number
-- - `explain_day`: whether JSON is printed, the folder, the configuration, the day's number and the entry's
-- - `run`: the mask of counters, the layout, whether the run is printed, whether JSON is, the rule and the fields
-- - `what_if`: what the options say, the opening, the configuration, the journal and the rule
-- - `what_if_days`: what the options say, the folder, the configuration and the rule
-- - `follow`: the folder and the configuration
-- - `serve`: the opening and the configuration
-- - `serve_days`: whether answers wait for syncs, whether a new day begins, the folder and the configuration
-- - `check_days`: the folder and the configuration
pub data JobRequest : Type 0 where
  nothing : JobRequest
  asm : Text → JobRequest
  dis : Text → JobRequest
  dis_units : Text → JobRequest
  verify : ℕ → Layout → Text → JobRequest
  play : Option Text → Text → Text → JobRequest
  audit : Option Text → Text → Text → JobRequest
  audit_days : Text → Text → JobRequest
  carry : Option Text → Text → Text → JobRequest
  report : Option Text → Text → Text → JobRequest
  export : Rows → Format → Option Text → Text → Text → JobRequest
  explain : Bool → Option Text → Text → Text → ℕ → JobRequest
  explain_day : Bool → Text → Text → ℕ → ℕ → JobRequest
  run : ℕ → Layout → Bool → Bool → Text → List Text → JobRequest
  what_if : Trial → Option Text → Text → Text → Text → JobRequest
  what_if_days : Trial → Text → Text → Text → JobRequest
  follow : Text → Text → JobRequest
  serve : Option Text → Text → JobRequest
  serve_kept : Option Text → Text → Text → JobRequest
  serve_synced : Option Text → Text → Text → JobRequest
  serve_days : Bool → Bool → Text → Text → JobRequest
  check_days : Text → Text → JobRequest

abbrev pub file_in : Text → (Text → JobRequest) → List Row → Option JobRequest
file_in id ask rows = option_map ask (first_of id rows)

abbrev pub files_in : Text → Text → (Text → Text → JobRequest) → List Row → Option JobRequest
files_in first second ask rows =
    option_and_then (λ (a : Text). option_map (ask a) (first_of second rows)) (first_of first rows)

-- the name of the file that --opening gives; None if --opening isn't given
abbrev pub opening_in : List Row → Option Text
opening_in rows = first_of (codes "opening") rows

-- the name of the folder that --days gives; None if --days isn't given
abbrev pub days_in : List Row → Option Text
days_in rows = first_of (codes "days") rows

-- Whether the option with this name, which takes no value, is given.
abbrev pub is_set : Text → List Row → Bool
is_set id rows = option_map_or (λ (t : Text). bytes_eq t (codes "true")) (first_of id rows) false

abbrev pub dis_in : List Row → Option JobRequest
dis_in rows = file_in (codes "file") (if is_set (codes "units") rows then dis_units else dis) rows

-- the number that --counters gives; None if its value is no mask
abbrev pub mask_in : List Row → Option ℕ
mask_in rows = option_and_then mask_named (first_of (codes "counters") rows)

-- the layout that a text names; None for a text that isn't 1 or 2
abbrev pub layout_named : Text → Option Layout
layout_named t =
    if bytes_eq t (codes "1") then Some layouts.One else if bytes_eq t (codes "2") then Some layouts.Two else None

abbrev pub layout_in : List Row → Option Layout
layout_in rows = option_and_then layout_named (first_of (codes "context") rows)

abbrev pub verify_in : List Row → Option JobRequest
verify_in rows =
    option_and_then (λ (n : ℕ). option_and_then (λ (layout : Layout). option_map (verify n layout) (first_of (codes "file") rows))
    (layout_in rows)) (mask_in rows)

-- the kind of rows that a text names; None for a text that isn't `sales`, `decisions` or `events`
abbrev pub rows_named : Text → Option Rows
rows_named t =
    if bytes_eq t (codes "sales") then Some kinds.Sales
    else if bytes_eq t (codes "decisions") then Some kinds.Decisions
    else if bytes_eq t (codes "events") then Some kinds.Events
    else None

abbrev pub kind_in : List Row → Option Rows
kind_in rows = option_and_then rows_named (first_of (codes "kind") rows)

-- the form of the rows: lines of JSON if --json is given, else CSV
abbrev pub format_in : List Row → Format
format_in rows = if is_set (codes "json") rows then formats.Json else formats.Csv

abbrev pub export_in : List Row → Option JobRequest
export_in rows =
    option_and_then (λ (kind : Rows). files_in (codes "config") (codes "journal") (export kind (format_in rows) (opening_in rows)) rows) (kind_in rows)

-- the number that ENTRY gives; None if it isn't one of 32 bits in decimal digits
abbrev pub entry_in : List Row → Option ℕ
entry_in rows = option_and_then (number_of false) (first_of (codes "entry") rows)

-- What `explain` asks for, given whether --json is, the folder of --days, the file of --opening, CONFIG, JOURNAL and
-- ENTRY's number. With --days the word in JOURNAL's place is the number of a day; None if it isn't one, or if --opening
-- is given too.
abbrev pub explain_by : Bool → Option Text → Option Text → Text → Text → ℕ → Option JobRequest
explain_by json None opening config journal n = Some (explain json opening config journal n)
explain_by json (Some folder) None config day n = option_map (λ (d : ℕ). explain_day json folder config d n) (number_of false day)
explain_by json (Some folder) (Some opening) config day n = None

abbrev pub explain_in : List Row → Option JobRequest
explain_in rows =
    option_and_then (λ (n : ℕ). option_and_then (λ (config : Text). option_and_then
    (λ (journal : Text). explain_by (is_set (codes "json") rows) (days_in rows) (opening_in rows) config journal n)
    (first_of (codes "journal") rows)) (first_of (codes "config") rows)) (entry_in rows)

-- the words NAME=NUMBER, in their order
abbrev pub fields_in : List Row → List Text
fields_in rows = unwrap_or (all_of (codes "fields") rows) []

abbrev pub run_in : List Row → Option JobRequest
run_in rows =
    option_and_then (λ (n : ℕ). option_and_then (λ (layout : Layout). option_map
    (λ (rule : Text). run n layout (is_set (codes "trace") rows) (is_set (codes "json") rows) rule (fields_in rows))
    (first_of (codes "rule") rows)) (layout_in rows)) (mask_in rows)

-- the number, if it is one of a slot: 0 to 15
abbrev pub within_slots : ℕ → Option ℕ
within_slots n = if nat_lt n 16 then Some n else None

-- the slot that a text names; None if it isn't a number in decimal digits, or no slot
abbrev pub slot_named : Text → Option ℕ
slot_named t = option_and_then within_slots (number_of false t)

-- the slot that --slot gives; None if its value is no slot
abbrev pub slot_in : List Row → Option ℕ
slot_in rows = option_and_then slot_named (first_of (codes "slot") rows)

-- on what the other rule decides: with --carry, the site that its own answers lead to
abbrev pub reading_in : List Row → Reading
reading_in rows = if is_set (codes "carry") rows then readings.Carried else readings.AsTheyWere

-- what `whatif` prints, given whether --json is given and whether --summary; None if both are
abbrev pub what_if_format : Bool → Bool → Option WhatIfFormat
what_if_format false false = Some what_if_formats.Csv
what_if_format false true = Some what_if_formats.Summary
what_if_format true false = Some what_if_formats.Json
what_if_format true true = None

abbrev pub what_if_format_in : List Row → Option WhatIfFormat
what_if_format_in rows = what_if_format (is_set (codes "json") rows) (is_set (codes "summary") rows)

-- what the options of `whatif` say; None if one has a value that it doesn't take, or two contradict each other
abbrev pub trial_in : List Row → Option Trial
trial_in rows =
    option_and_then (λ (slot : ℕ). option_and_then (λ (n : ℕ). option_and_then (λ (layout : Layout). option_map (λ (format : WhatIfFormat).
    record { slot = slot; counters = n; context = layout; reading = reading_in rows; format = format })
    (what_if_format_in rows)) (layout_in rows)) (mask_in rows)) (slot_in rows)

-- What `whatif` asks for, given the folder of --days, the file of --opening, what the other options say, CONFIG, and
-- the second and the third word: JOURNAL and RULE, or with --days RULE alone. None in two cases: --days is given
-- together with --opening or a third word, or neither --days nor a third word is given.
abbrev pub what_if_by : Option Text → Option Text → Trial → Text → Text → Option Text → Option JobRequest
what_if_by None opening trial config journal None = None
what_if_by None opening trial config journal (Some rule) = Some (what_if trial opening config journal rule)
what_if_by (Some folder) None trial config rule None = Some (what_if_days trial folder config rule)
what_if_by (Some folder) opening trial config rule third = None

abbrev pub what_if_in : List Row → Option JobRequest
what_if_in rows =
    option_and_then (λ (trial : Trial). option_and_then (λ (config : Text). option_and_then
    (λ (second : Text). what_if_by (days_in rows) (opening_in rows) trial config second (first_of (codes "rule") rows))
    (first_of (codes "journal") rows)) (first_of (codes "config") rows)) (trial_in rows)

-- What `audit` asks for, given the folder of --days, the file of --opening, JOURNAL and CONFIG. None in two cases:
-- --days is given together with --opening or JOURNAL, or neither --days nor JOURNAL is given.
abbrev pub audit_by : Option Text → Option Text → Option Text → Text → Option JobRequest
audit_by None opening None config = None
audit_by None opening (Some journal) config = Some (audit opening config journal)
audit_by (Some folder) None None config = Some (audit_days folder config)
audit_by (Some folder) opening journal config = None

abbrev pub audit_in : List Row → Option JobRequest
audit_in rows =
    option_and_then (audit_by (days_in rows) (opening_in rows) (first_of (codes "journal") rows)) (first_of (codes "config") rows)

-- What `serve` without --days asks for, given the file of --opening, whether --sync is given, the file of --journal and
-- CONFIG. None for --sync without --journal.
abbrev pub serve_by : Option Text → Bool → Option Text → Text → Option JobRequest
serve_by opening false None config = Some (serve opening config)
serve_by opening false (Some journal) config = Some (serve_kept opening config journal)
serve_by opening true None config = None
serve_by opening true (Some journal) config = Some (serve_synced opening config journal)

-- What `serve --days` asks for, given the files of --opening and --journal, whether --sync and --new-day are given, the
-- folder of --days, and CONFIG. None if --opening or --journal is given.
abbrev pub serve_days_by : Option Text → Option Text → Bool → Bool → Text → Text → Option JobRequest
serve_days_by None None synced new_day folder config = Some (serve_days synced new_day folder config)
serve_days_by opening journal synced new_day folder config = None

-- What `serve --days --check` asks for, given the same. None if any other option is given.
abbrev pub check_by : Option Text → Option Text → Bool → Bool → Text → Text → Option JobRequest
check_by None None false false folder config = Some (check_days folder config)
check_by opening journal synced new_day folder config = None

-- What `serve` asks for, given its values and CONFIG:
-- - if --days and --check are given: the result of `check_by`
-- - if --days is given: the result of `serve_days_by`
-- - if --new-day or --check is given without --days: None
-- - or else: the result of `serve_by`
abbrev pub served_in : List Row → Text → Option JobRequest
served_in rows config =
    elim (days_in rows) [
      | Some folder ↦
          if is_set (codes "check") rows
          then check_by (opening_in rows) (first_of (codes "journal") rows) (is_set (codes "sync") rows) (is_set (codes "new-day") rows) folder config
          else serve_days_by (opening_in rows) (first_of (codes "journal") rows) (is_set (codes "sync") rows) (is_set (codes "new-day") rows) folder config
      | None ↦
          if is_set (codes "new-day") rows then None
          else if is_set (codes "check") rows then None
          else serve_by (opening_in rows) (is_set (codes "sync") rows) (first_of (codes "journal") rows) config
    ]

abbrev pub serve_in : List Row → Option JobRequest
serve_in rows = option_and_then (served_in rows) (first_of (codes "config") rows)

-- the job that the subcommand with this name and these values asks for; None if the values are wrong, contradictory or
-- incomplete, or if there is no such subcommand
abbrev pub subcommand_request : Text → List Row → Option JobRequest
subcommand_request name rows =
    if bytes_eq name (codes "asm") then file_in (codes "file") asm rows
    else if bytes_eq name (codes "dis") then dis_in rows
    else if bytes_eq name (codes "verify") then verify_in rows
    else if bytes_eq name (codes "play") then files_in (codes "config") (codes "script") (play (opening_in rows)) rows
    else if bytes_eq name (codes "audit") then audit_in rows
    else if bytes_eq name (codes "carry") then files_in (codes "config") (codes "journal") (carry (opening_in rows)) rows
    else if bytes_eq name (codes "report") then files_in (codes "config") (codes "journal") (report (opening_in rows)) rows
    else if bytes_eq name (codes "export") then export_in rows
    else if bytes_eq name (codes "explain") then explain_in rows
    else if bytes_eq name (codes "run") then run_in rows
    else if bytes_eq name (codes "whatif") then what_if_in rows
    else if bytes_eq name (codes "follow") then files_in (codes "folder") (codes "config") follow rows
    else if bytes_eq name (codes "serve") then serve_in rows
    else None

abbrev pub parsed_request : Option (Text × List Row) → Option JobRequest
parsed_request None = Some nothing
parsed_request (Some p) = subcommand_request p.0 p.1

-- the bytes of a file's name; None if no file is named
abbrev pub named : Option (String Global) → Option Text
named file = option_map string_bytes file

-- what a job of `fc whatif` says of the other rule
abbrev pub trial_of : WhatIf → Trial
trial_of w = record { slot = w.slot; counters = w.counters; context = w.context; reading = w.reading; format = w.format }

-- the request that a job of `fc serve` stands for
abbrev pub serve_request : ServeJob → JobRequest
serve_request (served.Printed opening config) = serve (named opening) (string_bytes config)
serve_request (served.Kept opening config journal) = serve_kept (named opening) (string_bytes config) (string_bytes journal)
serve_request (served.Synced opening config journal) = serve_synced (named opening) (string_bytes config) (string_bytes journal)
serve_request (served.Days folder config is_synced is_new_day) = serve_days is_synced is_new_day (string_bytes folder) (string_bytes config)
serve_request (served.Check folder config) = check_days (string_bytes folder) (string_bytes config)

-- The request that a job stands for. It is None for the help and the version, which are texts to show.
abbrev pub requested : Job → Option JobRequest
requested job.NoWords = Some nothing
requested (job.Asm file) = Some (asm (string_bytes file))
requested (job.Dis file) = Some (dis (string_bytes file))
requested (job.DisUnits file) = Some (dis_units (string_bytes file))
requested (job.Verify counters context file) = Some (verify counters context (string_bytes file))
requested (job.Play opening config script) = Some (play (named opening) (string_bytes config) (string_bytes script))
requested (job.Audit opening config journal) = Some (audit (named opening) (string_bytes config) (string_bytes journal))
requested (job.Carry opening config journal) = Some (carry (named opening) (string_bytes config) (string_bytes journal))
requested (job.AuditDays folder config) = Some (audit_days (string_bytes folder) (string_bytes config))
requested (job.Report opening config journal) = Some (report (named opening) (string_bytes config) (string_bytes journal))
requested (job.Export rows format opening config journal) = Some (export rows format (named opening) (string_bytes config) (string_bytes journal))
requested (job.Explain opening config journal number is_json) =
    Some (explain is_json (named opening) (string_bytes config) (string_bytes journal) number)
requested (job.ExplainDay folder config day number is_json) = Some (explain_day is_json (string_bytes folder) (string_bytes config) day number)
requested (job.Run rule counters context is_traced is_json fields) =
    Some (run counters context is_traced is_json (string_bytes rule) (map string_bytes fields.items))
requested (job.WhatIf opening config journal w) =
    Some (what_if (trial_of w) (named opening) (string_bytes config) (string_bytes journal) (string_bytes w.rule))
requested (job.WhatIfDays folder config w) = Some (what_if_days (trial_of w) (string_bytes folder) (string_bytes config) (string_bytes w.rule))
requested (job.Follow folder config) = Some (follow (string_bytes folder) (string_bytes config))
requested (job.Serve served) = Some (serve_request served)
requested (job.Show text) = None

-- ---- These definitions say which command lines get no job, and what the error messages are.

-- A `clap` error of this kind is the help or the version.
abbrev pub IsHelpOrVersion : ErrorKind → Type 0
IsHelpOrVersion k = (k ≡ kind.DisplayHelp) ⊎ (k ≡ kind.DisplayVersion)

-- The help or the version is among the errors that `clap` can return for the arguments.
abbrev pub MayShow : Kinds → Type 0
MayShow kinds = (k : ErrorKind) × IsAmong k kinds × IsHelpOrVersion k

-- Among the errors that `clap` can return for the arguments is one that is none of these: the help, the version, and
-- that memory ran out.
abbrev pub MayRefuse : Kinds → Type 0
MayRefuse kinds = (k : ErrorKind) × IsAmong k kinds × ¬ IsHelpOrVersion k × (k ≢ kind.OutOfMemory)

-- There is no job for a parsed command line, as for an `audit` with neither JOURNAL nor --days.
abbrev pub HasNoJob : Option (Text × List Row) → Type 0
HasNoJob found = parsed_request found ≡ None

-- the last line of the error message for a command line that `clap` accepts, but whose values are wrong, contradictory
-- or incomplete
abbrev pub further : Text
further = codes "For more information, try '--help'." ++ 10 ∷ []

-- the first line of the error message for an `audit` that `clap` accepts, but whose values are wrong, contradictory or
-- incomplete
abbrev pub audit_message : List Row → Text
audit_message rows =
    elim (days_in rows) [
      | Some _ ↦ codes "error: --days takes neither --opening nor JOURNAL"
      | None ↦ codes "error: audit wants JOURNAL, or --days FOLDER"
    ]

-- the first line of the error message for a `serve` that `clap` accepts, but whose values are wrong, contradictory or
-- incomplete
abbrev pub serve_message : List Row → Text
serve_message rows =
    elim (days_in rows) [
      | Some _ ↦
          if is_set (codes "check") rows then codes "error: --check takes none of --opening, --journal, --sync and --new-day"
          else codes "error: --days takes neither --opening nor --journal"
      | None ↦
          if is_set (codes "new-day") rows then codes "error: --new-day wants --days FOLDER"
          else if is_set (codes "check") rows then codes "error: --check wants --days FOLDER"
          else codes "error: --sync wants --journal FILE or --days FOLDER"
    ]

-- the first line of the error message for a `verify` or a `run` that `clap` accepts, but whose values are wrong
abbrev pub verify_message : List Row → Text
verify_message rows =
    elim (mask_in rows) [
      | Some _ ↦ codes "error: --context takes 1 or 2"
      | None ↦ codes "error: --counters takes a number of 32 bits, as 6 or 0x6"
    ]

-- the first line of the error message for an `explain` that `clap` accepts, but whose values are wrong or contradictory
abbrev pub explain_message : List Row → Text
explain_message rows =
    elim (entry_in rows) [
      | Some _ ↦ codes "error: --days takes DAY, the number of a day, in place of JOURNAL, and no --opening"
      | None ↦ codes "error: ENTRY is the number of an entry, such as 412"
    ]

-- the first line of the error message for a `whatif` whose options say what they may, but that lacks a word or has one
-- too many
abbrev pub what_if_words_message : List Row → Text
what_if_words_message rows =
    elim (days_in rows) [
      | Some _ ↦ codes "error: --days takes CONFIG and RULE, and neither --opening nor JOURNAL"
      | None ↦ codes "error: whatif wants JOURNAL and RULE, or --days FOLDER and RULE"
    ]

-- the same for a `whatif` whose slot is one
abbrev pub what_if_options_message : List Row → Text
what_if_options_message rows =
    elim (mask_in rows) [
      | None ↦ codes "error: --counters takes a number of 32 bits, as 6 or 0x6"
      | Some _ ↦
          elim (layout_in rows) [
            | None ↦ codes "error: --context takes 1 or 2"
            | Some _ ↦
                if is_set (codes "json") rows && is_set (codes "summary") rows then codes "error: --json and --summary exclude each other"
                else what_if_words_message rows
          ]
    ]

-- the first line of the error message for a `whatif` that `clap` accepts, but whose values are wrong, contradictory or
-- incomplete
abbrev pub what_if_message : List Row → Text
what_if_message rows =
    elim (slot_in rows) [
      | None ↦ codes "error: --slot takes 0 to 15"
      | Some _ ↦ what_if_options_message rows
    ]

-- the first line of the error message for the subcommand with this name and these values, if `clap` accepts the values
-- but they are wrong, contradictory or incomplete
abbrev pub unasked_by : Text → List Row → Text
unasked_by name rows =
    if bytes_eq name (codes "serve") then serve_message rows
    else if bytes_eq name (codes "audit") then audit_message rows
    else if bytes_eq name (codes "export") then codes "error: export takes sales, decisions or events"
    else if bytes_eq name (codes "explain") then explain_message rows
    else if bytes_eq name (codes "whatif") then what_if_message rows
    else verify_message rows

-- the first line of the error message for a command line that `clap` accepts, but whose values are wrong, contradictory
-- or incomplete
abbrev pub unasked_words : Option (Text × List Row) → Text
unasked_words None = codes "error: --context takes 1 or 2"
unasked_words (Some p) = unasked_by p.0 p.1

-- the error message for a command line that `clap` accepts, but whose values are wrong, contradictory or incomplete
abbrev pub unasked_text : Option (Text × List Row) → Text
unasked_text found = unasked_words found ++ 10 ∷ 10 ∷ further

-- When a command line can be refused with this fault:
-- - `Usage` with any text: if `clap` can refuse the arguments
-- - `Usage` with the message about wrong, contradictory or incomplete values (`unasked_text`): if there is no job for
--   the command line (`HasNoJob`)
-- - `OutOfMemory`: always
abbrev pub RefusesBy : Kinds → Option (Text × List Row) → CommandFault → Type 0
RefusesBy kinds found (refusal.Usage text) = MayRefuse kinds ⊎ (HasNoJob found × (string_bytes text ≡ unasked_text found))
RefusesBy kinds found refusal.OutOfMemory = Unit {0}

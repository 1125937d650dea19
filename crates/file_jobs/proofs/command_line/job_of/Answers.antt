use Rattle.std.proofs.Common.{◌≡◌, Box, IfOk, IsSome, List, None, Ok, Err, Option, Result, Some, ap, option_map, subst, sym, unwrap_or}
use Rattle.std.specs.Box.{box_value}
use Rattle.clap.specs.Words.{Row, Text, found_of, rows_of}
use Rattle.clap.specs.declared.parser.matches.ArgMatches.TheViews.{out-ArgMatches, out-SubCommand}
use Rattle.clap.specs.declared.parser.matches.SubCommand.{SubCommand}
use Rattle.clap.specs.Simple.{subcommand_rows}
use Rattle.file_jobs.specs.JobRequest.{requested, subcommand_request}
use Rattle.file_jobs.specs.Refusing.{Finds, IsJobOfLine}
use Rattle.file_jobs.specs.declared.job.Job.{Job}
use Rattle.file_jobs.proofs.command_line.job_of.Goals as goal

-- `found` is a job or None. If it is the right result for a subcommand with the name `name` and the values `rows`
-- (`Finds`), then it is the right result for a command line with this subcommand (`IsJobOfLine`).
finds_in : (p : Text × List Row) (name : Text) (rows : List Row) → p.0 ≡ name → p.1 ≡ rows → (found : Option Job) → Finds name rows found
    → IsJobOfLine (Some p) found
finds_in p name rows n r (Some job) h =
    subst (λ (t : Text). (subcommand_request t p.1 ≡ requested job) × IsSome (requested job)) (sym n)
    (subst (λ (rs : List Row). (subcommand_request name rs ≡ requested job) × IsSome (requested job)) (sym r) h)
finds_in p name rows n r None h =
    subst (λ (t : Text). subcommand_request t p.1 ≡ None) (sym n) (subst (λ (rs : List Row). subcommand_request name rs ≡ None) (sym r) h)

module _ {Z : Type 0} where
  finds : (o : Option (Box SubCommand Z)) (name : Text) (rows : List Row) → Some name ≡ option_map (λ b. (out-SubCommand (box_value b)).name.now) o
      → Some rows ≡ option_map (λ p. p.1) (subcommand_rows o) → {E : Type 0} (r : Result (Option Job) E) → IfOk r (Finds name rows)
      → IfOk r (IsJobOfLine (subcommand_rows o))
  finds None name rows n r result h = let bad : Some name ≡ None = n in absurd (cc)
  finds (Some b) name rows n r (Ok found) h =
      let p : Text × List Row = ((out-SubCommand (box_value b)).name.now, rows_of (found_of (out-SubCommand (box_value b)).matches)) in
      finds_in p name rows (sym (ap (λ o. unwrap_or o name) n)) (sym (ap (λ o. unwrap_or o rows) r)) found h
  finds (Some b) name rows n r (Err e) h = h

pub returns-in-Some-clause-job : goal.returns-in-Some-clause-job
returns-in-Some-clause-job c =
    finds (out-ArgMatches c.args.matches.now).subcommand c.in-Some.name.now (rows_of (found_of c.in-Some.rest.now))
    c.in-Some.ensures.name c.in-Some.ensures.rows
    c.named_job.result c.named_job.ensures

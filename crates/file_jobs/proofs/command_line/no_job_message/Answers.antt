use Rattle.std.proofs.Common.{◌≡◌, Box, List, None, Option, Some, ap, option_map, unwrap_or, ◌∙◌}
use Rattle.std.specs.Box.{box_value}
use Rattle.clap.specs.Words.{Row, Text, found_of, rows_of}
use Rattle.clap.specs.declared.parser.matches.ArgMatches.TheViews.{out-ArgMatches, out-SubCommand}
use Rattle.clap.specs.declared.parser.matches.SubCommand.{SubCommand}
use Rattle.clap.specs.Simple.{subcommand_rows}
use Rattle.file_jobs.specs.JobRequest.{unasked_by, unasked_words}
use Rattle.file_jobs.proofs.command_line.no_job_message.Goals as goal

module _ {Z : Type 0} where
  -- If `name` and `rows` are the name and the values of the subcommand `o`, then `unasked_by` and `unasked_words` give
  -- the same first line of an error message.
  of_name : (o : Option (Box SubCommand Z)) (name : Text) (rows : List Row) → Some name ≡ option_map (λ b. (out-SubCommand (box_value b)).name.now) o
      → Some rows ≡ option_map (λ p. p.1) (subcommand_rows o) → unasked_by name rows ≡ unasked_words (subcommand_rows o)
  of_name None name rows n r = let bad : Some name ≡ None = n in absurd (cc)
  of_name (Some b) name rows n r =
      let same : name ≡ (out-SubCommand (box_value b)).name.now = ap (λ o. unwrap_or o name) n in
      let both : rows ≡ rows_of (found_of (out-SubCommand (box_value b)).matches) = ap (λ o. unwrap_or o rows) r in
      ap (λ (t : Text). unasked_by t rows) same ∙ ap (λ (rs : List Row). unasked_by (out-SubCommand (box_value b)).name.now rs) both

pub returns-in-Some : goal.returns-in-Some
returns-in-Some c =
    c.unasked_by.ensures
    ∙ of_name (out-ArgMatches c.args.matches.now).subcommand c.in-Some.name.now (rows_of (found_of c.in-Some.rest.now))
    c.in-Some.ensures.name c.in-Some.ensures.rows

use Rattle.std.proofs.Common.{ap, ◌∙◌, ◌≡◌, IfOk, Result, Ok, Err, false}
use Rattle.clap.specs.Words.{AddsSubcommand, App, app_of, with_subcommand}
use Rattle.clap.specs.declared.builder.command.Command.{Command}
use Rattle.clap.specs.declared.builder.command.Command.TheViews.{out-Command}
use Rattle.file_jobs.specs.Described.{app_for}
use Rattle.file_jobs.proofs.subcommands.with_word.Goals as goal

-- An `App` describes a command and its subcommands. If the command `sub` has no global arguments, then adding it to the
-- command `old` gives a command that is described by the `App` of `old` with `sub` added.
added : (old sub : Command) (a : App) → app_of sub ≡ a → (out-Command sub).has_globals ≡ false → {E : Type 0} (r : Result Command E)
    → IfOk r (AddsSubcommand old sub) → IfOk r (λ c. app_of c ≡ with_subcommand (app_of old) a.top)
added old sub a e local (Ok c) h = h.shape local ∙ ap (λ (a : App). with_subcommand (app_of old) a.top) e
added old sub a e local (Err f) h = h

pub returns : goal.returns
returns c =
    added c.args.some c.in_ok-subcommand.subcommand (app_for c.args.word) c.in_ok-subcommand.ensures.app c.in_ok-subcommand.ensures.local
    c.subcommand.result c.subcommand.ensures

use Rattle.std.proofs.Common.{◌≡◌, false, drop}
use Rattle.clap.specs.Words.{app_of, new_app}
use Rattle.clap.specs.declared.builder.command.Command.TheViews.{out-Command}
use Rattle.file_jobs.specs.Described.{with_rules}
use Rattle.file_jobs.proofs.subcommands.subcommand_of.Given as goal

-- Invariant of the loop: adding the remaining arguments to `command` gives the subcommand with all its arguments.
-- `command` has no global arguments.
abbrev pub invariant-loop-argument : goal.invariant-loop-argument
invariant-loop-argument l =
    record {
      told : with_rules (app_of l.command) (drop l.argument-index l.argument-items) ≡ with_rules (new_app l.word.name.now) l.word.arguments.now;
      local : (out-Command l.command).has_globals ≡ false;
    }

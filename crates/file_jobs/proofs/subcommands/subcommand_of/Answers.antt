use Rattle.std.proofs.Common.{◌≡◌, ◌<◌, ◌+◌, ◌∙◌, ℕ, List, ap, sym, drop, get_or, length}
use Rattle.std.proofs.lemmas.List.{drop_more}
use Rattle.clap.specs.Words.{App, Rule, app_of, rule_of, with_rule}
use Rattle.file_jobs.specs.Described.{rule_for, with_rules}
use Rattle.file_jobs.specs.declared.subcommands.Argument.{Argument}
use Rattle.file_jobs.proofs.subcommands.subcommand_of.Goals as goal

-- Adding argument number `i` and then all later arguments to the command `a` gives the same command as adding to `a`
-- all arguments from number `i` on.
moved : (a b : App) (args : List Argument) (i : ℕ) (x : Argument) (r : Rule) → i < length args → r ≡ rule_for (get_or args i x) → b ≡ with_rule a r
    → with_rules b (drop (i + 1) args) ≡ with_rules a (drop i args)
moved a b args i x r lt e f =
    ap (λ (x : App). with_rules x (drop (i + 1) args)) (f ∙ ap (with_rule a) e) ∙ sym (ap (with_rules a) (drop_more args i x lt))

pub loop-argument-preserved : goal.loop-argument-preserved
loop-argument-preserved c = record {
  told =
      moved (app_of c.loop-argument.command) (app_of c.in_ok-command.command) c.args.word.arguments.now c.loop-argument.argument-index _
      (rule_of c.argument_of.result) c.loop-argument-test.true c.argument_of.ensures.rule
      (c.in_ok-command.ensures.shape c.argument_of.ensures.local)
      ∙ c.loop-argument.invariant.told;
  local = c.in_ok-command.ensures.globals ∙ (rw c.loop-argument.invariant.local c.argument_of.ensures.local);
}

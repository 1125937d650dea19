use Rattle.std.proofs.Common.{◌≡◌, ◌<◌, ◌+◌, ◌∙◌, ℕ, List, ap, sym, drop, get_or, length}
use Rattle.std.proofs.lemmas.List.{drop_more}
use Rattle.clap.specs.Words.{App, app_of, with_subcommand}
use Rattle.file_jobs.specs.Described.{app_for, with_words}
use Rattle.file_jobs.specs.declared.subcommands.SubcommandDescription.{SubcommandDescription}
use Rattle.file_jobs.proofs.subcommands.with_words.Goals as goal

-- Adding subcommand number `i` and then all later subcommands to the command `a` gives the same command as adding to
-- `a` all subcommands from number `i` on.
moved : (a b : App) (words : List SubcommandDescription) (i : ℕ) (w : SubcommandDescription) → i < length words → b ≡ with_subcommand a (app_for (get_or words i w)).top
    → with_words b (drop (i + 1) words) ≡ with_words a (drop i words)
moved a b words i w lt e = ap (λ (x : App). with_words x (drop (i + 1) words)) e ∙ sym (ap (with_words a) (drop_more words i w lt))

pub loop-word-preserved : goal.loop-word-preserved
loop-word-preserved c =
    moved (app_of c.loop-word.command) (app_of c.in_ok-command.command) c.args.words.now c.loop-word.word-index _ c.loop-word-test.true
    c.in_ok-command.ensures
    ∙ c.loop-word.invariant

-- Promises: the `clap` argument that is made from each `Argument`, and the `clap` command that is made from each
-- `SubcommandDescription`.
use Rattle.std.specs.Prelude.{List, [], ◌∷◌, codes}
use Rattle.clap.specs.Words.{App, Rule, new_app, with_rule, with_subcommand}
use Rattle.file_jobs.specs.JobRequest.{context_rule, fields_rule, file_rule, flag_rule, kind_rule, mask_rule, option_rule, slot_rule, spare_rule}
use Rattle.file_jobs.specs.declared.subcommands.Argument.{Argument}
use Rattle.file_jobs.specs.declared.subcommands.Argument.TheVariants as argument
use Rattle.file_jobs.specs.declared.subcommands.SubcommandDescription.{SubcommandDescription}

abbrev pub rule_for : Argument → Rule
rule_for (argument.File name help) = file_rule name.now
rule_for (argument.SpareFile name help) = spare_rule name.now
rule_for argument.Kind = kind_rule
rule_for argument.Mask = mask_rule
rule_for argument.Context = context_rule
rule_for (argument.FileOption name help) = option_rule name.now
rule_for (argument.Days help) = option_rule (codes "days")
rule_for (argument.Flag name help) = flag_rule name.now
rule_for argument.Fields = fields_rule
rule_for argument.Slot = slot_rule

-- adds these arguments to a command, in their order
abbrev pub with_rules : App → List Argument → App
with_rules a [] = a
with_rules a (x ∷ xs) = with_rules (with_rule a (rule_for x)) xs

abbrev pub app_for : SubcommandDescription → App
app_for word = with_rules (new_app word.name.now) word.arguments.now

-- adds these subcommands to a command, in their order
abbrev pub with_words : App → List SubcommandDescription → App
with_words a [] = a
with_words a (word ∷ words) = with_words (with_subcommand a (app_for word).top) words

-- What the program's arguments and subcommands are for `clap`.
use Rattle.std.specs.Prelude.{◌∷◌, List, [], Some}
use Rattle.clap.specs.Words.{App, Rule, Text, new_app, new_rule, with_rule, with_subcommand}
use Rattle.clap.specs.declared.builder.ArgAction.TheVariants.{Set}
use Rattle.clap.specs.declared.builder.value_parser.ValueParser.TheVariants.{Unsigned}
use Rattle.lake_words.specs.Words.{flag, number_option, number_place, option, optional_place, place, text_option}
use Rattle.lake_words.specs.declared.arguments.Argument.{Argument}
use Rattle.lake_words.specs.declared.arguments.Kind.{Kind}
use Rattle.lake_words.specs.declared.arguments.Kind.TheVariants as kinds
use Rattle.lake_words.specs.declared.subcommands.Subcommand.{Subcommand}

-- the rule of an argument of that name
abbrev pub rule_by : Text → Kind → Rule
rule_by name kinds.Place = place name
rule_by name kinds.OptionalPlace = optional_place name
rule_by name kinds.NumberPlace = number_place name
rule_by name (kinds.Text value) = option name
rule_by name (kinds.TextOr value default) = text_option name default.now
rule_by name (kinds.Number greatest) =
    record (new_rule name) { long = Some name; action = Some Set; value_names = 1; parser = Some (Unsigned 0 greatest) }
rule_by name (kinds.NeededNumber greatest) = record (option name) { parser = Some (Unsigned 0 greatest) }
rule_by name (kinds.NumberOr value least greatest default) = number_option name least greatest default.now
rule_by name kinds.Flag = flag name

abbrev pub rule_in : Argument → Rule
rule_in argument = rule_by argument.name.now argument.kind

-- a command with these arguments, in this order
abbrev pub with_arguments : App → List Argument → App
with_arguments app [] = app
with_arguments app (argument ∷ arguments) = with_arguments (with_rule app (rule_in argument)) arguments

-- what a subcommand is for `clap`
abbrev pub app_in : Subcommand → App
app_in said = with_arguments (new_app said.name.now) said.arguments.now

-- a command with these subcommands, in this order
abbrev pub with_subcommands : App → List Subcommand → App
with_subcommands app [] = app
with_subcommands app (said ∷ more) = with_subcommands (with_subcommand app (app_in said).top) more

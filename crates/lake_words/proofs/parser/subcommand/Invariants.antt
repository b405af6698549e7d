use Rattle.std.proofs.Common.{◌≡◌, drop, false}
use Rattle.clap.specs.Words.{app_of}
use Rattle.clap.specs.declared.builder.command.Command.TheViews.{out-Command as fields_of}
use Rattle.lake_words.specs.Arguments.{with_arguments}
use Rattle.lake_words.proofs.parser.subcommand.Given as goal

abbrev pub invariant-loop-one : goal.invariant-loop-one
invariant-loop-one l = record {
  app : with_arguments (app_of l.command) (drop l.one-index l.arguments) ≡ with_arguments (app_of l.initial.command) l.arguments;
  local : (fields_of l.command).has_globals ≡ false;
}
